use Rattle.std.proofs.Common.{arith, refl, ap}
use Rattle.ae_elab.specs.Sizes.{total, deepest, round}
use Rattle.ae_sizes.proofs.CountedLaws.{as_size}
use Rattle.ae_sizes.proofs.weights.round.Goals as goal

pub returns : goal.returns
returns c = λ ss p.
    let a = c.plus.ensures 1 (total ss) refl (ap (λ z. z.nodes) p) in
    let b = c.plus-2.ensures 1 (deepest ss) refl (ap (λ z. z.levels) p) in
    as_size c.plus.result c.plus-2.result (round ss) (omega arith) (omega arith)
