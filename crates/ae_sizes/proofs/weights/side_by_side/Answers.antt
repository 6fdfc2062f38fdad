use Rattle.std.proofs.Common.{arith, ◌++◌, ◌∷◌, [], ap}
use Rattle.ae_elab.specs.Sizes.{total, deepest}
use Rattle.ae_sizes.specs.Inner.Counted.{pile}
use Rattle.ae_sizes.proofs.CountedLaws.{as_size, total_both, deepest_both}
use Rattle.ae_sizes.proofs.weights.side_by_side.Goals as goal

pub returns : goal.returns
returns c = λ ss s p q.
    let a = c.plus.ensures (total ss) s.nodes (ap (λ z. z.nodes) p) (ap (λ z. z.nodes) q) in
    let b = c.greater.ensures (deepest ss) s.levels (ap (λ z. z.levels) p) (ap (λ z. z.levels) q) in
    let x = total_both ss (s ∷ []) in
    let y = deepest_both ss (s ∷ []) in
    as_size c.plus.result c.greater.result (pile (ss ++ s ∷ [])) (omega arith) (omega arith)
