use Rattle.std.proofs.Common.{arith, ◌∙◌, ◌+◌, true, refl, sym, ap}
use Rattle.ae_elab.specs.Sizes.{total, deepest}
use Rattle.ae_elab.specs.Weights as rule
use Rattle.ae_sizes.specs.Inner.Counted.{counted}
use Rattle.ae_sizes.proofs.CountedLaws.{as_size}
use Rattle.ae_sizes.proofs.weights.block_size.Goals as goal

pub returns-then-merged : goal.returns-then-merged
returns-then-merged c = λ ss s p q.
    let a = c.plus-nodes.ensures (total ss) s.nodes (ap (λ z. z.nodes) p) (ap (λ z. z.nodes) q) in
    let d = c.plus-first.ensures 1 (deepest ss) refl (ap (λ z. z.levels) p) in
    let b = c.greater-levels.ensures (1 + deepest ss) s.levels d (ap (λ z. z.levels) q) in
    as_size c.plus-nodes.result c.greater-levels.result (rule.block_size true ss s) a (omega arith)
    ∙ ap (λ m. counted (rule.block_size m ss s)) (sym c.if-merged.true)
