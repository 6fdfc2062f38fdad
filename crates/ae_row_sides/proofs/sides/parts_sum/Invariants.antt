use Rattle.std.proofs.Common.{◌≡◌, drop, None}
use Rattle.ae_core.specs.declared.terms.Sort.{Int}
use Rattle.ae_journal.specs.Sides as spec
use Rattle.ae_store.specs.Shapes.{shapes}
use Rattle.ae_store.specs.Terms.{terms}
use Rattle.ae_row_sides.specs.Inner.Sums.{summed}
use Rattle.ae_row_sides.proofs.sides.parts_sum.Given as goal

abbrev pub invariant-loop-part : goal.invariant-loop-part
invariant-loop-part l =
    summed l.sum (spec.summands Int (terms (shapes l.store.nodes)) (drop l.part-index l.parts)) ≡ summed None (spec.summands Int (terms (shapes l.store.nodes)) l.parts)
