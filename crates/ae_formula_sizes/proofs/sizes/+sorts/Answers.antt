use Rattle.std.proofs.Common.{arith, ◌∙◌}
use Rattle.ae_formula_sizes.specs.Inner.Counted as spec
use Rattle.ae_formula_sizes.proofs.SortSizes.{more_sorts}
use Rattle.ae_formula_sizes.proofs.sizes.+sorts.Goals as goal

pub size_of_sorts-loop-sort-preserved : goal.size_of_sorts-loop-sort-preserved
size_of_sorts-loop-sort-preserved t c =
    c.both-size.ensures ∙ (λ i. spec.both (c.loop-sort.invariant i) (c.size_of_sort.ensures i))
    ∙ more_sorts c.args.sorts.now c.loop-sort.sort-index c.sort-item.result (omega arith) c.sort-item.is
