use Rattle.std.proofs.Common.{arith, ◌∙◌, take, ap}
use Rattle.ae_elab.specs.Sizes.{sort_size}
use Rattle.ae_elab.specs.Weights as rule
use Rattle.ae_sizes.specs.Inner.Counted.{counted, pile}
use Rattle.ae_elab.specs.Conditions.{shown}
use Rattle.ae_types.specs.Bound.{bound}
use Rattle.ae_types.specs.Substitutions.{put}
use Rattle.ae_sizes.proofs.CountedLaws.{map_next}
use Rattle.ae_sizes.proofs.SortSizes.{size_shown}
use Rattle.ae_sizes.proofs.sorts.bound_sizes.Goals as goal

pub loop-sort-preserved : goal.loop-sort-preserved
loop-sort-preserved c =
    let m = bound c.args.bindings.now in
    let f = shown m in
    let i = c.loop-sort.sort-index in
    let s = c.sort-item.result in
    c.side_by_side-parts.ensures (rule.sort_sizes f (take i c.args.sorts.now)) (sort_size (put f s)) c.loop-sort.invariant
    (c.size_of_sort.ensures ∙ ap (λ z. counted (sort_size z)) c.in_ok-whole.ensures ∙ ap counted (size_shown m s))
    ∙ ap (λ z. counted (pile z)) (map_next (λ t. sort_size (put f t)) c.args.sorts.now i s (omega arith) c.sort-item.is)
