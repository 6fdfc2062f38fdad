use Rattle.std.proofs.Common.{arith, ◌≡◌, ◌∙◌, ap, sym, map, take}
use Rattle.std.proofs.lemmas.List.{take_all}
use Rattle.ae_elab.specs.Sizes.{sort_size}
use Rattle.ae_sizes.specs.Inner.Counted.{counted, pile}
use Rattle.ae_sizes.proofs.SortSizes.{size_named}
use Rattle.ae_sizes.proofs.sorts.+size_of_sort.Goals as goal

pub returns-after-loop-arg : goal.returns-after-loop-arg
returns-after-loop-arg t c =
    let e : take c.loop-arg.arg-index c.as_slice-arg-items.result.now ≡ c.in-Named.args =
    take_all c.loop-arg.arg-index c.as_slice-arg-items.result.now (omega arith) ∙ c.as_slice-arg-items.ensures in
    c.round.ensures (map sort_size c.in-Named.args) (c.loop-arg.invariant ∙ ap (λ xs. counted (pile (map sort_size xs))) e)
    ∙ ap counted (sym (size_named _ c.in-Named.args))
    ∙ ap (λ s. counted (sort_size s)) (sym c.in-Named.is)
