use Rattle.std.proofs.Common.{◌∷◌, [], ◌++◌, ap, ◌∙◌}
use Rattle.ae_core.specs.Sorts as spec
use Rattle.ae_core.proofs.sorts.owner_fits.Goals as goal

pub returns : goal.returns
returns c =
    c.are_sorts.ensures
    ∙ ap (spec.same_sorts c.args.args.now) (c.as_slice.ensures ∙ c.in_ok-push.ensures.ok ∙ (λ i. c.new-wanted.ensures i ++ c.in_ok-named_sort.ensures i ∷ []))
