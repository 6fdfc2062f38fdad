use Rattle.std.proofs.Common.{◌≡◌, sym, ap, ◌∙◌, slice_set}
use Rattle.std.proofs.lemmas.Option.{same_Some}
use Rattle.ae_between_rounds.specs.declared.search.Instance.{Instance}
use Rattle.ae_owed_instances.proofs.Lists.{read_at}
use Rattle.ae_trigger.specs.declared.patterns.Subst.{Subst}
use Rattle.ae_owed_instances.proofs.lowering.set_number.Goals as goal

pub returns : goal.returns
returns c = λ i at.
    let here = read_at c.args.made.now c.as_slice-old.result.now c.args.place c.index-old-place.result c.as_slice-old.ensures c.requires.within c.index-old-place.is in
    let one : c.index-old-place.result ≡ i = same_Some c.index-old-place.result i (sym here ∙ at) in
    c.set.ensures
    ∙ ap (λ (z : Subst). slice_set c.args.made.now c.args.place (record { owner = c.index-old-place.result.owner; subst = z; number = c.args.number })) c.in_ok-subst.ensures
    ∙ ap (λ (z : Instance). slice_set c.args.made.now c.args.place (record z { number = c.args.number })) one
