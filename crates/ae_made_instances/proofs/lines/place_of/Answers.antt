use Rattle.std.proofs.Common.{◌∙◌, sym, ap}
use Rattle.std.proofs.lemmas.Option.{same_Some}
use Rattle.std.specs.Option.{option_copied}
use Rattle.ae_base.proofs.Options.{never_some}
use Rattle.ae_made_instances.proofs.lines.place_of.Goals as goal
use Rattle.ae_owners.specs.declared.owners.Owner.{Owner as OwnerEntry}

pub returns-in-Some : goal.returns-in-Some
returns-in-Some c o e = ap (λ (z : OwnerEntry). z.place) (same_Some c.in-Some.found.now o (sym (sym c.get.ensures.value ∙ ap option_copied c.in-Some.is) ∙ e))

pub returns-in-None : goal.returns-in-None
returns-in-None c o e = never_some o (sym (sym c.get.ensures.value ∙ ap option_copied c.in-None.is) ∙ e)
