use Rattle.std.proofs.Common.{ap, ◌∙◌}
use Rattle.std.proofs.lemmas.Option.{none-some, same_Some}
use Rattle.ae_conflicts.specs.declared.assumed.Assumed.{Assumed}
use Rattle.ae_unmet.proofs.saying.tag_at.Goals as goal

pub returns-in-Some : goal.returns-in-Some
returns-in-Some c a e = ap (λ (x : Assumed). x.tag) (same_Some c.in-Some.assumed.now a (c.in-Some.ensures.value ∙ e))

pub returns-in-None : goal.returns-in-None
returns-in-None c a e = absurd (none-some a (c.in-None.ensures.value ∙ e))
