use Rattle.std.proofs.Common.{◌∙◌}
use Rattle.std.proofs.lemmas.Option.{none-some, same_Some}
use Rattle.ae_unmet.proofs.saying.said_at.Goals as goal

pub returns-in-Some : goal.returns-in-Some
returns-in-Some c y e = same_Some c.in-Some.said.now y (c.in-Some.ensures.value ∙ e)

pub returns-in-None : goal.returns-in-None
returns-in-None c y e = absurd (none-some y (c.in-None.ensures.value ∙ e))
