use Rattle.std.proofs.Common.{◌∙◌}
use Rattle.ae_elaboration.proofs.elaboration.denial.Goals as goal

pub returns : goal.returns
returns c = c.in_ok-held.ensures ∙ c.in_ok-denied.ensures
