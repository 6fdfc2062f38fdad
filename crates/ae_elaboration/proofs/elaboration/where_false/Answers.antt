use Rattle.std.proofs.Common.{◌∙◌}
use Rattle.ae_elaboration.proofs.elaboration.where_false.Goals as goal

pub returns : goal.returns
returns c = c.in_ok-held.ensures ∙ c.in_ok-whole.ensures
