use Rattle.std.proofs.Common.{◌∙◌}
use Rattle.ae_just.proofs.justs.Justs.steps.Goals as goal

pub returns : goal.returns
returns c = c.as_slice.ensures ∙ c.self.view_is
