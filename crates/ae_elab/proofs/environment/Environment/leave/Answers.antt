use Rattle.std.proofs.Common.{◌∙◌, ap}
use Rattle.ae_elab.specs.Environments.{locals}
use Rattle.ae_elab.specs.Nodes.{entries_of}
use Rattle.ae_elab.proofs.LocalLaws.{one_less}
use Rattle.ae_elab.proofs.environment.Environment.leave.Goals as goal

pub returns-clause-locals : goal.returns-clause-locals
returns-clause-locals c l ls e = one_less (entries_of c.self.inside.nodes) c.self.inside.locals c.drop_last.new.locals c.drop_last.ensures l ls (ap locals c.self.view_is ∙ e)
