use Rattle.std.proofs.Common.{Ok, ap}
use Rattle.ae_owed_instances.proofs.lowering.lower_all.Goals as goal

pub returns-then-not-branch-clause-least : goal.returns-then-not-branch-clause-least
returns-then-not-branch-clause-least c = c.in_ok-lower_each.ensures.least (ap Ok c.if-not-branch.true)
