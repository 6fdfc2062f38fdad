use Rattle.std.proofs.Common.{sym}
use Rattle.ae_inst.proofs.SameNames.{lengths_differ}
use Rattle.ae_inst.proofs.instances.are_same.Goals as goal

pub returns-then-left-right : goal.returns-then-left-right
returns-then-left-right g c = sym (lengths_differ (g.E.Equalities.alike c.args.equalities.now) c.args.left.now c.args.right.now c.if-left-right.true)
