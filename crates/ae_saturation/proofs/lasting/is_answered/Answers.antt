use Rattle.ae_value_table.specs.Alike.{alike}
use Rattle.ae_saturation.proofs.Looking.{answered_true, answered_false}
use Rattle.ae_saturation.proofs.lasting.is_answered.Goals as goal

pub returns-then-positive : goal.returns-then-positive
returns-then-positive c = answered_true (alike c.args.held.now.values c.args.left c.args.right) c.same-same.result c.args.positive c.same-same.ensures c.if-positive.true

pub returns-else-positive : goal.returns-else-positive
returns-else-positive c = answered_false (alike c.args.held.now.values c.args.left c.args.right) c.same-same.result c.args.positive c.same-same.ensures c.if-positive.false
