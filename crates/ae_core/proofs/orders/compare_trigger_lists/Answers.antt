use Rattle.std.proofs.Common.{arith}
use Rattle.std.specs.Cmp.Lexicographic.{slice_cmp}
use Rattle.ae_core.specs.Orders.{term_order}
use Rattle.ae_core.proofs.TreeLaws.{by_order, lists_end}
use Rattle.ae_core.proofs.OrderLaws.{triggers_exact}
use Rattle.ae_core.proofs.orders.compare_trigger_lists.Goals as goal

pub returns-clause-order : goal.returns-clause-order
returns-clause-order c =
    let e = lists_end (slice_cmp term_order) c.args.left.now c.args.right.now c.loop-i.i (omega arith) in
    cc e

pub returns-clause-equal : goal.returns-clause-equal
returns-clause-equal c =
    let e = lists_end (slice_cmp term_order) c.args.left.now c.args.right.now c.loop-i.i (omega arith) in
    by_order (cc e) (triggers_exact c.args.left.now c.args.right.now)
