use Rattle.std.proofs.Common.{◌≡◌, drop}
use Rattle.std.specs.Cmp.Lexicographic.{slice_cmp}
use Rattle.ae_core.specs.Orders.{term_order}
use Rattle.ae_core.proofs.orders.compare_trigger_lists.Given as goal

abbrev pub invariant-loop-i : goal.invariant-loop-i
invariant-loop-i l =
    slice_cmp (slice_cmp term_order) (drop l.i l.left) (drop l.i l.right) ≡ slice_cmp (slice_cmp term_order) l.left l.right
