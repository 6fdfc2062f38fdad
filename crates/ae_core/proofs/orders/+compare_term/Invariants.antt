use Rattle.std.proofs.Common.{◌≡◌, drop}
use Rattle.std.specs.Cmp.Lexicographic.{slice_cmp}
use Rattle.ae_core.specs.Orders.{term_order}
use Rattle.ae_core.proofs.orders.+compare_term.Given as goal

abbrev pub invariant-compare_term_lists-loop-i : goal.invariant-compare_term_lists-loop-i
invariant-compare_term_lists-loop-i l =
    slice_cmp term_order (drop l.i l.left) (drop l.i l.right) ≡ slice_cmp term_order l.left l.right
