use Rattle.std.proofs.Common.{◌≡◌, ap, ◌∙◌, arith}
use Rattle.std.specs.Ordering.{nat_cmp}
use Rattle.ae_core.specs.Orders.{rank, sort_order, sort_tree}
use Rattle.ae_core.proofs.TreeLaws.{by_order, lists_end}
use Rattle.ae_core.proofs.OrderLaws.{sort_exact, sorts_exact, named_order, sorts_apart, sort_not_var, sort_not_rigid, sort_not_int, sort_not_real, sort_not_bool, sort_not_unit, sort_not_named, sort_tree_var, sort_tree_rigid, sort_tree_int, sort_tree_real, sort_tree_bool, sort_tree_unit, sort_tree_named}
use Rattle.ae_core.proofs.orders.+compare_sort.Goals as goal
use Rattle.ae_core.proofs.orders.+compare_sort.Goals.{compare_sorts-in_default-via-in-Var+in_default, compare_sorts-in_default-via-in-Rigid+in_default, compare_sorts-in_default-via-in-Int+in_default, compare_sorts-in_default-via-in-Real+in_default, compare_sorts-in_default-via-in-Bool+in_default, compare_sorts-in_default-via-in-Unit+in_default, compare_sorts-in_default-via-in-Named+in_default}

pub compare_sort_lists-returns-clause-order : goal.compare_sort_lists-returns-clause-order
compare_sort_lists-returns-clause-order t c =
    let e = lists_end sort_order c.args.left.now c.args.right.now c.loop-i.i (omega arith) in
    cc e

pub compare_sort_lists-returns-clause-equal : goal.compare_sort_lists-returns-clause-equal
compare_sort_lists-returns-clause-equal t c =
    let e = lists_end sort_order c.args.left.now c.args.right.now c.loop-i.i (omega arith) in
    by_order (cc e) (sorts_exact c.args.left.now c.args.right.now)

pub compare_sorts-returns-in-Equal-clause-order : goal.compare_sorts-returns-in-Equal-clause-order
compare_sorts-returns-in-Equal-clause-order t c =
    let e = named_order c.in-Named-Named.a c.in-Named-Named.s c.in-Named-Named.b c.in-Named-Named.t (cc) in
    cc e

-- different variants go by their ranks
pub compare_sorts-returns-in_default : goal.compare_sorts-returns-in_default
compare_sorts-returns-in_default t c =
    let l = c.args.left.now in
    let r = c.args.right.now in
    let e : nat_cmp (rank (sort_tree l)) (rank (sort_tree r)) ≡ sort_order l r = elim c.in_default.branch [
      | compare_sorts-in_default-via-in-Var+in_default w ↦ sorts_apart l r _ _ (ap sort_tree w.in_default.is-0 ∙ sort_tree_var _) (sort_not_var w.in_default.not-Var-1)
      | compare_sorts-in_default-via-in-Rigid+in_default w ↦ sorts_apart l r _ _ (ap sort_tree w.in_default.is-0 ∙ sort_tree_rigid _) (sort_not_rigid w.in_default.not-Rigid-1)
      | compare_sorts-in_default-via-in-Int+in_default w ↦ sorts_apart l r _ _ (ap sort_tree w.in_default.is-0 ∙ sort_tree_int) (sort_not_int w.in_default.not-Int-1)
      | compare_sorts-in_default-via-in-Real+in_default w ↦ sorts_apart l r _ _ (ap sort_tree w.in_default.is-0 ∙ sort_tree_real) (sort_not_real w.in_default.not-Real-1)
      | compare_sorts-in_default-via-in-Bool+in_default w ↦ sorts_apart l r _ _ (ap sort_tree w.in_default.is-0 ∙ sort_tree_bool) (sort_not_bool w.in_default.not-Bool-1)
      | compare_sorts-in_default-via-in-Unit+in_default w ↦ sorts_apart l r _ _ (ap sort_tree w.in_default.is-0 ∙ sort_tree_unit) (sort_not_unit w.in_default.not-Unit-1)
      | compare_sorts-in_default-via-in-Named+in_default w ↦ sorts_apart l r _ _ (ap sort_tree w.in_default.is-0 ∙ sort_tree_named _ _) (sort_not_named w.in_default.not-Named-1)
    ] in
    let o : c.cmp-in_default.result ≡ sort_order l r = cc e in
    record { order = o; equal = by_order o (sort_exact l r) }
