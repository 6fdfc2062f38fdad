use Rattle.std.proofs.Common.{◌≡◌, ap, ◌∙◌, arith}
use Rattle.std.specs.Ordering.{nat_cmp}
use Rattle.std.specs.Cmp.Lexicographic.{slice_cmp}
use Rattle.ae_core.specs.Orders.{rank, term_order, term_tree}
use Rattle.ae_core.proofs.TreeLaws.{by_order, lists_end, then_on, then_stop}
use Rattle.ae_core.proofs.OrderLaws.{apply_order, term_exact, terms_exact, terms_apart, term_not_bound, term_not_num, term_not_fresh, term_not_apply, term_tree_bound, term_tree_num, term_tree_fresh, term_tree_apply}
use Rattle.ae_core.proofs.orders.+compare_term.Goals as goal
use Rattle.ae_core.proofs.orders.+compare_term.Goals.{compare_terms-in_default-via-in-Bound+in_default, compare_terms-in_default-via-in-Num+in_default, compare_terms-in_default-via-in-Fresh+in_default, compare_terms-in_default-via-in-Apply+in_default}

pub compare_term_lists-returns-clause-order : goal.compare_term_lists-returns-clause-order
compare_term_lists-returns-clause-order t c =
    let e = lists_end term_order c.args.left.now c.args.right.now c.loop-i.i (omega arith) in
    cc e

pub compare_term_lists-returns-clause-equal : goal.compare_term_lists-returns-clause-equal
compare_term_lists-returns-clause-equal t c =
    let e = lists_end term_order c.args.left.now c.args.right.now c.loop-i.i (omega arith) in
    by_order (cc e) (terms_exact c.args.left.now c.args.right.now)

-- different variants go by their ranks
pub compare_terms-returns-in_default : goal.compare_terms-returns-in_default
compare_terms-returns-in_default t c =
    let l = c.args.left.now in
    let r = c.args.right.now in
    let e : nat_cmp (rank (term_tree l)) (rank (term_tree r)) ≡ term_order l r = elim c.in_default.branch [
      | compare_terms-in_default-via-in-Bound+in_default w ↦ terms_apart l r _ _ (ap term_tree w.in_default.is-0 ∙ term_tree_bound _) (term_not_bound w.in_default.not-Bound-1)
      | compare_terms-in_default-via-in-Num+in_default w ↦ terms_apart l r _ _ (ap term_tree w.in_default.is-0 ∙ term_tree_num _ _ _) (term_not_num w.in_default.not-Num-1)
      | compare_terms-in_default-via-in-Fresh+in_default w ↦ terms_apart l r _ _ (ap term_tree w.in_default.is-0 ∙ term_tree_fresh _ _) (term_not_fresh w.in_default.not-Fresh-1)
      | compare_terms-in_default-via-in-Apply+in_default w ↦ terms_apart l r _ _ (ap term_tree w.in_default.is-0 ∙ term_tree_apply _ _ _) (term_not_apply w.in_default.not-Apply-1)
    ] in
    let o : c.cmp-in_default.result ≡ term_order l r = cc e in
    record { order = o; equal = by_order o (term_exact l r) }

-- applications: heads, then sorts, then arguments
pub compare_terms-returns-in-Equal-then_sorts : goal.compare_terms-returns-in-Equal-then_sorts
compare_terms-returns-in-Equal-then_sorts t c =
    let d = c.in-Apply-Apply in
    let e = apply_order d.a d.s d.us d.b d.t d.vs c.then_sorts.result (cc) in
    let o : c.compare_term_lists.result ≡ term_order c.args.left.now c.args.right.now = then_on _ _ _ (cc e) c.in-Equal-then_sorts.is in
    record { order = o; equal = by_order o (term_exact c.args.left.now c.args.right.now) }

pub compare_terms-returns-in_default-then_sorts : goal.compare_terms-returns-in_default-then_sorts
compare_terms-returns-in_default-then_sorts t c =
    let d = c.in-Apply-Apply in
    let e = apply_order d.a d.s d.us d.b d.t d.vs c.then_sorts.result (cc) in
    let o : c.then_sorts.result ≡ term_order c.args.left.now c.args.right.now = then_stop _ (slice_cmp term_order d.us d.vs) _ (cc e) c.in_default-then_sorts.not-Equal in
    record { order = o; equal = by_order o (term_exact c.args.left.now c.args.right.now) }
