use Rattle.std.proofs.Common.{◌≡◌, ap, ◌∙◌}
use Rattle.std.specs.Ordering.{nat_cmp}
use Rattle.ae_core.specs.Orders.{rank, formula_order, formula_tree, quant_order}
use Rattle.ae_core.proofs.TreeLaws.{by_order, then_on, then_stop}
use Rattle.ae_core.proofs.OrderLaws.{formula_exact, quant_exact, formulas_apart, pred_order, block_order, eq_order, lt_order, le_order, and_order, or_order, xor_order, iff_order, formula_not_true, formula_not_false, formula_not_eq, formula_not_lt, formula_not_le, formula_not_pred, formula_not_not, formula_not_and, formula_not_or, formula_not_xor, formula_not_iff, formula_not_all, formula_not_ex, formula_tree_true, formula_tree_false, formula_tree_eq, formula_tree_lt, formula_tree_le, formula_tree_pred, formula_tree_not, formula_tree_and, formula_tree_or, formula_tree_xor, formula_tree_iff, formula_tree_all, formula_tree_ex}
use Rattle.ae_core.proofs.orders.+compare_formula.Goals as goal
use Rattle.ae_core.proofs.orders.+compare_formula.Goals.{compare_formulas-in_default-via-in-True+in_default, compare_formulas-in_default-via-in-False+in_default, compare_formulas-in_default-via-in-Eq+in_default, compare_formulas-in_default-via-in-Lt+in_default, compare_formulas-in_default-via-in-Le+in_default, compare_formulas-in_default-via-in-Pred+in_default, compare_formulas-in_default-via-in-Not+in_default, compare_formulas-in_default-via-in-And+in_default, compare_formulas-in_default-via-in-Or+in_default, compare_formulas-in_default-via-in-Xor+in_default, compare_formulas-in_default-via-in-Iff+in_default, compare_formulas-in_default-via-in-All+in_default, compare_formulas-in_default-via-in-Ex+in_default}

-- different variants go by their ranks
pub compare_formulas-returns-in_default : goal.compare_formulas-returns-in_default
compare_formulas-returns-in_default t c =
    let l = c.args.left.now in
    let r = c.args.right.now in
    let e : nat_cmp (rank (formula_tree l)) (rank (formula_tree r)) ≡ formula_order l r = elim c.in_default.branch [
      | compare_formulas-in_default-via-in-True+in_default w ↦ formulas_apart l r _ _ (ap formula_tree w.in_default.is-0 ∙ formula_tree_true) (formula_not_true w.in_default.not-True-1)
      | compare_formulas-in_default-via-in-False+in_default w ↦ formulas_apart l r _ _ (ap formula_tree w.in_default.is-0 ∙ formula_tree_false) (formula_not_false w.in_default.not-False-1)
      | compare_formulas-in_default-via-in-Eq+in_default w ↦ formulas_apart l r _ _ (ap formula_tree w.in_default.is-0 ∙ formula_tree_eq _ _) (formula_not_eq w.in_default.not-Eq-1)
      | compare_formulas-in_default-via-in-Lt+in_default w ↦ formulas_apart l r _ _ (ap formula_tree w.in_default.is-0 ∙ formula_tree_lt _ _) (formula_not_lt w.in_default.not-Lt-1)
      | compare_formulas-in_default-via-in-Le+in_default w ↦ formulas_apart l r _ _ (ap formula_tree w.in_default.is-0 ∙ formula_tree_le _ _) (formula_not_le w.in_default.not-Le-1)
      | compare_formulas-in_default-via-in-Pred+in_default w ↦ formulas_apart l r _ _ (ap formula_tree w.in_default.is-0 ∙ formula_tree_pred _ _ _) (formula_not_pred w.in_default.not-Pred-1)
      | compare_formulas-in_default-via-in-Not+in_default w ↦ formulas_apart l r _ _ (ap formula_tree w.in_default.is-0 ∙ formula_tree_not _) (formula_not_not w.in_default.not-Not-1)
      | compare_formulas-in_default-via-in-And+in_default w ↦ formulas_apart l r _ _ (ap formula_tree w.in_default.is-0 ∙ formula_tree_and _ _) (formula_not_and w.in_default.not-And-1)
      | compare_formulas-in_default-via-in-Or+in_default w ↦ formulas_apart l r _ _ (ap formula_tree w.in_default.is-0 ∙ formula_tree_or _ _) (formula_not_or w.in_default.not-Or-1)
      | compare_formulas-in_default-via-in-Xor+in_default w ↦ formulas_apart l r _ _ (ap formula_tree w.in_default.is-0 ∙ formula_tree_xor _ _) (formula_not_xor w.in_default.not-Xor-1)
      | compare_formulas-in_default-via-in-Iff+in_default w ↦ formulas_apart l r _ _ (ap formula_tree w.in_default.is-0 ∙ formula_tree_iff _ _) (formula_not_iff w.in_default.not-Iff-1)
      | compare_formulas-in_default-via-in-All+in_default w ↦ formulas_apart l r _ _ (ap formula_tree w.in_default.is-0 ∙ formula_tree_all _) (formula_not_all w.in_default.not-All-1)
      | compare_formulas-in_default-via-in-Ex+in_default w ↦ formulas_apart l r _ _ (ap formula_tree w.in_default.is-0 ∙ formula_tree_ex _) (formula_not_ex w.in_default.not-Ex-1)
    ] in
    let o : c.cmp-in_default.result ≡ formula_order l r = cc e in
    record { order = o; equal = by_order o (formula_exact l r) }

pub compare_formulas-returns-in-Eq-Eq-clause-equal : goal.compare_formulas-returns-in-Eq-Eq-clause-equal
compare_formulas-returns-in-Eq-Eq-clause-equal t c =
    let d = c.in-Eq-Eq in
    let e = eq_order d.a d.b d.c d.d in
    by_order (cc e) (formula_exact c.args.left.now c.args.right.now)

pub compare_formulas-returns-in-Lt-Lt-clause-equal : goal.compare_formulas-returns-in-Lt-Lt-clause-equal
compare_formulas-returns-in-Lt-Lt-clause-equal t c =
    let d = c.in-Lt-Lt in
    let e = lt_order d.a d.b d.c d.d in
    by_order (cc e) (formula_exact c.args.left.now c.args.right.now)

pub compare_formulas-returns-in-Le-Le-clause-equal : goal.compare_formulas-returns-in-Le-Le-clause-equal
compare_formulas-returns-in-Le-Le-clause-equal t c =
    let d = c.in-Le-Le in
    let e = le_order d.a d.b d.c d.d in
    by_order (cc e) (formula_exact c.args.left.now c.args.right.now)

pub compare_formulas-returns-in-Pred-Pred : goal.compare_formulas-returns-in-Pred-Pred
compare_formulas-returns-in-Pred-Pred t c =
    let d = c.in-Pred-Pred in
    let e = pred_order d.p d.s d.us d.q d.t d.vs in
    let o : c.then_term_lists.result ≡ formula_order c.args.left.now c.args.right.now = cc e in
    record { order = o; equal = by_order o (formula_exact c.args.left.now c.args.right.now) }

pub compare_formulas-returns-in_default-compare_formulas : goal.compare_formulas-returns-in_default-compare_formulas
compare_formulas-returns-in_default-compare_formulas t c =
    let d = c.in-And-And in
    let e = and_order d.a d.b d.c d.d in
    let o : c.compare_formulas-in-And-And.result ≡ formula_order c.args.left.now c.args.right.now = then_stop _ (formula_order d.b d.d) _ (cc e) c.in_default-compare_formulas.not-Equal in
    record { order = o; equal = by_order o (formula_exact c.args.left.now c.args.right.now) }

pub compare_formulas-returns-in_default-compare_formulas-2 : goal.compare_formulas-returns-in_default-compare_formulas-2
compare_formulas-returns-in_default-compare_formulas-2 t c =
    let d = c.in-Or-Or in
    let e = or_order d.a d.b d.c d.d in
    let o : c.compare_formulas-in-Or-Or.result ≡ formula_order c.args.left.now c.args.right.now = then_stop _ (formula_order d.b d.d) _ (cc e) c.in_default-compare_formulas-2.not-Equal in
    record { order = o; equal = by_order o (formula_exact c.args.left.now c.args.right.now) }

pub compare_formulas-returns-in_default-compare_formulas-3 : goal.compare_formulas-returns-in_default-compare_formulas-3
compare_formulas-returns-in_default-compare_formulas-3 t c =
    let d = c.in-Xor-Xor in
    let e = xor_order d.a d.b d.c d.d in
    let o : c.compare_formulas-in-Xor-Xor.result ≡ formula_order c.args.left.now c.args.right.now = then_stop _ (formula_order d.b d.d) _ (cc e) c.in_default-compare_formulas-3.not-Equal in
    record { order = o; equal = by_order o (formula_exact c.args.left.now c.args.right.now) }

pub compare_formulas-returns-in_default-compare_formulas-4 : goal.compare_formulas-returns-in_default-compare_formulas-4
compare_formulas-returns-in_default-compare_formulas-4 t c =
    let d = c.in-Iff-Iff in
    let e = iff_order d.a d.b d.c d.d in
    let o : c.compare_formulas-in-Iff-Iff.result ≡ formula_order c.args.left.now c.args.right.now = then_stop _ (formula_order d.b d.d) _ (cc e) c.in_default-compare_formulas-4.not-Equal in
    record { order = o; equal = by_order o (formula_exact c.args.left.now c.args.right.now) }

-- blocks: sorts, then triggers, then bodies
pub compare_quants-returns-in-Equal : goal.compare_quants-returns-in-Equal
compare_quants-returns-in-Equal t c =
    let l = c.args.left.now in
    let r = c.args.right.now in
    let e = block_order l r c.then_triggers.result (cc) in
    let o : c.compare_formulas.result ≡ quant_order l r = then_on _ _ _ (cc e) c.in-Equal.is in
    record { order = o; equal = by_order o (quant_exact l r) }

pub compare_quants-returns-in_default : goal.compare_quants-returns-in_default
compare_quants-returns-in_default t c =
    let l = c.args.left.now in
    let r = c.args.right.now in
    let e = block_order l r c.then_triggers.result (cc) in
    let o : c.then_triggers.result ≡ quant_order l r = then_stop _ (formula_order l.body r.body) _ (cc e) c.in_default.not-Equal in
    record { order = o; equal = by_order o (quant_exact l r) }
