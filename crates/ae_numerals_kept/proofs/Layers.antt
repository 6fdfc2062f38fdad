-- What holds of each number of a term or a formula, layer by layer, where it holds of each count: sorts have counts alone, and a whole has the numbers of its parts.
use Rattle.std.specs.Prelude.{ℕ, ℤ, Bool, List, ◌++◌, ◌≡◌, map}
use Rattle.std.specs.List.{AllByRecursion, flat_map}
use Rattle.std.proofs.Common.{sym, ap, ◌∙◌, subst}
use Rattle.std.proofs.lemmas.List.Folds.{flat_map-map}
use Rattle.ae_base.proofs.AllOf.{all_always, all_append, all_back, all_front, all_of_map, all_weaker}
use Rattle.ae_core.specs.Inner.Induction.{by_sorts}
use Rattle.ae_core.proofs.Recursion.{fold_var, fold_rigid, fold_int, fold_real, fold_bool, fold_unit, fold_named, fold_bound, fold_num, fold_fresh, fold_apply}
use Rattle.ae_core.proofs.Recursion.{fold_true, fold_false, fold_eq, fold_lt, fold_le, fold_pred, fold_not, fold_and, fold_or, fold_xor, fold_iff, fold_all, fold_ex, fold_block}
use Rattle.ae_core.specs.declared.formulas.Formula.{Formula, True, False, Eq, Lt, Le, Pred, Not, And, Or, Xor, Iff, All, Ex}
use Rattle.ae_core.specs.declared.formulas.Quant.{Quant}
use Rattle.ae_core.specs.declared.terms.Head.{Head}
use Rattle.ae_core.specs.declared.terms.Sort.{Sort, Named}
use Rattle.ae_core.specs.declared.terms.Term.{Term, Bound, Num, Fresh, Apply}
use Rattle.ae_legal_texts.proofs.Heads.{all_flat}
use Rattle.ae_legal_texts.proofs.Places.{all_parts}
use Rattle.ae_legal_texts.specs.Numbers.{Number, count, numeral, sort_numbers, sort_numbers_step, term_numbers, term_numbers_step, formula_numbers, quant_numbers, formula_numbers_step, quant_numbers_step}

-- ---- the numbers of each form
apply_numbers : (h : Head) (ss : List Sort) (us : List Term) → term_numbers (Apply h ss us) ≡ flat_map sort_numbers ss ++ flat_map term_numbers us
unfolding term_numbers
apply_numbers h ss us = fold_apply (List Number) term_numbers_step h ss us ∙ ap (λ z. flat_map sort_numbers ss ++ z) (flat_map-map (λ u. u) term_numbers us)

pub eq_numbers : (a b : Term) → formula_numbers (Eq a b) ≡ term_numbers a ++ term_numbers b
unfolding formula_numbers
eq_numbers a b = fold_eq (List Number) (List Number) formula_numbers_step quant_numbers_step a b

pub lt_numbers : (a b : Term) → formula_numbers (Lt a b) ≡ term_numbers a ++ term_numbers b
unfolding formula_numbers
lt_numbers a b = fold_lt (List Number) (List Number) formula_numbers_step quant_numbers_step a b

pub le_numbers : (a b : Term) → formula_numbers (Le a b) ≡ term_numbers a ++ term_numbers b
unfolding formula_numbers
le_numbers a b = fold_le (List Number) (List Number) formula_numbers_step quant_numbers_step a b

pred_numbers : (p : ℕ) (ss : List Sort) (us : List Term) → formula_numbers (Pred p ss us) ≡ flat_map sort_numbers ss ++ flat_map term_numbers us
unfolding formula_numbers
pred_numbers p ss us = fold_pred (List Number) (List Number) formula_numbers_step quant_numbers_step p ss us

pub not_numbers : (a : Formula) → formula_numbers (Not a) ≡ formula_numbers a
unfolding formula_numbers
not_numbers a = fold_not (List Number) (List Number) formula_numbers_step quant_numbers_step a

pub and_numbers : (a b : Formula) → formula_numbers (And a b) ≡ formula_numbers a ++ formula_numbers b
unfolding formula_numbers
and_numbers a b = fold_and (List Number) (List Number) formula_numbers_step quant_numbers_step a b

pub or_numbers : (a b : Formula) → formula_numbers (Or a b) ≡ formula_numbers a ++ formula_numbers b
unfolding formula_numbers
or_numbers a b = fold_or (List Number) (List Number) formula_numbers_step quant_numbers_step a b

pub xor_numbers : (a b : Formula) → formula_numbers (Xor a b) ≡ formula_numbers a ++ formula_numbers b
unfolding formula_numbers
xor_numbers a b = fold_xor (List Number) (List Number) formula_numbers_step quant_numbers_step a b

pub iff_numbers : (a b : Formula) → formula_numbers (Iff a b) ≡ formula_numbers a ++ formula_numbers b
unfolding formula_numbers
iff_numbers a b = fold_iff (List Number) (List Number) formula_numbers_step quant_numbers_step a b

pub all_numbers : (q : Quant) → formula_numbers (All q) ≡ quant_numbers q
unfolding formula_numbers quant_numbers
all_numbers q = fold_all (List Number) (List Number) formula_numbers_step quant_numbers_step q

pub ex_numbers : (q : Quant) → formula_numbers (Ex q) ≡ quant_numbers q
unfolding formula_numbers quant_numbers
ex_numbers q = fold_ex (List Number) (List Number) formula_numbers_step quant_numbers_step q

block_numbers : (q : Quant) → quant_numbers q ≡ flat_map sort_numbers q.sorts ++ (flat_map (flat_map term_numbers) q.triggers ++ formula_numbers q.body)
unfolding formula_numbers quant_numbers
block_numbers q = fold_block (List Number) (List Number) formula_numbers_step quant_numbers_step q

-- ---- what holds of each number of a term, of some terms, of a formula, of a block
module _ (P : Number → Type 0) where
  abbrev pub InSort : Sort → Type 0
  InSort s = AllByRecursion P (sort_numbers s)

  abbrev pub InTerm : Term → Type 0
  InTerm t = AllByRecursion P (term_numbers t)

  abbrev pub InTerms : List Term → Type 0
  InTerms ts = AllByRecursion P (flat_map term_numbers ts)

  abbrev pub InFormula : Formula → Type 0
  InFormula f = AllByRecursion P (formula_numbers f)

  abbrev pub InBlock : Quant → Type 0
  InBlock q = AllByRecursion P (quant_numbers q)

module _ (P : Number → Type 0) (counts : (n : ℕ) → P (count n)) where
  -- ---- sorts
  in_named : (h : ℕ) (ss : List Sort) → AllByRecursion (InSort P) ss → InSort P (Named h ss)
  unfolding sort_numbers
  in_named h ss a = subst (AllByRecursion P) (sym (fold_named (List Number) sort_numbers_step h ss)) (all_flat P (λ ns. ns) (map sort_numbers ss) (all_of_map (AllByRecursion P) sort_numbers ss a))

  pub in_sort : (s : Sort) → InSort P s
  unfolding sort_numbers
  in_sort =
      by_sorts (InSort P)
      (λ i. subst (AllByRecursion P) (sym (fold_var (List Number) sort_numbers_step i)) tt)
      (λ i. subst (AllByRecursion P) (sym (fold_rigid (List Number) sort_numbers_step i)) (counts i, tt))
      (subst (AllByRecursion P) (sym (fold_int (List Number) sort_numbers_step)) tt)
      (subst (AllByRecursion P) (sym (fold_real (List Number) sort_numbers_step)) tt)
      (subst (AllByRecursion P) (sym (fold_bool (List Number) sort_numbers_step)) tt)
      (subst (AllByRecursion P) (sym (fold_unit (List Number) sort_numbers_step)) tt)
      in_named

  in_sorts : (ss : List Sort) → AllByRecursion P (flat_map sort_numbers ss)
  in_sorts ss = all_flat P sort_numbers ss (all_always (InSort P) in_sort ss)

  -- ---- terms
  pub in_bound : (n : ℕ) → InTerm P (Bound n)
  unfolding term_numbers
  in_bound n = subst (AllByRecursion P) (sym (fold_bound (List Number) term_numbers_step n)) (counts n, tt)

  pub in_numeral : (a b : ℤ) (real : Bool) → P (numeral a b) → InTerm P (Num a b real)
  unfolding term_numbers
  in_numeral a b real h = subst (AllByRecursion P) (sym (fold_num (List Number) term_numbers_step a b real)) (h, tt)

  pub in_fresh : (n : ℕ) (s : Sort) → InTerm P (Fresh n s)
  unfolding term_numbers
  in_fresh n s = subst (AllByRecursion P) (sym (fold_fresh (List Number) term_numbers_step n s)) (counts n, in_sort s)

  pub in_apply : (h : Head) (ss : List Sort) (us : List Term) → AllByRecursion (InTerm P) us → InTerm P (Apply h ss us)
  in_apply h ss us a = subst (AllByRecursion P) (sym (apply_numbers h ss us)) (all_append P (flat_map sort_numbers ss) (flat_map term_numbers us) (in_sorts ss) (all_flat P term_numbers us a))

  pub in_arguments : (h : Head) (ss : List Sort) (us : List Term) → InTerm P (Apply h ss us) → AllByRecursion (InTerm P) us
  in_arguments h ss us w = all_parts P term_numbers us (all_back P (flat_map sort_numbers ss) (flat_map term_numbers us) (subst (AllByRecursion P) (apply_numbers h ss us) w))

  -- a change that keeps it in each term keeps it in some terms, and in triggers
  pub in_changed : (g : Term → Term) → ((t : Term) → InTerm P t → InTerm P (g t)) → (us : List Term) → AllByRecursion (InTerm P) us → AllByRecursion (InTerm P) (map g us)
  in_changed g keeps us a = all_of_map (InTerm P) g us (all_weaker (InTerm P) (λ u. InTerm P (g u)) keeps us a)

  pub in_triggers : (g : Term → Term) → ((t : Term) → InTerm P t → InTerm P (g t)) → (ts : List (List Term)) → AllByRecursion (InTerms P) ts → AllByRecursion (InTerms P) (map (map g) ts)
  in_triggers g keeps ts a =
      all_of_map (InTerms P) (map g) ts
      (all_weaker (InTerms P) (λ us. InTerms P (map g us)) (λ us w. all_flat P term_numbers (map g us) (in_changed g keeps us (all_parts P term_numbers us w))) ts a)

  -- ---- formulas
  pub in_true : InFormula P True
  unfolding formula_numbers
  in_true = subst (AllByRecursion P) (sym (fold_true (List Number) (List Number) formula_numbers_step quant_numbers_step)) tt

  pub in_false : InFormula P False
  unfolding formula_numbers
  in_false = subst (AllByRecursion P) (sym (fold_false (List Number) (List Number) formula_numbers_step quant_numbers_step)) tt

  -- a relation of two terms
  module _ (rule : Term → Term → Formula) (is : (a b : Term) → formula_numbers (rule a b) ≡ term_numbers a ++ term_numbers b) where
    pub in_relation : (a b : Term) → InTerm P a → InTerm P b → InFormula P (rule a b)
    in_relation a b p q = subst (AllByRecursion P) (sym (is a b)) (all_append P (term_numbers a) (term_numbers b) p q)

    pub in_sides : (a b : Term) → InFormula P (rule a b) → InTerm P a × InTerm P b
    in_sides a b w =
        let v = subst (AllByRecursion P) (is a b) w in
        (all_front P (term_numbers a) (term_numbers b) v, all_back P (term_numbers a) (term_numbers b) v)

  pub in_predicate : (p : ℕ) (ss : List Sort) (us : List Term) → AllByRecursion (InTerm P) us → InFormula P (Pred p ss us)
  in_predicate p ss us a = subst (AllByRecursion P) (sym (pred_numbers p ss us)) (all_append P (flat_map sort_numbers ss) (flat_map term_numbers us) (in_sorts ss) (all_flat P term_numbers us a))

  pub predicate_arguments : (p : ℕ) (ss : List Sort) (us : List Term) → InFormula P (Pred p ss us) → AllByRecursion (InTerm P) us
  predicate_arguments p ss us w = all_parts P term_numbers us (all_back P (flat_map sort_numbers ss) (flat_map term_numbers us) (subst (AllByRecursion P) (pred_numbers p ss us) w))

  -- two formulas together
  module _ (rule : Formula → Formula → Formula) (is : (a b : Formula) → formula_numbers (rule a b) ≡ formula_numbers a ++ formula_numbers b) where
    pub in_both : (a b : Formula) → InFormula P a → InFormula P b → InFormula P (rule a b)
    in_both a b p q = subst (AllByRecursion P) (sym (is a b)) (all_append P (formula_numbers a) (formula_numbers b) p q)

    pub in_two : (a b : Formula) → InFormula P (rule a b) → InFormula P a × InFormula P b
    in_two a b w =
        let v = subst (AllByRecursion P) (is a b) w in
        (all_front P (formula_numbers a) (formula_numbers b) v, all_back P (formula_numbers a) (formula_numbers b) v)

  -- ---- blocks
  pub in_block : (q : Quant) → AllByRecursion (InTerms P) q.triggers → InFormula P q.body → InBlock P q
  in_block q a b =
      subst (AllByRecursion P) (sym (block_numbers q))
      (all_append P (flat_map sort_numbers q.sorts) (flat_map (flat_map term_numbers) q.triggers ++ formula_numbers q.body) (in_sorts q.sorts)
      (all_append P (flat_map (flat_map term_numbers) q.triggers) (formula_numbers q.body) (all_flat P (flat_map term_numbers) q.triggers a) b))

  pub block_parts : (q : Quant) → InBlock P q → AllByRecursion (InTerms P) q.triggers × InFormula P q.body
  block_parts q w =
      let v = all_back P (flat_map sort_numbers q.sorts) (flat_map (flat_map term_numbers) q.triggers ++ formula_numbers q.body) (subst (AllByRecursion P) (block_numbers q) w) in (
        all_parts P (flat_map term_numbers) q.triggers (all_front P (flat_map (flat_map term_numbers) q.triggers) (formula_numbers q.body) v),
        all_back P (flat_map (flat_map term_numbers) q.triggers) (formula_numbers q.body) v,
      )
