-- Terms and formulas whose numerals are in lowest terms, with whatever sorts are put for theirs.
use Rattle.std.specs.Prelude.{ℕ, ℤ, Bool, List, [], ◌∷◌, ◌++◌, ◌≡◌, map}
use Rattle.std.specs.List.{AllByRecursion, flat_map}
use Rattle.std.proofs.Common.{sym, ap, subst, ◌∙◌}
use Rattle.ae_base.proofs.AllOf.{all_weaker, all_append, all_back, all_of_map, all_always}
use Rattle.ae_core.specs.declared.terms.Sort.{Sort}
use Rattle.ae_core.specs.declared.terms.Head.{Head}
use Rattle.ae_core.specs.declared.terms.Term.{Term, Bound, Num, Apply}
use Rattle.ae_core.specs.declared.formulas.Formula.{Formula, True, False, Eq, Lt, Le, Pred, Not, And, Or, Xor, Iff, All, Ex}
use Rattle.ae_core.specs.declared.formulas.Quant.{Quant}
use Rattle.ae_core.specs.Inner.Induction.{by_sorts}
use Rattle.ae_core.proofs.Recursion.{fold_var, fold_rigid, fold_int, fold_real, fold_bool, fold_unit, fold_named, fold_bound, fold_num, fold_apply}
use Rattle.ae_core.proofs.Recursion.{fold_true, fold_false, fold_eq, fold_lt, fold_le, fold_pred, fold_not, fold_and, fold_or, fold_xor, fold_iff}
use Rattle.ae_core.proofs.Recursion.{fold_all, fold_ex, fold_block}
use Rattle.ae_elab.specs.Numbering.{with_sorts_term, with_sorts, with_sorts_block}
use Rattle.ae_elab.proofs.NumberRules.{with_bound, with_num, with_apply, with_true, with_false, with_eq, with_lt, with_le, with_pred, with_not}
use Rattle.ae_elab.proofs.NumberRules.{with_and, with_or, with_xor, with_iff, with_all, with_ex, with_block}
use Rattle.ae_legal_texts.specs.Numbers.{Number, sort_numbers, sort_numbers_step, term_numbers, term_numbers_step, formula_numbers}
use Rattle.ae_legal_texts.specs.Numbers.{formula_numbers_step, quant_numbers, quant_numbers_step}
use Rattle.ae_writable.specs.Numbers.{IsValueWithin, AreValuesWithin}
use Rattle.ae_lowest_numerals.proofs.LowestTrees.{InLowestTerms}

-- ---- lists
parts_values : {X : Type 0} (f : X → List Number) (xs : List X) → AllByRecursion (λ x. AreValuesWithin (f x)) xs → AreValuesWithin (flat_map f xs)
parts_values f [] a = tt
parts_values f (x ∷ xs) a = all_append IsValueWithin (f x) (flat_map f xs) a.0 (parts_values f xs a.1)

mapped_values : {X : Type 0} (f : X → List Number) (xs : List X) → AllByRecursion (λ x. AreValuesWithin (f x)) xs → AreValuesWithin (flat_map (λ ns. ns) (map f xs))
mapped_values f xs a = parts_values (λ ns. ns) (map f xs) (all_of_map AreValuesWithin f xs a)

-- ---- sorts have no numerals
SortValues : Sort → Type 0
SortValues s = AreValuesWithin (sort_numbers s)

sort_values : (s : Sort) → AreValuesWithin (sort_numbers s)
unfolding SortValues sort_numbers
sort_values =
    by_sorts SortValues (λ i. subst AreValuesWithin (sym (fold_var (List Number) sort_numbers_step i)) tt)
    (λ i. subst AreValuesWithin (sym (fold_rigid (List Number) sort_numbers_step i)) (tt, tt))
    (subst AreValuesWithin (sym (fold_int (List Number) sort_numbers_step)) tt) (subst AreValuesWithin (sym (fold_real (List Number) sort_numbers_step)) tt)
    (subst AreValuesWithin (sym (fold_bool (List Number) sort_numbers_step)) tt) (subst AreValuesWithin (sym (fold_unit (List Number) sort_numbers_step)) tt)
    (λ h ss a. subst AreValuesWithin (sym (fold_named (List Number) sort_numbers_step h ss)) (mapped_values sort_numbers ss a))

sorts_values : (ss : List Sort) → AreValuesWithin (flat_map sort_numbers ss)
sorts_values ss = parts_values sort_numbers ss (all_always (λ s. AreValuesWithin (sort_numbers s)) sort_values ss)

-- ---- terms
abbrev TermWithin : Term → Type 0
TermWithin t = AreValuesWithin (term_numbers t)

abbrev pub LowestTerm : Term → Type 0
LowestTerm t = (r : Sort → Sort) → TermWithin (with_sorts_term r t)

numbers_bound : (i : ℕ) → TermWithin (Bound i)
unfolding term_numbers
numbers_bound i = subst AreValuesWithin (sym (fold_bound (List Number) term_numbers_step i)) (tt, tt)

numbers_num : (a b : ℤ) (k : Bool) → InLowestTerms a b → TermWithin (Num a b k)
unfolding term_numbers
numbers_num a b k h = subst AreValuesWithin (sym (fold_num (List Number) term_numbers_step a b k)) (h, tt)

numbers_apply : (h : Head) (ss : List Sort) (us : List Term) → AllByRecursion TermWithin us → TermWithin (Apply h ss us)
unfolding term_numbers
numbers_apply h ss us a =
    subst AreValuesWithin (sym (fold_apply (List Number) term_numbers_step h ss us))
    (all_append IsValueWithin (flat_map sort_numbers ss) (flat_map (λ ns. ns) (map term_numbers us)) (sorts_values ss) (mapped_values term_numbers us a))

pub lowest_bound : (i : ℕ) → LowestTerm (Bound i)
lowest_bound i r = subst TermWithin (sym (with_bound r i)) (numbers_bound i)

pub lowest_num : (a b : ℤ) (k : Bool) → InLowestTerms a b → LowestTerm (Num a b k)
lowest_num a b k h r = subst TermWithin (sym (with_num r a b k)) (numbers_num a b k h)

-- terms with their sorts changed
changed : (r : Sort → Sort) (us : List Term) → AllByRecursion LowestTerm us → AllByRecursion TermWithin (map (with_sorts_term r) us)
changed r us a = all_of_map TermWithin (with_sorts_term r) us (all_weaker LowestTerm (λ t. TermWithin (with_sorts_term r t)) (λ t h. h r) us a)

pub lowest_apply : (h : Head) (ss : List Sort) (us : List Term) → AllByRecursion LowestTerm us → LowestTerm (Apply h ss us)
lowest_apply h ss us a r = subst TermWithin (sym (with_apply r h ss us)) (numbers_apply h (map r ss) (map (with_sorts_term r) us) (changed r us a))

-- ---- formulas
abbrev FormulaWithin : Formula → Type 0
FormulaWithin f = AreValuesWithin (formula_numbers f)

abbrev pub LowestFormula : Formula → Type 0
LowestFormula f = (r : Sort → Sort) → FormulaWithin (with_sorts r f)

numbers_true : formula_numbers True ≡ []
unfolding formula_numbers
numbers_true = fold_true (List Number) (List Number) formula_numbers_step quant_numbers_step

numbers_false : formula_numbers False ≡ []
unfolding formula_numbers
numbers_false = fold_false (List Number) (List Number) formula_numbers_step quant_numbers_step

numbers_eq : (a b : Term) → formula_numbers (Eq a b) ≡ term_numbers a ++ term_numbers b
unfolding formula_numbers
numbers_eq = fold_eq (List Number) (List Number) formula_numbers_step quant_numbers_step

numbers_lt : (a b : Term) → formula_numbers (Lt a b) ≡ term_numbers a ++ term_numbers b
unfolding formula_numbers
numbers_lt = fold_lt (List Number) (List Number) formula_numbers_step quant_numbers_step

numbers_le : (a b : Term) → formula_numbers (Le a b) ≡ term_numbers a ++ term_numbers b
unfolding formula_numbers
numbers_le = fold_le (List Number) (List Number) formula_numbers_step quant_numbers_step

numbers_pred : (p : ℕ) (ss : List Sort) (us : List Term) → formula_numbers (Pred p ss us) ≡ flat_map sort_numbers ss ++ flat_map term_numbers us
unfolding formula_numbers
numbers_pred = fold_pred (List Number) (List Number) formula_numbers_step quant_numbers_step

numbers_not : (a : Formula) → formula_numbers (Not a) ≡ formula_numbers a
unfolding formula_numbers
numbers_not = fold_not (List Number) (List Number) formula_numbers_step quant_numbers_step

numbers_and : (a b : Formula) → formula_numbers (And a b) ≡ formula_numbers a ++ formula_numbers b
unfolding formula_numbers
numbers_and = fold_and (List Number) (List Number) formula_numbers_step quant_numbers_step

numbers_or : (a b : Formula) → formula_numbers (Or a b) ≡ formula_numbers a ++ formula_numbers b
unfolding formula_numbers
numbers_or = fold_or (List Number) (List Number) formula_numbers_step quant_numbers_step

numbers_xor : (a b : Formula) → formula_numbers (Xor a b) ≡ formula_numbers a ++ formula_numbers b
unfolding formula_numbers
numbers_xor = fold_xor (List Number) (List Number) formula_numbers_step quant_numbers_step

numbers_iff : (a b : Formula) → formula_numbers (Iff a b) ≡ formula_numbers a ++ formula_numbers b
unfolding formula_numbers
numbers_iff = fold_iff (List Number) (List Number) formula_numbers_step quant_numbers_step

numbers_all : (q : Quant) → formula_numbers (All q) ≡ quant_numbers q
unfolding formula_numbers quant_numbers
numbers_all = fold_all (List Number) (List Number) formula_numbers_step quant_numbers_step

numbers_ex : (q : Quant) → formula_numbers (Ex q) ≡ quant_numbers q
unfolding formula_numbers quant_numbers
numbers_ex = fold_ex (List Number) (List Number) formula_numbers_step quant_numbers_step

numbers_block : (q : Quant) → quant_numbers q ≡ flat_map sort_numbers q.sorts ++ (flat_map (flat_map term_numbers) q.triggers ++ formula_numbers q.body)
unfolding formula_numbers quant_numbers
numbers_block = fold_block (List Number) (List Number) formula_numbers_step quant_numbers_step

-- a formula of this form, with whatever sorts
formed : (f : Formula) (ns : (Sort → Sort) → List Number) → ((r : Sort → Sort) → formula_numbers (with_sorts r f) ≡ ns r) → ((r : Sort → Sort) → AreValuesWithin (ns r))
    → LowestFormula f
formed f ns e h r = subst AreValuesWithin (sym (e r)) (h r)

pub lowest_true : LowestFormula True
lowest_true = formed True (λ r. []) (λ r. ap formula_numbers (with_true r) ∙ numbers_true) (λ r. tt)

pub lowest_false : LowestFormula False
lowest_false = formed False (λ r. []) (λ r. ap formula_numbers (with_false r) ∙ numbers_false) (λ r. tt)

module _ (a b : Term) (h : LowestTerm a) (k : LowestTerm b) where
  abbrev both : (Sort → Sort) → List Number
  both r = term_numbers (with_sorts_term r a) ++ term_numbers (with_sorts_term r b)

  both_within : (r : Sort → Sort) → AreValuesWithin (both r)
  both_within r = all_append IsValueWithin (term_numbers (with_sorts_term r a)) (term_numbers (with_sorts_term r b)) (h r) (k r)

  pub lowest_eq : LowestFormula (Eq a b)
  lowest_eq = formed (Eq a b) both (λ r. ap formula_numbers (with_eq r a b) ∙ numbers_eq (with_sorts_term r a) (with_sorts_term r b)) both_within

  pub lowest_lt : LowestFormula (Lt a b)
  lowest_lt = formed (Lt a b) both (λ r. ap formula_numbers (with_lt r a b) ∙ numbers_lt (with_sorts_term r a) (with_sorts_term r b)) both_within

  pub lowest_le : LowestFormula (Le a b)
  lowest_le = formed (Le a b) both (λ r. ap formula_numbers (with_le r a b) ∙ numbers_le (with_sorts_term r a) (with_sorts_term r b)) both_within

pub lowest_pred : (p : ℕ) (ss : List Sort) (us : List Term) → AllByRecursion LowestTerm us → LowestFormula (Pred p ss us)
lowest_pred p ss us a =
    formed (Pred p ss us) (λ r. flat_map sort_numbers (map r ss) ++ flat_map term_numbers (map (with_sorts_term r) us))
    (λ r. ap formula_numbers (with_pred r p ss us) ∙ numbers_pred p (map r ss) (map (with_sorts_term r) us))
    (λ r. all_append IsValueWithin (flat_map sort_numbers (map r ss)) (flat_map term_numbers (map (with_sorts_term r) us)) (sorts_values (map r ss))
    (parts_values term_numbers (map (with_sorts_term r) us) (changed r us a)))

pub lowest_not : (a : Formula) → LowestFormula a → LowestFormula (Not a)
lowest_not a h = formed (Not a) (λ r. formula_numbers (with_sorts r a)) (λ r. ap formula_numbers (with_not r a) ∙ numbers_not (with_sorts r a)) h

module _ (a b : Formula) (h : LowestFormula a) (k : LowestFormula b) where
  abbrev pair : (Sort → Sort) → List Number
  pair r = formula_numbers (with_sorts r a) ++ formula_numbers (with_sorts r b)

  pair_within : (r : Sort → Sort) → AreValuesWithin (pair r)
  pair_within r = all_append IsValueWithin (formula_numbers (with_sorts r a)) (formula_numbers (with_sorts r b)) (h r) (k r)

  pub lowest_and : LowestFormula (And a b)
  lowest_and = formed (And a b) pair (λ r. ap formula_numbers (with_and r a b) ∙ numbers_and (with_sorts r a) (with_sorts r b)) pair_within

  pub lowest_or : LowestFormula (Or a b)
  lowest_or = formed (Or a b) pair (λ r. ap formula_numbers (with_or r a b) ∙ numbers_or (with_sorts r a) (with_sorts r b)) pair_within

  pub lowest_xor : LowestFormula (Xor a b)
  lowest_xor = formed (Xor a b) pair (λ r. ap formula_numbers (with_xor r a b) ∙ numbers_xor (with_sorts r a) (with_sorts r b)) pair_within

  pub lowest_iff : LowestFormula (Iff a b)
  lowest_iff = formed (Iff a b) pair (λ r. ap formula_numbers (with_iff r a b) ∙ numbers_iff (with_sorts r a) (with_sorts r b)) pair_within

-- ---- blocks
-- the numbers of a block behind its sorts
abbrev behind : (Sort → Sort) → Quant → List Number
behind r q = flat_map (flat_map term_numbers) (map (map (with_sorts_term r)) q.triggers) ++ formula_numbers (with_sorts r q.body)

abbrev pub LowestBlock : Quant → Type 0
LowestBlock q = (r : Sort → Sort) → AreValuesWithin (behind r q)

abbrev pub LowestLists : List (List Term) → Type 0
LowestLists ts = AllByRecursion (AllByRecursion LowestTerm) ts

lists_changed : (r : Sort → Sort) (ts : List (List Term)) → LowestLists ts → AreValuesWithin (flat_map (flat_map term_numbers) (map (map (with_sorts_term r)) ts))
lists_changed r ts a =
    parts_values (flat_map term_numbers) (map (map (with_sorts_term r)) ts)
    (all_of_map (λ us. AreValuesWithin (flat_map term_numbers us)) (map (with_sorts_term r)) ts
    (all_weaker (AllByRecursion LowestTerm) (λ us. AreValuesWithin (flat_map term_numbers (map (with_sorts_term r) us)))
    (λ us h. parts_values term_numbers (map (with_sorts_term r) us) (changed r us h)) ts a))

pub lowest_block : (q : Quant) → LowestLists q.triggers → LowestFormula q.body → LowestBlock q
lowest_block q a h r =
    all_append IsValueWithin (flat_map (flat_map term_numbers) (map (map (with_sorts_term r)) q.triggers)) (formula_numbers (with_sorts r q.body))
    (lists_changed r q.triggers a) (h r)

module _ (q : Quant) where
  abbrev whole : (Sort → Sort) → List Number
  whole r = flat_map sort_numbers (map r q.sorts) ++ behind r q

  whole_is : (r : Sort → Sort) → quant_numbers (with_sorts_block r q) ≡ whole r
  whole_is r =
      ap quant_numbers (with_block r q)
      ∙ numbers_block (record { sorts = map r q.sorts; triggers = map (map (with_sorts_term r)) q.triggers; body = with_sorts r q.body })

  all_is : (r : Sort → Sort) → formula_numbers (with_sorts r (All q)) ≡ whole r
  all_is r = ap formula_numbers (with_all r q) ∙ numbers_all (with_sorts_block r q) ∙ whole_is r

  ex_is : (r : Sort → Sort) → formula_numbers (with_sorts r (Ex q)) ≡ whole r
  ex_is r = ap formula_numbers (with_ex r q) ∙ numbers_ex (with_sorts_block r q) ∙ whole_is r

  whole_within : LowestBlock q → (r : Sort → Sort) → AreValuesWithin (whole r)
  whole_within h r = all_append IsValueWithin (flat_map sort_numbers (map r q.sorts)) (behind r q) (sorts_values (map r q.sorts)) (h r)

  pub lowest_all : LowestBlock q → LowestFormula (All q)
  lowest_all h = formed (All q) whole all_is (whole_within h)

  pub lowest_ex : LowestBlock q → LowestFormula (Ex q)
  lowest_ex h = formed (Ex q) whole ex_is (whole_within h)

  pub from_all : LowestFormula (All q) → LowestBlock q
  from_all h r = all_back IsValueWithin (flat_map sort_numbers (map r q.sorts)) (behind r q) (subst AreValuesWithin (all_is r) (h r))

  pub from_ex : LowestFormula (Ex q) → LowestBlock q
  from_ex h r = all_back IsValueWithin (flat_map sort_numbers (map r q.sorts)) (behind r q) (subst AreValuesWithin (ex_is r) (h r))
