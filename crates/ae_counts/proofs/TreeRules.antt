-- What is computed at each form of sort, term and formula.
use Rattle.std.specs.Prelude.{ℕ, ℤ, Bool, true, ◌&&◌, List, [], ◌∷◌, ◌++◌, ◌≡◌, map}
use Rattle.std.specs.List.{flat_map, list_all}
use Rattle.std.proofs.Common.{refl, ap, ◌∙◌}
use Rattle.std.proofs.Math.Bool.{and-true}
use Rattle.std.proofs.lemmas.List.Folds.{list_all-append}
use Rattle.ae_core.proofs.Recursion.{fold_var, fold_rigid, fold_int, fold_real, fold_bool, fold_unit, fold_named, fold_bound, fold_num, fold_fresh, fold_apply}
use Rattle.ae_core.proofs.Recursion.{fold_true, fold_false, fold_eq, fold_lt, fold_le, fold_pred, fold_not, fold_and, fold_or, fold_xor, fold_iff, fold_all, fold_ex, fold_block}
use Rattle.ae_core.specs.declared.terms.Sort.{Sort, Var, Rigid, Int, Real, Bool as BoolSort, Unit as UnitSort, Named}
use Rattle.ae_core.specs.declared.terms.Head.{Head}
use Rattle.ae_core.specs.declared.terms.Term.{Term, Bound, Num, Fresh, Apply}
use Rattle.ae_core.specs.declared.formulas.Formula.{Formula, True, False, Eq, Lt, Le, Pred, Not, And, Or, Xor, Iff, All, Ex}
use Rattle.ae_core.specs.declared.formulas.Quant.{Quant}
use Rattle.ae_legal_texts.specs.Numbers.{Number, count, sort_numbers, sort_numbers_step, term_numbers, term_numbers_step, formula_numbers, formula_numbers_step, quant_numbers, quant_numbers_step}
use Rattle.ae_counts.specs.Inner.Counted.{count_within, number_counts, numbers_count, sort_counts, term_counts, formula_counts, quant_counts}

-- ---- numbers of lists
pub one_number : (n : Number) → numbers_count (n ∷ []) ≡ number_counts n
one_number n = and-true (number_counts n)

pub both_numbers : (xs ys : List Number) → numbers_count (xs ++ ys) ≡ (numbers_count xs && numbers_count ys)
both_numbers xs ys = list_all-append number_counts xs ys

pub all_numbers : {X : Type 0} (f : X → List Number) (xs : List X) → numbers_count (flat_map f xs) ≡ list_all (λ x. numbers_count (f x)) xs
all_numbers f [] = refl
all_numbers f (x ∷ xs) = both_numbers (f x) (flat_map f xs) ∙ ap (λ b. numbers_count (f x) && b) (all_numbers f xs)

mapped_numbers : {X : Type 0} (f : X → List Number) (xs : List X) → numbers_count (flat_map (λ ns. ns) (map f xs)) ≡ list_all (λ x. numbers_count (f x)) xs
mapped_numbers f [] = refl
mapped_numbers f (x ∷ xs) = both_numbers (f x) (flat_map (λ ns. ns) (map f xs)) ∙ ap (λ b. numbers_count (f x) && b) (mapped_numbers f xs)

-- ---- sorts
pub counts_var : (i : ℕ) → sort_counts (Var i) ≡ true
unfolding sort_counts sort_numbers
counts_var i = ap numbers_count (fold_var (List Number) sort_numbers_step i)

pub counts_rigid : (n : ℕ) → sort_counts (Rigid n) ≡ count_within n
unfolding sort_counts sort_numbers
counts_rigid n = ap numbers_count (fold_rigid (List Number) sort_numbers_step n) ∙ one_number (count n)

pub counts_int : sort_counts Int ≡ true
unfolding sort_counts sort_numbers
counts_int = ap numbers_count (fold_int (List Number) sort_numbers_step)

pub counts_real : sort_counts Real ≡ true
unfolding sort_counts sort_numbers
counts_real = ap numbers_count (fold_real (List Number) sort_numbers_step)

pub counts_bool : sort_counts BoolSort ≡ true
unfolding sort_counts sort_numbers
counts_bool = ap numbers_count (fold_bool (List Number) sort_numbers_step)

pub counts_unit : sort_counts UnitSort ≡ true
unfolding sort_counts sort_numbers
counts_unit = ap numbers_count (fold_unit (List Number) sort_numbers_step)

pub counts_named : (h : ℕ) (ss : List Sort) → sort_counts (Named h ss) ≡ list_all sort_counts ss
unfolding sort_counts sort_numbers
counts_named h ss = ap numbers_count (fold_named (List Number) sort_numbers_step h ss) ∙ mapped_numbers sort_numbers ss

pub ruleset sort_rules = (counts_var, counts_rigid, counts_int, counts_real, counts_bool, counts_unit, counts_named)

pub sorts_numbers : (ss : List Sort) → numbers_count (flat_map sort_numbers ss) ≡ list_all sort_counts ss
unfolding sort_counts
sorts_numbers ss = all_numbers sort_numbers ss

-- ---- terms
pub counts_bound : (n : ℕ) → term_counts (Bound n) ≡ count_within n
unfolding term_counts term_numbers
counts_bound n = ap numbers_count (fold_bound (List Number) term_numbers_step n) ∙ one_number (count n)

pub counts_num : (a b : ℤ) (r : Bool) → term_counts (Num a b r) ≡ true
unfolding term_counts term_numbers
counts_num a b r = ap numbers_count (fold_num (List Number) term_numbers_step a b r)

pub counts_fresh : (n : ℕ) (s : Sort) → term_counts (Fresh n s) ≡ (count_within n && sort_counts s)
unfolding term_counts term_numbers sort_counts
counts_fresh n s = ap numbers_count (fold_fresh (List Number) term_numbers_step n s)

pub counts_apply : (h : Head) (ss : List Sort) (us : List Term) → term_counts (Apply h ss us) ≡ (list_all sort_counts ss && list_all term_counts us)
unfolding term_counts term_numbers
counts_apply h ss us =
    ap numbers_count (fold_apply (List Number) term_numbers_step h ss us)
    ∙ both_numbers (flat_map sort_numbers ss) (flat_map (λ ns. ns) (map term_numbers us))
    ∙ (λ i. sorts_numbers ss i && mapped_numbers term_numbers us i)

pub ruleset term_rules = (counts_bound, counts_num, counts_fresh, counts_apply)

pub terms_numbers : (us : List Term) → numbers_count (flat_map term_numbers us) ≡ list_all term_counts us
unfolding term_counts
terms_numbers us = all_numbers term_numbers us

pub triggers_numbers : (ts : List (List Term)) → numbers_count (flat_map (flat_map term_numbers) ts) ≡ list_all (list_all term_counts) ts
triggers_numbers [] = refl
triggers_numbers (t ∷ ts) = both_numbers (flat_map term_numbers t) (flat_map (flat_map term_numbers) ts) ∙ (λ i. terms_numbers t i && triggers_numbers ts i)

-- ---- formulas
pub counts_true : formula_counts True ≡ true
unfolding formula_counts formula_numbers
counts_true = ap numbers_count (fold_true (List Number) (List Number) formula_numbers_step quant_numbers_step)

pub counts_false : formula_counts False ≡ true
unfolding formula_counts formula_numbers
counts_false = ap numbers_count (fold_false (List Number) (List Number) formula_numbers_step quant_numbers_step)

sides_numbers : (a b : Term) → numbers_count (term_numbers a ++ term_numbers b) ≡ (term_counts a && term_counts b)
unfolding term_counts
sides_numbers a b = both_numbers (term_numbers a) (term_numbers b)

pub counts_eq : (a b : Term) → formula_counts (Eq a b) ≡ (term_counts a && term_counts b)
unfolding formula_counts formula_numbers
counts_eq a b = ap numbers_count (fold_eq (List Number) (List Number) formula_numbers_step quant_numbers_step a b) ∙ sides_numbers a b

pub counts_lt : (a b : Term) → formula_counts (Lt a b) ≡ (term_counts a && term_counts b)
unfolding formula_counts formula_numbers
counts_lt a b = ap numbers_count (fold_lt (List Number) (List Number) formula_numbers_step quant_numbers_step a b) ∙ sides_numbers a b

pub counts_le : (a b : Term) → formula_counts (Le a b) ≡ (term_counts a && term_counts b)
unfolding formula_counts formula_numbers
counts_le a b = ap numbers_count (fold_le (List Number) (List Number) formula_numbers_step quant_numbers_step a b) ∙ sides_numbers a b

pub counts_pred : (p : ℕ) (ss : List Sort) (us : List Term) → formula_counts (Pred p ss us) ≡ (list_all sort_counts ss && list_all term_counts us)
unfolding formula_counts formula_numbers
counts_pred p ss us =
    ap numbers_count (fold_pred (List Number) (List Number) formula_numbers_step quant_numbers_step p ss us)
    ∙ both_numbers (flat_map sort_numbers ss) (flat_map term_numbers us)
    ∙ (λ i. sorts_numbers ss i && terms_numbers us i)

pub counts_not : (a : Formula) → formula_counts (Not a) ≡ formula_counts a
unfolding formula_counts formula_numbers
counts_not a = ap numbers_count (fold_not (List Number) (List Number) formula_numbers_step quant_numbers_step a)

pub counts_and : (a b : Formula) → formula_counts (And a b) ≡ (formula_counts a && formula_counts b)
unfolding formula_counts formula_numbers
counts_and a b = ap numbers_count (fold_and (List Number) (List Number) formula_numbers_step quant_numbers_step a b) ∙ both_numbers (formula_numbers a) (formula_numbers b)

pub counts_or : (a b : Formula) → formula_counts (Or a b) ≡ (formula_counts a && formula_counts b)
unfolding formula_counts formula_numbers
counts_or a b = ap numbers_count (fold_or (List Number) (List Number) formula_numbers_step quant_numbers_step a b) ∙ both_numbers (formula_numbers a) (formula_numbers b)

pub counts_xor : (a b : Formula) → formula_counts (Xor a b) ≡ (formula_counts a && formula_counts b)
unfolding formula_counts formula_numbers
counts_xor a b = ap numbers_count (fold_xor (List Number) (List Number) formula_numbers_step quant_numbers_step a b) ∙ both_numbers (formula_numbers a) (formula_numbers b)

pub counts_iff : (a b : Formula) → formula_counts (Iff a b) ≡ (formula_counts a && formula_counts b)
unfolding formula_counts formula_numbers
counts_iff a b = ap numbers_count (fold_iff (List Number) (List Number) formula_numbers_step quant_numbers_step a b) ∙ both_numbers (formula_numbers a) (formula_numbers b)

pub counts_all : (q : Quant) → formula_counts (All q) ≡ quant_counts q
unfolding formula_counts formula_numbers quant_counts quant_numbers
counts_all q = ap numbers_count (fold_all (List Number) (List Number) formula_numbers_step quant_numbers_step q)

pub counts_ex : (q : Quant) → formula_counts (Ex q) ≡ quant_counts q
unfolding formula_counts formula_numbers quant_counts quant_numbers
counts_ex q = ap numbers_count (fold_ex (List Number) (List Number) formula_numbers_step quant_numbers_step q)

pub counts_block : (q : Quant) → quant_counts q ≡ (list_all sort_counts q.sorts && (list_all (list_all term_counts) q.triggers && formula_counts q.body))
unfolding formula_counts formula_numbers quant_counts quant_numbers
counts_block q =
    ap numbers_count (fold_block (List Number) (List Number) formula_numbers_step quant_numbers_step q)
    ∙ both_numbers (flat_map sort_numbers q.sorts) (flat_map (flat_map term_numbers) q.triggers ++ formula_numbers q.body)
    ∙ (λ i. sorts_numbers q.sorts i && both_numbers (flat_map (flat_map term_numbers) q.triggers) (formula_numbers q.body) i)
    ∙ (λ i. list_all sort_counts q.sorts && (triggers_numbers q.triggers i && numbers_count (formula_numbers q.body)))

pub ruleset formula_rules = (counts_true, counts_false, counts_eq, counts_lt, counts_le, counts_pred, counts_not, counts_and, counts_or, counts_xor, counts_iff, counts_all, counts_ex, counts_block)
