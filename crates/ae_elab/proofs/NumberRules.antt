-- What sorts changed, the sorts of a formula, and their numbers are at each variant of sorts, terms and formulas.
use Rattle.std.proofs.Common.{◌≡◌, ℕ, ℤ, Bool, List, [], ◌∷◌, ◌++◌, map}
use Rattle.std.specs.List.{flat_map}
use Rattle.ae_core.specs.declared.terms.Sort.{Sort, Var, Rigid, Int, Real, Bool as BoolSort, Unit as UnitSort, Named}
use Rattle.ae_core.specs.declared.terms.Head.{Head}
use Rattle.ae_core.specs.declared.terms.Term.{Term, Bound, Num, Fresh, Apply}
use Rattle.ae_core.specs.declared.formulas.Formula.{Formula, True, False, Eq, Lt, Le, Pred, Not, And, Or, Xor, Iff, All, Ex}
use Rattle.ae_core.specs.declared.formulas.Quant.{Quant}
use Rattle.ae_core.specs.Sorts.{same_sort}
use Rattle.ae_elab.specs.Scope.{first_place}
use Rattle.ae_elab.specs.Numbering.{sorts_in_term, sorts_in_term_step, sorts_in, sorts_in_step, sorts_in_block, sorts_in_block_step, open_sorts, open_sorts_step, by_place, numbered_sort, number_step, with_sorts_term, with_sorts_term_step, with_sorts, with_sorts_step, with_sorts_block, with_sorts_block_step}
use Rattle.ae_core.proofs.Recursion.{fold_var, fold_rigid, fold_int, fold_real, fold_bool, fold_unit, fold_named, fold_bound, fold_num, fold_fresh, fold_apply, fold_true, fold_false, fold_eq, fold_lt, fold_le, fold_pred, fold_not, fold_and, fold_or, fold_xor, fold_iff, fold_all, fold_ex, fold_block}

pub with_bound : (r : Sort → Sort) (i : ℕ) → with_sorts_term r (Bound i) ≡ Bound i
unfolding with_sorts_term
with_bound r = fold_bound Term (with_sorts_term_step r)

pub with_num : (r : Sort → Sort) (a b : ℤ) (k : Bool) → with_sorts_term r (Num a b k) ≡ Num a b k
unfolding with_sorts_term
with_num r = fold_num Term (with_sorts_term_step r)

pub with_fresh : (r : Sort → Sort) (n : ℕ) (s : Sort) → with_sorts_term r (Fresh n s) ≡ Fresh n (r s)
unfolding with_sorts_term
with_fresh r = fold_fresh Term (with_sorts_term_step r)

pub with_apply : (r : Sort → Sort) (h : Head) (ss : List Sort) (us : List Term) → with_sorts_term r (Apply h ss us) ≡ Apply h (map r ss) (map (with_sorts_term r) us)
unfolding with_sorts_term
with_apply r = fold_apply Term (with_sorts_term_step r)

pub in_bound : (i : ℕ) → sorts_in_term (Bound i) ≡ []
unfolding sorts_in_term
in_bound = fold_bound (List Sort) sorts_in_term_step

pub in_num : (a b : ℤ) (k : Bool) → sorts_in_term (Num a b k) ≡ []
unfolding sorts_in_term
in_num = fold_num (List Sort) sorts_in_term_step

pub in_fresh : (n : ℕ) (s : Sort) → sorts_in_term (Fresh n s) ≡ s ∷ []
unfolding sorts_in_term
in_fresh = fold_fresh (List Sort) sorts_in_term_step

pub in_apply : (h : Head) (ss : List Sort) (us : List Term) → sorts_in_term (Apply h ss us) ≡ ss ++ flat_map (λ u. u) (map sorts_in_term us)
unfolding sorts_in_term
in_apply = fold_apply (List Sort) sorts_in_term_step

pub with_true : (r : Sort → Sort) → with_sorts r True ≡ True
unfolding with_sorts with_sorts_block
with_true r = fold_true Formula Quant (with_sorts_step r) (with_sorts_block_step r)

pub with_false : (r : Sort → Sort) → with_sorts r False ≡ False
unfolding with_sorts with_sorts_block
with_false r = fold_false Formula Quant (with_sorts_step r) (with_sorts_block_step r)

pub with_eq : (r : Sort → Sort) (a b : Term) → with_sorts r (Eq a b) ≡ Eq (with_sorts_term r a) (with_sorts_term r b)
unfolding with_sorts with_sorts_block
with_eq r = fold_eq Formula Quant (with_sorts_step r) (with_sorts_block_step r)

pub with_lt : (r : Sort → Sort) (a b : Term) → with_sorts r (Lt a b) ≡ Lt (with_sorts_term r a) (with_sorts_term r b)
unfolding with_sorts with_sorts_block
with_lt r = fold_lt Formula Quant (with_sorts_step r) (with_sorts_block_step r)

pub with_le : (r : Sort → Sort) (a b : Term) → with_sorts r (Le a b) ≡ Le (with_sorts_term r a) (with_sorts_term r b)
unfolding with_sorts with_sorts_block
with_le r = fold_le Formula Quant (with_sorts_step r) (with_sorts_block_step r)

pub with_pred : (r : Sort → Sort) (p : ℕ) (ss : List Sort) (us : List Term) → with_sorts r (Pred p ss us) ≡ Pred p (map r ss) (map (with_sorts_term r) us)
unfolding with_sorts with_sorts_block
with_pred r = fold_pred Formula Quant (with_sorts_step r) (with_sorts_block_step r)

pub with_not : (r : Sort → Sort) (a : Formula) → with_sorts r (Not a) ≡ Not (with_sorts r a)
unfolding with_sorts with_sorts_block
with_not r = fold_not Formula Quant (with_sorts_step r) (with_sorts_block_step r)

pub with_and : (r : Sort → Sort) (a b : Formula) → with_sorts r (And a b) ≡ And (with_sorts r a) (with_sorts r b)
unfolding with_sorts with_sorts_block
with_and r = fold_and Formula Quant (with_sorts_step r) (with_sorts_block_step r)

pub with_or : (r : Sort → Sort) (a b : Formula) → with_sorts r (Or a b) ≡ Or (with_sorts r a) (with_sorts r b)
unfolding with_sorts with_sorts_block
with_or r = fold_or Formula Quant (with_sorts_step r) (with_sorts_block_step r)

pub with_xor : (r : Sort → Sort) (a b : Formula) → with_sorts r (Xor a b) ≡ Xor (with_sorts r a) (with_sorts r b)
unfolding with_sorts with_sorts_block
with_xor r = fold_xor Formula Quant (with_sorts_step r) (with_sorts_block_step r)

pub with_iff : (r : Sort → Sort) (a b : Formula) → with_sorts r (Iff a b) ≡ Iff (with_sorts r a) (with_sorts r b)
unfolding with_sorts with_sorts_block
with_iff r = fold_iff Formula Quant (with_sorts_step r) (with_sorts_block_step r)

pub with_all : (r : Sort → Sort) (q : Quant) → with_sorts r (All q) ≡ All (with_sorts_block r q)
unfolding with_sorts with_sorts_block
with_all r = fold_all Formula Quant (with_sorts_step r) (with_sorts_block_step r)

pub with_ex : (r : Sort → Sort) (q : Quant) → with_sorts r (Ex q) ≡ Ex (with_sorts_block r q)
unfolding with_sorts with_sorts_block
with_ex r = fold_ex Formula Quant (with_sorts_step r) (with_sorts_block_step r)

pub in_true : sorts_in True ≡ []
unfolding sorts_in sorts_in_block
in_true = fold_true (List Sort) (List Sort) sorts_in_step sorts_in_block_step

pub in_false : sorts_in False ≡ []
unfolding sorts_in sorts_in_block
in_false = fold_false (List Sort) (List Sort) sorts_in_step sorts_in_block_step

pub in_eq : (a b : Term) → sorts_in (Eq a b) ≡ sorts_in_term a ++ sorts_in_term b
unfolding sorts_in sorts_in_block
in_eq = fold_eq (List Sort) (List Sort) sorts_in_step sorts_in_block_step

pub in_lt : (a b : Term) → sorts_in (Lt a b) ≡ sorts_in_term a ++ sorts_in_term b
unfolding sorts_in sorts_in_block
in_lt = fold_lt (List Sort) (List Sort) sorts_in_step sorts_in_block_step

pub in_le : (a b : Term) → sorts_in (Le a b) ≡ sorts_in_term a ++ sorts_in_term b
unfolding sorts_in sorts_in_block
in_le = fold_le (List Sort) (List Sort) sorts_in_step sorts_in_block_step

pub in_pred : (p : ℕ) (ss : List Sort) (us : List Term) → sorts_in (Pred p ss us) ≡ ss ++ flat_map sorts_in_term us
unfolding sorts_in sorts_in_block
in_pred = fold_pred (List Sort) (List Sort) sorts_in_step sorts_in_block_step

pub in_not : (a : Formula) → sorts_in (Not a) ≡ sorts_in a
unfolding sorts_in sorts_in_block
in_not = fold_not (List Sort) (List Sort) sorts_in_step sorts_in_block_step

pub in_and : (a b : Formula) → sorts_in (And a b) ≡ sorts_in a ++ sorts_in b
unfolding sorts_in sorts_in_block
in_and = fold_and (List Sort) (List Sort) sorts_in_step sorts_in_block_step

pub in_or : (a b : Formula) → sorts_in (Or a b) ≡ sorts_in a ++ sorts_in b
unfolding sorts_in sorts_in_block
in_or = fold_or (List Sort) (List Sort) sorts_in_step sorts_in_block_step

pub in_xor : (a b : Formula) → sorts_in (Xor a b) ≡ sorts_in a ++ sorts_in b
unfolding sorts_in sorts_in_block
in_xor = fold_xor (List Sort) (List Sort) sorts_in_step sorts_in_block_step

pub in_iff : (a b : Formula) → sorts_in (Iff a b) ≡ sorts_in a ++ sorts_in b
unfolding sorts_in sorts_in_block
in_iff = fold_iff (List Sort) (List Sort) sorts_in_step sorts_in_block_step

pub in_all : (q : Quant) → sorts_in (All q) ≡ sorts_in_block q
unfolding sorts_in sorts_in_block
in_all = fold_all (List Sort) (List Sort) sorts_in_step sorts_in_block_step

pub in_ex : (q : Quant) → sorts_in (Ex q) ≡ sorts_in_block q
unfolding sorts_in sorts_in_block
in_ex = fold_ex (List Sort) (List Sort) sorts_in_step sorts_in_block_step

pub with_block : (r : Sort → Sort) (q : Quant) → with_sorts_block r q ≡ record { sorts = map r q.sorts; triggers = map (map (with_sorts_term r)) q.triggers; body = with_sorts r q.body }
unfolding with_sorts with_sorts_block
with_block r = fold_block Formula Quant (with_sorts_step r) (with_sorts_block_step r)

pub in_block : (q : Quant) → sorts_in_block q ≡ q.sorts ++ (flat_map (flat_map sorts_in_term) q.triggers ++ sorts_in q.body)
unfolding sorts_in sorts_in_block
in_block = fold_block (List Sort) (List Sort) sorts_in_step sorts_in_block_step

pub open_var : (i : ℕ) → open_sorts (Var i) ≡ Var i ∷ []
unfolding open_sorts
open_var = fold_var (List Sort) open_sorts_step

pub open_rigid : (i : ℕ) → open_sorts (Rigid i) ≡ Rigid i ∷ []
unfolding open_sorts
open_rigid = fold_rigid (List Sort) open_sorts_step

pub open_int : open_sorts Int ≡ []
unfolding open_sorts
open_int = fold_int (List Sort) open_sorts_step

pub open_real : open_sorts Real ≡ []
unfolding open_sorts
open_real = fold_real (List Sort) open_sorts_step

pub open_bool : open_sorts BoolSort ≡ []
unfolding open_sorts
open_bool = fold_bool (List Sort) open_sorts_step

pub open_unit : open_sorts UnitSort ≡ []
unfolding open_sorts
open_unit = fold_unit (List Sort) open_sorts_step

pub open_named : (h : ℕ) (ss : List Sort) → open_sorts (Named h ss) ≡ flat_map (λ s. s) (map open_sorts ss)
unfolding open_sorts
open_named = fold_named (List Sort) open_sorts_step

pub number_var : (g : Bool) (vs : List Sort) (i : ℕ) → numbered_sort g vs (Var i) ≡ by_place g (first_place (same_sort (Var i)) vs)
unfolding numbered_sort
number_var g vs = fold_var Sort (number_step g vs)

pub number_rigid : (g : Bool) (vs : List Sort) (i : ℕ) → numbered_sort g vs (Rigid i) ≡ by_place g (first_place (same_sort (Rigid i)) vs)
unfolding numbered_sort
number_rigid g vs = fold_rigid Sort (number_step g vs)

pub number_int : (g : Bool) (vs : List Sort) → numbered_sort g vs Int ≡ Int
unfolding numbered_sort
number_int g vs = fold_int Sort (number_step g vs)

pub number_real : (g : Bool) (vs : List Sort) → numbered_sort g vs Real ≡ Real
unfolding numbered_sort
number_real g vs = fold_real Sort (number_step g vs)

pub number_bool : (g : Bool) (vs : List Sort) → numbered_sort g vs BoolSort ≡ BoolSort
unfolding numbered_sort
number_bool g vs = fold_bool Sort (number_step g vs)

pub number_unit : (g : Bool) (vs : List Sort) → numbered_sort g vs UnitSort ≡ UnitSort
unfolding numbered_sort
number_unit g vs = fold_unit Sort (number_step g vs)

pub number_named : (g : Bool) (vs : List Sort) (h : ℕ) (ss : List Sort) → numbered_sort g vs (Named h ss) ≡ Named h (map (numbered_sort g vs) ss)
unfolding numbered_sort
number_named g vs = fold_named Sort (number_step g vs)
