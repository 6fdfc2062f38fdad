-- What is put, the sort, and whether it is well sorted: at each form of sort, term and formula.
use Rattle.std.specs.Prelude.{ℕ, ℤ, Bool, true, cond, ◌&&◌, List, [], ◌∷◌, ◌++◌, ◌≡◌, map, length, Option}
use Rattle.std.specs.List.{list_all}
use Rattle.std.proofs.lemmas.List.{length-map}
use mathlib.Core.Path.{refl, sym, ap, ◌∙◌}
use Rattle.ae_base.specs.Options.{when, only, all_known, ◌>>=◌}
use Rattle.ae_core.specs.Sorts.{sort_ok, sort_ok_step, type_fits, sort_in, sort_step, variable_sort, numeral_ok, head_sort, same_known, same_numeric, predicate_ok, trigger_ok, formula_step, quant_step, formula_in, quant_in}
use Rattle.ae_core.specs.declared.terms.Sort.{Sort, Var, Rigid, Int, Real, Bool as BoolSort, Unit as UnitSort, Named, fold-roll-Sort}
use Rattle.ae_core.specs.declared.terms.Sort.TheOpen as sort_layer
use Rattle.ae_core.specs.declared.terms.Sort.TheVariants.{rolls-Var, rolls-Rigid, rolls-Int as rolls-IntSort, rolls-Real as rolls-RealSort, rolls-Bool, rolls-Unit, rolls-Named}
use Rattle.ae_core.specs.declared.terms.Head.{Head}
use Rattle.ae_core.specs.declared.terms.Term.{Term, Bound, Num, Fresh, Apply, fold-roll-Term}
use Rattle.ae_core.specs.declared.terms.Term.TheOpen as layer
use Rattle.ae_core.specs.declared.terms.Term.TheVariants.{rolls-Apply, rolls-Bound, rolls-Num, rolls-Fresh}
use Rattle.ae_core.specs.declared.formulas.Formula.{Formula, True, False, Eq, Lt, Le, Pred, Not, And, Or, Xor, Iff, All, Ex, fold-roll-Formula}
use Rattle.ae_core.specs.declared.formulas.Formula.TheOpen as formula_layer
use Rattle.ae_core.specs.declared.formulas.Formula.TheVariants.{rolls-True, rolls-False, rolls-Eq, rolls-Lt, rolls-Le, rolls-Pred, rolls-Not, rolls-And, rolls-Or, rolls-Xor, rolls-Iff, rolls-All, rolls-Ex}
use Rattle.ae_core.specs.declared.formulas.Quant.{Quant, fold-roll-Quant, out-Quant, roll-out-Quant}
use Rattle.ae_core.specs.declared.problems.Signature.{Signature}

all_map : {A : Type 0} (f : A → Bool) (xs : List A) → list_all (λ b. b) (map f xs) ≡ list_all f xs
all_map f [] = refl
all_map f (x ∷ xs) = ap (λ b. f x && b) (all_map f xs)

pub ok_var : (sig : Signature) (vars rigids : ℕ → Bool) (i : ℕ) → sort_ok sig vars rigids (Var i) ≡ vars i
unfolding sort_ok
ok_var sig vars rigids i = ap (sort_ok sig vars rigids) (sym (rolls-Var i)) ∙ fold-roll-Sort Bool (sort_ok_step sig vars rigids) (sort_layer.Var i)

pub ok_rigid : (sig : Signature) (vars rigids : ℕ → Bool) (i : ℕ) → sort_ok sig vars rigids (Rigid i) ≡ rigids i
unfolding sort_ok
ok_rigid sig vars rigids i = ap (sort_ok sig vars rigids) (sym (rolls-Rigid i)) ∙ fold-roll-Sort Bool (sort_ok_step sig vars rigids) (sort_layer.Rigid i)

pub ok_int : (sig : Signature) (vars rigids : ℕ → Bool) → sort_ok sig vars rigids Int ≡ true
unfolding sort_ok
ok_int sig vars rigids = ap (sort_ok sig vars rigids) (sym (rolls-IntSort)) ∙ fold-roll-Sort Bool (sort_ok_step sig vars rigids) (sort_layer.Int)

pub ok_real : (sig : Signature) (vars rigids : ℕ → Bool) → sort_ok sig vars rigids Real ≡ true
unfolding sort_ok
ok_real sig vars rigids = ap (sort_ok sig vars rigids) (sym (rolls-RealSort)) ∙ fold-roll-Sort Bool (sort_ok_step sig vars rigids) (sort_layer.Real)

pub ok_bool : (sig : Signature) (vars rigids : ℕ → Bool) → sort_ok sig vars rigids BoolSort ≡ true
unfolding sort_ok
ok_bool sig vars rigids = ap (sort_ok sig vars rigids) (sym (rolls-Bool)) ∙ fold-roll-Sort Bool (sort_ok_step sig vars rigids) (sort_layer.Bool)

pub ok_unit : (sig : Signature) (vars rigids : ℕ → Bool) → sort_ok sig vars rigids UnitSort ≡ true
unfolding sort_ok
ok_unit sig vars rigids = ap (sort_ok sig vars rigids) (sym (rolls-Unit)) ∙ fold-roll-Sort Bool (sort_ok_step sig vars rigids) (sort_layer.Unit)

pub ok_named : (sig : Signature) (vars rigids : ℕ → Bool) (h : ℕ) (args : List Sort) → sort_ok sig vars rigids (Named h args) ≡ type_fits sig h (length args) && list_all (sort_ok sig vars rigids) args
unfolding sort_ok
ok_named sig vars rigids h args = ap (sort_ok sig vars rigids) (sym (rolls-Named h args)) ∙ fold-roll-Sort Bool (sort_ok_step sig vars rigids) (sort_layer.Named h args) ∙ (λ i. type_fits sig h (length-map args (sort_ok sig vars rigids) i) && all_map (sort_ok sig vars rigids) args i)

pub sort_in_bound : (sig : Signature) (may : Sort → Bool) (env : List Sort) (i : ℕ) → sort_in sig may env (Bound i) ≡ variable_sort env i
unfolding sort_in
sort_in_bound sig may env i = ap (sort_in sig may env) (sym (rolls-Bound i)) ∙ fold-roll-Term (Option Sort) (sort_step sig may env) (layer.Bound i)

pub sort_in_num : (sig : Signature) (may : Sort → Bool) (env : List Sort) (a b : ℤ) (r : Bool) → sort_in sig may env (Num a b r) ≡ when (numeral_ok a b r) (cond r Real Int)
unfolding sort_in
sort_in_num sig may env a b r = ap (sort_in sig may env) (sym (rolls-Num a b r)) ∙ fold-roll-Term (Option Sort) (sort_step sig may env) (layer.Num a b r)

pub sort_in_fresh : (sig : Signature) (may : Sort → Bool) (env : List Sort) (n : ℕ) (s : Sort) → sort_in sig may env (Fresh n s) ≡ when (may s) s
unfolding sort_in
sort_in_fresh sig may env n s = ap (sort_in sig may env) (sym (rolls-Fresh n s)) ∙ fold-roll-Term (Option Sort) (sort_step sig may env) (layer.Fresh n s)

pub sort_in_apply : (sig : Signature) (may : Sort → Bool) (env : List Sort) (h : Head) (ss : List Sort) (us : List Term) → sort_in sig may env (Apply h ss us) ≡ (only (list_all may ss) (all_known (map (sort_in sig may env) us)) >>= head_sort sig h ss)
unfolding sort_in
sort_in_apply sig may env h ss us = ap (sort_in sig may env) (sym (rolls-Apply h ss us)) ∙ fold-roll-Term (Option Sort) (sort_step sig may env) (layer.Apply h ss us)

pub formula_in_true : (sig : Signature) (may : Sort → Bool) (env : List Sort) → formula_in sig may env True ≡ true
unfolding formula_in quant_in
formula_in_true sig may env = ap (formula_in sig may env) (sym rolls-True) ∙ ap (λ h. h env) (fold-roll-Formula (List Sort → Bool) (List Sort → Bool) (formula_step sig may) (quant_step sig may) formula_layer.True)

pub formula_in_false : (sig : Signature) (may : Sort → Bool) (env : List Sort) → formula_in sig may env False ≡ true
unfolding formula_in quant_in
formula_in_false sig may env = ap (formula_in sig may env) (sym rolls-False) ∙ ap (λ h. h env) (fold-roll-Formula (List Sort → Bool) (List Sort → Bool) (formula_step sig may) (quant_step sig may) formula_layer.False)

pub formula_in_eq : (sig : Signature) (may : Sort → Bool) (env : List Sort) (a b : Term) → formula_in sig may env (Eq a b) ≡ same_known (sort_in sig may env a) (sort_in sig may env b)
unfolding formula_in quant_in
formula_in_eq sig may env a b = ap (formula_in sig may env) (sym (rolls-Eq a b)) ∙ ap (λ h. h env) (fold-roll-Formula (List Sort → Bool) (List Sort → Bool) (formula_step sig may) (quant_step sig may) (formula_layer.Eq a b))

pub formula_in_lt : (sig : Signature) (may : Sort → Bool) (env : List Sort) (a b : Term) → formula_in sig may env (Lt a b) ≡ same_numeric (sort_in sig may env a) (sort_in sig may env b)
unfolding formula_in quant_in
formula_in_lt sig may env a b = ap (formula_in sig may env) (sym (rolls-Lt a b)) ∙ ap (λ h. h env) (fold-roll-Formula (List Sort → Bool) (List Sort → Bool) (formula_step sig may) (quant_step sig may) (formula_layer.Lt a b))

pub formula_in_le : (sig : Signature) (may : Sort → Bool) (env : List Sort) (a b : Term) → formula_in sig may env (Le a b) ≡ same_numeric (sort_in sig may env a) (sort_in sig may env b)
unfolding formula_in quant_in
formula_in_le sig may env a b = ap (formula_in sig may env) (sym (rolls-Le a b)) ∙ ap (λ h. h env) (fold-roll-Formula (List Sort → Bool) (List Sort → Bool) (formula_step sig may) (quant_step sig may) (formula_layer.Le a b))

pub formula_in_pred : (sig : Signature) (may : Sort → Bool) (env : List Sort) (p : ℕ) (ss : List Sort) (us : List Term) → formula_in sig may env (Pred p ss us) ≡ predicate_ok sig may p ss (all_known (map (sort_in sig may env) us))
unfolding formula_in quant_in
formula_in_pred sig may env p ss us = ap (formula_in sig may env) (sym (rolls-Pred p ss us)) ∙ ap (λ h. h env) (fold-roll-Formula (List Sort → Bool) (List Sort → Bool) (formula_step sig may) (quant_step sig may) (formula_layer.Pred p ss us))

pub formula_in_not : (sig : Signature) (may : Sort → Bool) (env : List Sort) (a : Formula) → formula_in sig may env (Not a) ≡ formula_in sig may env a
unfolding formula_in quant_in
formula_in_not sig may env a = ap (formula_in sig may env) (sym (rolls-Not a)) ∙ ap (λ h. h env) (fold-roll-Formula (List Sort → Bool) (List Sort → Bool) (formula_step sig may) (quant_step sig may) (formula_layer.Not a))

pub formula_in_all : (sig : Signature) (may : Sort → Bool) (env : List Sort) (q : Quant) → formula_in sig may env (All q) ≡ quant_in sig may env q
unfolding formula_in quant_in
formula_in_all sig may env q = ap (formula_in sig may env) (sym (rolls-All q)) ∙ ap (λ h. h env) (fold-roll-Formula (List Sort → Bool) (List Sort → Bool) (formula_step sig may) (quant_step sig may) (formula_layer.All q))

pub formula_in_ex : (sig : Signature) (may : Sort → Bool) (env : List Sort) (q : Quant) → formula_in sig may env (Ex q) ≡ quant_in sig may env q
unfolding formula_in quant_in
formula_in_ex sig may env q = ap (formula_in sig may env) (sym (rolls-Ex q)) ∙ ap (λ h. h env) (fold-roll-Formula (List Sort → Bool) (List Sort → Bool) (formula_step sig may) (quant_step sig may) (formula_layer.Ex q))

pub formula_in_and : (sig : Signature) (may : Sort → Bool) (env : List Sort) (a b : Formula) → formula_in sig may env (And a b) ≡ (formula_in sig may env a && formula_in sig may env b)
unfolding formula_in quant_in
formula_in_and sig may env a b = ap (formula_in sig may env) (sym (rolls-And a b)) ∙ ap (λ h. h env) (fold-roll-Formula (List Sort → Bool) (List Sort → Bool) (formula_step sig may) (quant_step sig may) (formula_layer.And a b))

pub formula_in_or : (sig : Signature) (may : Sort → Bool) (env : List Sort) (a b : Formula) → formula_in sig may env (Or a b) ≡ (formula_in sig may env a && formula_in sig may env b)
unfolding formula_in quant_in
formula_in_or sig may env a b = ap (formula_in sig may env) (sym (rolls-Or a b)) ∙ ap (λ h. h env) (fold-roll-Formula (List Sort → Bool) (List Sort → Bool) (formula_step sig may) (quant_step sig may) (formula_layer.Or a b))

pub formula_in_xor : (sig : Signature) (may : Sort → Bool) (env : List Sort) (a b : Formula) → formula_in sig may env (Xor a b) ≡ (formula_in sig may env a && formula_in sig may env b)
unfolding formula_in quant_in
formula_in_xor sig may env a b = ap (formula_in sig may env) (sym (rolls-Xor a b)) ∙ ap (λ h. h env) (fold-roll-Formula (List Sort → Bool) (List Sort → Bool) (formula_step sig may) (quant_step sig may) (formula_layer.Xor a b))

pub formula_in_iff : (sig : Signature) (may : Sort → Bool) (env : List Sort) (a b : Formula) → formula_in sig may env (Iff a b) ≡ (formula_in sig may env a && formula_in sig may env b)
unfolding formula_in quant_in
formula_in_iff sig may env a b = ap (formula_in sig may env) (sym (rolls-Iff a b)) ∙ ap (λ h. h env) (fold-roll-Formula (List Sort → Bool) (List Sort → Bool) (formula_step sig may) (quant_step sig may) (formula_layer.Iff a b))

pub quant_in_block : (sig : Signature) (may : Sort → Bool) (env : List Sort) (q : Quant) → quant_in sig may env q ≡ (list_all may q.sorts && list_all (list_all (trigger_ok sig may (env ++ q.sorts))) q.triggers && formula_in sig may (env ++ q.sorts) q.body)
unfolding quant_in formula_in
quant_in_block sig may env q =
    ap (quant_in sig may env) (sym (roll-out-Quant q)) ∙ ap (λ h. h env) (fold-roll-Quant (List Sort → Bool) (List Sort → Bool) (formula_step sig may) (quant_step sig may) (out-Quant q))

pub ruleset sort_ok_rules = (ok_var, ok_rigid, ok_int, ok_real, ok_bool, ok_unit, ok_named)

pub ruleset sort_in_rules = (sort_in_bound, sort_in_num, sort_in_fresh, sort_in_apply)

pub ruleset formula_in_rules = (formula_in_true, formula_in_false, formula_in_eq, formula_in_lt, formula_in_le, formula_in_pred, formula_in_not, formula_in_all, formula_in_ex, formula_in_and, formula_in_or, formula_in_xor, formula_in_iff)
