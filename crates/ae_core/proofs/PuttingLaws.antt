-- What sorts put for type variables, and terms put for a block's variables, make of each variant of sorts, terms and formulas.
use Rattle.std.specs.Prelude.{ℕ, ℤ, ◌+◌, Bool, List, map, length, slice_get, ◌≡◌}
use mathlib.Core.Path.{sym, ap, ◌∙◌}
use Rattle.ae_core.specs.Putting.{put_sort, put_sort_step, instance_term, instance_term_step, instance, instance_quant, instance_step, instance_quant_step, variable_at, put_terms, put_step, put_formula_in, put_quant_in, put_formula_step, put_quant_step}
use Rattle.ae_core.specs.declared.terms.Sort.{Sort, Var, Rigid, Int, Real, Bool as BoolSort, Unit as UnitSort, Named, fold-roll-Sort}
use Rattle.ae_core.specs.declared.terms.Sort.TheOpen as sort_layer
use Rattle.ae_core.specs.declared.terms.Sort.TheVariants.{rolls-Var, rolls-Rigid, rolls-Int as rolls-IntSort, rolls-Real as rolls-RealSort, rolls-Bool, rolls-Unit, rolls-Named}
use Rattle.ae_base.specs.Options.{or_else}
use Rattle.ae_core.specs.declared.terms.Head.{Head}
use Rattle.ae_core.specs.declared.terms.Term.{Term, Bound, Num, Fresh, Apply}
use Rattle.ae_core.specs.declared.formulas.Formula.{Formula, True, False, Eq, Lt, Le, Pred, Not, And, Or, Xor, Iff, All, Ex}
use Rattle.ae_core.specs.declared.formulas.Quant.{Quant}
use Rattle.ae_core.proofs.Recursion.{fold_bound, fold_num, fold_fresh, fold_apply, fold_true, fold_false, fold_eq, fold_lt, fold_le, fold_pred, fold_not, fold_and, fold_or, fold_xor, fold_iff, fold_all, fold_ex, fold_block}

pub put_var : (ss : List Sort) (i : ℕ) → put_sort ss (Var i) ≡ or_else (slice_get ss i) (Var i)
unfolding put_sort
put_var ss i = ap (put_sort ss) (sym (rolls-Var i)) ∙ fold-roll-Sort Sort (put_sort_step ss) (sort_layer.Var i)

pub put_rigid : (ss : List Sort) (i : ℕ) → put_sort ss (Rigid i) ≡ Rigid i
unfolding put_sort
put_rigid ss i = ap (put_sort ss) (sym (rolls-Rigid i)) ∙ fold-roll-Sort Sort (put_sort_step ss) (sort_layer.Rigid i)

pub put_int : (ss : List Sort) → put_sort ss Int ≡ Int
unfolding put_sort
put_int ss = ap (put_sort ss) (sym (rolls-IntSort)) ∙ fold-roll-Sort Sort (put_sort_step ss) (sort_layer.Int)

pub put_real : (ss : List Sort) → put_sort ss Real ≡ Real
unfolding put_sort
put_real ss = ap (put_sort ss) (sym (rolls-RealSort)) ∙ fold-roll-Sort Sort (put_sort_step ss) (sort_layer.Real)

pub put_bool : (ss : List Sort) → put_sort ss BoolSort ≡ BoolSort
unfolding put_sort
put_bool ss = ap (put_sort ss) (sym (rolls-Bool)) ∙ fold-roll-Sort Sort (put_sort_step ss) (sort_layer.Bool)

pub put_unit : (ss : List Sort) → put_sort ss UnitSort ≡ UnitSort
unfolding put_sort
put_unit ss = ap (put_sort ss) (sym (rolls-Unit)) ∙ fold-roll-Sort Sort (put_sort_step ss) (sort_layer.Unit)

pub put_named : (ss : List Sort) (h : ℕ) (args : List Sort) → put_sort ss (Named h args) ≡ Named h (map (put_sort ss) args)
unfolding put_sort
put_named ss h args = ap (put_sort ss) (sym (rolls-Named h args)) ∙ fold-roll-Sort Sort (put_sort_step ss) (sort_layer.Named h args)

pub ruleset put_sort_rules = (put_var, put_rigid, put_int, put_real, put_bool, put_unit, put_named)

pub instance_bound : (ss : List Sort) (i : ℕ) → instance_term ss (Bound i) ≡ Bound i
unfolding instance_term
instance_bound ss = fold_bound Term (instance_term_step ss)

pub instance_num : (ss : List Sort) (a b : ℤ) (r : Bool) → instance_term ss (Num a b r) ≡ Num a b r
unfolding instance_term
instance_num ss = fold_num Term (instance_term_step ss)

pub instance_fresh : (ss : List Sort) (n : ℕ) (s : Sort) → instance_term ss (Fresh n s) ≡ Fresh n (put_sort ss s)
unfolding instance_term
instance_fresh ss = fold_fresh Term (instance_term_step ss)

pub instance_apply : (ss : List Sort) (h : Head) (os : List Sort) (us : List Term) → instance_term ss (Apply h os us) ≡ Apply h (map (put_sort ss) os) (map (instance_term ss) us)
unfolding instance_term
instance_apply ss = fold_apply Term (instance_term_step ss)

pub instance_true : (ss : List Sort) → instance ss True ≡ True
unfolding instance instance_quant
instance_true ss = fold_true Formula Quant (instance_step ss) (instance_quant_step ss)

pub instance_false : (ss : List Sort) → instance ss False ≡ False
unfolding instance instance_quant
instance_false ss = fold_false Formula Quant (instance_step ss) (instance_quant_step ss)

pub instance_eq : (ss : List Sort) (a b : Term) → instance ss (Eq a b) ≡ Eq (instance_term ss a) (instance_term ss b)
unfolding instance instance_quant
instance_eq ss = fold_eq Formula Quant (instance_step ss) (instance_quant_step ss)

pub instance_lt : (ss : List Sort) (a b : Term) → instance ss (Lt a b) ≡ Lt (instance_term ss a) (instance_term ss b)
unfolding instance instance_quant
instance_lt ss = fold_lt Formula Quant (instance_step ss) (instance_quant_step ss)

pub instance_le : (ss : List Sort) (a b : Term) → instance ss (Le a b) ≡ Le (instance_term ss a) (instance_term ss b)
unfolding instance instance_quant
instance_le ss = fold_le Formula Quant (instance_step ss) (instance_quant_step ss)

pub instance_pred : (ss : List Sort) (p : ℕ) (os : List Sort) (us : List Term) → instance ss (Pred p os us) ≡ Pred p (map (put_sort ss) os) (map (instance_term ss) us)
unfolding instance instance_quant
instance_pred ss = fold_pred Formula Quant (instance_step ss) (instance_quant_step ss)

pub instance_not : (ss : List Sort) (a : Formula) → instance ss (Not a) ≡ Not (instance ss a)
unfolding instance instance_quant
instance_not ss = fold_not Formula Quant (instance_step ss) (instance_quant_step ss)

pub instance_and : (ss : List Sort) (a b : Formula) → instance ss (And a b) ≡ And (instance ss a) (instance ss b)
unfolding instance instance_quant
instance_and ss = fold_and Formula Quant (instance_step ss) (instance_quant_step ss)

pub instance_or : (ss : List Sort) (a b : Formula) → instance ss (Or a b) ≡ Or (instance ss a) (instance ss b)
unfolding instance instance_quant
instance_or ss = fold_or Formula Quant (instance_step ss) (instance_quant_step ss)

pub instance_xor : (ss : List Sort) (a b : Formula) → instance ss (Xor a b) ≡ Xor (instance ss a) (instance ss b)
unfolding instance instance_quant
instance_xor ss = fold_xor Formula Quant (instance_step ss) (instance_quant_step ss)

pub instance_iff : (ss : List Sort) (a b : Formula) → instance ss (Iff a b) ≡ Iff (instance ss a) (instance ss b)
unfolding instance instance_quant
instance_iff ss = fold_iff Formula Quant (instance_step ss) (instance_quant_step ss)

pub instance_all : (ss : List Sort) (q : Quant) → instance ss (All q) ≡ All (instance_quant ss q)
unfolding instance instance_quant
instance_all ss = fold_all Formula Quant (instance_step ss) (instance_quant_step ss)

pub instance_ex : (ss : List Sort) (q : Quant) → instance ss (Ex q) ≡ Ex (instance_quant ss q)
unfolding instance instance_quant
instance_ex ss = fold_ex Formula Quant (instance_step ss) (instance_quant_step ss)

pub instance_block : (ss : List Sort) (q : Quant) → instance_quant ss q ≡ record { sorts = map (put_sort ss) q.sorts; triggers = map (map (instance_term ss)) q.triggers; body = instance ss q.body }
unfolding instance instance_quant
instance_block ss = fold_block Formula Quant (instance_step ss) (instance_quant_step ss)

pub ruleset instance_term_rules = (instance_bound, instance_num, instance_fresh, instance_apply)

pub ruleset instance_rules = (instance_true, instance_false, instance_eq, instance_lt, instance_le, instance_pred, instance_not, instance_and, instance_or, instance_xor, instance_iff, instance_all, instance_ex, instance_block)

pub put_bound : (d : ℕ) (ts : List Term) (i : ℕ) → put_terms d ts (Bound i) ≡ variable_at d ts i
unfolding put_terms
put_bound d ts = fold_bound Term (put_step d ts)

pub put_num : (d : ℕ) (ts : List Term) (a b : ℤ) (r : Bool) → put_terms d ts (Num a b r) ≡ Num a b r
unfolding put_terms
put_num d ts = fold_num Term (put_step d ts)

pub put_fresh : (d : ℕ) (ts : List Term) (n : ℕ) (s : Sort) → put_terms d ts (Fresh n s) ≡ Fresh n s
unfolding put_terms
put_fresh d ts = fold_fresh Term (put_step d ts)

pub put_apply : (d : ℕ) (ts : List Term) (h : Head) (ss : List Sort) (us : List Term) → put_terms d ts (Apply h ss us) ≡ Apply h ss (map (put_terms d ts) us)
unfolding put_terms
put_apply d ts = fold_apply Term (put_step d ts)

pub put_true : (d : ℕ) (ts : List Term) → put_formula_in d ts True ≡ True
unfolding put_formula_in put_quant_in
put_true d ts = ap (λ k. k d) (fold_true (ℕ → Formula) (ℕ → Quant) (put_formula_step ts) (put_quant_step ts))

pub put_false : (d : ℕ) (ts : List Term) → put_formula_in d ts False ≡ False
unfolding put_formula_in put_quant_in
put_false d ts = ap (λ k. k d) (fold_false (ℕ → Formula) (ℕ → Quant) (put_formula_step ts) (put_quant_step ts))

pub put_eq : (d : ℕ) (ts : List Term) (a b : Term) → put_formula_in d ts (Eq a b) ≡ Eq (put_terms d ts a) (put_terms d ts b)
unfolding put_formula_in put_quant_in
put_eq d ts a b = ap (λ k. k d) (fold_eq (ℕ → Formula) (ℕ → Quant) (put_formula_step ts) (put_quant_step ts) a b)

pub put_lt : (d : ℕ) (ts : List Term) (a b : Term) → put_formula_in d ts (Lt a b) ≡ Lt (put_terms d ts a) (put_terms d ts b)
unfolding put_formula_in put_quant_in
put_lt d ts a b = ap (λ k. k d) (fold_lt (ℕ → Formula) (ℕ → Quant) (put_formula_step ts) (put_quant_step ts) a b)

pub put_le : (d : ℕ) (ts : List Term) (a b : Term) → put_formula_in d ts (Le a b) ≡ Le (put_terms d ts a) (put_terms d ts b)
unfolding put_formula_in put_quant_in
put_le d ts a b = ap (λ k. k d) (fold_le (ℕ → Formula) (ℕ → Quant) (put_formula_step ts) (put_quant_step ts) a b)

pub put_pred : (d : ℕ) (ts : List Term) (p : ℕ) (ss : List Sort) (us : List Term) → put_formula_in d ts (Pred p ss us) ≡ Pred p ss (map (put_terms d ts) us)
unfolding put_formula_in put_quant_in
put_pred d ts p ss us = ap (λ k. k d) (fold_pred (ℕ → Formula) (ℕ → Quant) (put_formula_step ts) (put_quant_step ts) p ss us)

pub put_not : (d : ℕ) (ts : List Term) (a : Formula) → put_formula_in d ts (Not a) ≡ Not (put_formula_in d ts a)
unfolding put_formula_in put_quant_in
put_not d ts a = ap (λ k. k d) (fold_not (ℕ → Formula) (ℕ → Quant) (put_formula_step ts) (put_quant_step ts) a)

pub put_and : (d : ℕ) (ts : List Term) (a b : Formula) → put_formula_in d ts (And a b) ≡ And (put_formula_in d ts a) (put_formula_in d ts b)
unfolding put_formula_in put_quant_in
put_and d ts a b = ap (λ k. k d) (fold_and (ℕ → Formula) (ℕ → Quant) (put_formula_step ts) (put_quant_step ts) a b)

pub put_or : (d : ℕ) (ts : List Term) (a b : Formula) → put_formula_in d ts (Or a b) ≡ Or (put_formula_in d ts a) (put_formula_in d ts b)
unfolding put_formula_in put_quant_in
put_or d ts a b = ap (λ k. k d) (fold_or (ℕ → Formula) (ℕ → Quant) (put_formula_step ts) (put_quant_step ts) a b)

pub put_xor : (d : ℕ) (ts : List Term) (a b : Formula) → put_formula_in d ts (Xor a b) ≡ Xor (put_formula_in d ts a) (put_formula_in d ts b)
unfolding put_formula_in put_quant_in
put_xor d ts a b = ap (λ k. k d) (fold_xor (ℕ → Formula) (ℕ → Quant) (put_formula_step ts) (put_quant_step ts) a b)

pub put_iff : (d : ℕ) (ts : List Term) (a b : Formula) → put_formula_in d ts (Iff a b) ≡ Iff (put_formula_in d ts a) (put_formula_in d ts b)
unfolding put_formula_in put_quant_in
put_iff d ts a b = ap (λ k. k d) (fold_iff (ℕ → Formula) (ℕ → Quant) (put_formula_step ts) (put_quant_step ts) a b)

pub put_all : (d : ℕ) (ts : List Term) (q : Quant) → put_formula_in d ts (All q) ≡ All (put_quant_in d ts q)
unfolding put_formula_in put_quant_in
put_all d ts q = ap (λ k. k d) (fold_all (ℕ → Formula) (ℕ → Quant) (put_formula_step ts) (put_quant_step ts) q)

pub put_ex : (d : ℕ) (ts : List Term) (q : Quant) → put_formula_in d ts (Ex q) ≡ Ex (put_quant_in d ts q)
unfolding put_formula_in put_quant_in
put_ex d ts q = ap (λ k. k d) (fold_ex (ℕ → Formula) (ℕ → Quant) (put_formula_step ts) (put_quant_step ts) q)

pub put_block : (d : ℕ) (ts : List Term) (q : Quant) → put_quant_in d ts q ≡ record { sorts = q.sorts; triggers = map (map (put_terms (d + length q.sorts) ts)) q.triggers; body = put_formula_in (d + length q.sorts) ts q.body }
unfolding put_formula_in put_quant_in
put_block d ts q = ap (λ k. k d) (fold_block (ℕ → Formula) (ℕ → Quant) (put_formula_step ts) (put_quant_step ts) q)

pub ruleset put_term_rules = (put_bound, put_num, put_fresh, put_apply)

pub ruleset put_rules = (put_true, put_false, put_eq, put_lt, put_le, put_pred, put_not, put_and, put_or, put_xor, put_iff, put_all, put_ex, put_block)
