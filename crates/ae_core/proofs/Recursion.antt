-- What a recursion gives at each variant of sorts, terms and formulas, whatever its step is.
use Rattle.std.specs.Prelude.{ℕ, ℤ, Bool as Bit, List, map, ◌≡◌}
use mathlib.Core.Path.{sym, ap, ◌∙◌}
use Rattle.ae_core.specs.declared.terms.Sort.{Sort, Sort-F, Var, Rigid, Int, Real, Bool, Unit as UnitSort, Named, fold-Sort, fold-roll-Sort, para-Sort, para-roll-Sort}
use Rattle.ae_core.specs.declared.terms.Sort.TheOpen as sort_layer
use Rattle.ae_core.specs.declared.terms.Sort.TheVariants.{rolls-Var, rolls-Rigid, rolls-Int, rolls-Real, rolls-Bool, rolls-Unit, rolls-Named}
use Rattle.ae_core.specs.declared.terms.Head.{Head}
use Rattle.ae_core.specs.declared.terms.Term.{Term, Term-F, Bound, Num, Fresh, Apply, fold-Term, fold-roll-Term, para-Term, para-roll-Term}
use Rattle.ae_core.specs.declared.terms.Term.TheOpen as layer
use Rattle.ae_core.specs.declared.terms.Term.TheVariants.{rolls-Apply, rolls-Bound, rolls-Num, rolls-Fresh}
use Rattle.ae_core.specs.declared.formulas.Formula.{Formula, Formula-F, True, False, Eq, Lt, Le, Pred, Not, And, Or, Xor, Iff, All, Ex, fold-Formula, fold-roll-Formula, para-Formula, para-roll-Formula}
use Rattle.ae_core.specs.declared.formulas.Formula.TheOpen as formula_layer
use Rattle.ae_core.specs.declared.formulas.Formula.TheVariants.{rolls-True, rolls-False, rolls-Eq, rolls-Lt, rolls-Le, rolls-Pred, rolls-Not, rolls-And, rolls-Or, rolls-Xor, rolls-Iff, rolls-All, rolls-Ex}
use Rattle.ae_core.specs.declared.formulas.Quant.{Quant, Quant-F, fold-Quant, fold-roll-Quant, para-Quant, para-roll-Quant, out-Quant, roll-out-Quant}

module _ (A : Type 0) (step : Sort-F A → A) where
  abbrev of_sort : Sort → A
  of_sort = fold-Sort A step

  pub fold_var : (i : ℕ) → of_sort (Var i) ≡ step (sort_layer.Var i)
  fold_var i = ap of_sort (sym (rolls-Var i)) ∙ fold-roll-Sort A step (sort_layer.Var i)

  pub fold_rigid : (i : ℕ) → of_sort (Rigid i) ≡ step (sort_layer.Rigid i)
  fold_rigid i = ap of_sort (sym (rolls-Rigid i)) ∙ fold-roll-Sort A step (sort_layer.Rigid i)

  pub fold_int : of_sort Int ≡ step sort_layer.Int
  fold_int = ap of_sort (sym rolls-Int) ∙ fold-roll-Sort A step sort_layer.Int

  pub fold_real : of_sort Real ≡ step sort_layer.Real
  fold_real = ap of_sort (sym rolls-Real) ∙ fold-roll-Sort A step sort_layer.Real

  pub fold_bool : of_sort Bool ≡ step sort_layer.Bool
  fold_bool = ap of_sort (sym rolls-Bool) ∙ fold-roll-Sort A step sort_layer.Bool

  pub fold_unit : of_sort UnitSort ≡ step sort_layer.Unit
  fold_unit = ap of_sort (sym rolls-Unit) ∙ fold-roll-Sort A step sort_layer.Unit

  pub fold_named : (h : ℕ) (args : List Sort) → of_sort (Named h args) ≡ step (sort_layer.Named h (map of_sort args))
  fold_named h args = ap of_sort (sym (rolls-Named h args)) ∙ fold-roll-Sort A step (sort_layer.Named h args)

module _ (A : Type 0) (step : Term-F A → A) where
  abbrev of_term : Term → A
  of_term = fold-Term A step

  pub fold_bound : (i : ℕ) → of_term (Bound i) ≡ step (layer.Bound i)
  fold_bound i = ap of_term (sym (rolls-Bound i)) ∙ fold-roll-Term A step (layer.Bound i)

  pub fold_num : (top bottom : ℤ) (real : Bit) → of_term (Num top bottom real) ≡ step (layer.Num top bottom real)
  fold_num top bottom real = ap of_term (sym (rolls-Num top bottom real)) ∙ fold-roll-Term A step (layer.Num top bottom real)

  pub fold_fresh : (n : ℕ) (s : Sort) → of_term (Fresh n s) ≡ step (layer.Fresh n s)
  fold_fresh n s = ap of_term (sym (rolls-Fresh n s)) ∙ fold-roll-Term A step (layer.Fresh n s)

  pub fold_apply : (h : Head) (ss : List Sort) (args : List Term) → of_term (Apply h ss args) ≡ step (layer.Apply h ss (map of_term args))
  fold_apply h ss args = ap of_term (sym (rolls-Apply h ss args)) ∙ fold-roll-Term A step (layer.Apply h ss args)

module _ (A B : Type 0) (step : Formula-F A B → A) (block : Quant-F A B → B) where
  abbrev of_formula : Formula → A
  of_formula = fold-Formula A B step block

  abbrev of_quant : Quant → B
  of_quant = fold-Quant A B step block

  pub fold_true : of_formula True ≡ step formula_layer.True
  fold_true = ap of_formula (sym rolls-True) ∙ fold-roll-Formula A B step block formula_layer.True

  pub fold_false : of_formula False ≡ step formula_layer.False
  fold_false = ap of_formula (sym rolls-False) ∙ fold-roll-Formula A B step block formula_layer.False

  pub fold_eq : (a b : Term) → of_formula (Eq a b) ≡ step (formula_layer.Eq a b)
  fold_eq a b = ap of_formula (sym (rolls-Eq a b)) ∙ fold-roll-Formula A B step block (formula_layer.Eq a b)

  pub fold_lt : (a b : Term) → of_formula (Lt a b) ≡ step (formula_layer.Lt a b)
  fold_lt a b = ap of_formula (sym (rolls-Lt a b)) ∙ fold-roll-Formula A B step block (formula_layer.Lt a b)

  pub fold_le : (a b : Term) → of_formula (Le a b) ≡ step (formula_layer.Le a b)
  fold_le a b = ap of_formula (sym (rolls-Le a b)) ∙ fold-roll-Formula A B step block (formula_layer.Le a b)

  pub fold_pred : (p : ℕ) (ss : List Sort) (args : List Term) → of_formula (Pred p ss args) ≡ step (formula_layer.Pred p ss args)
  fold_pred p ss args = ap of_formula (sym (rolls-Pred p ss args)) ∙ fold-roll-Formula A B step block (formula_layer.Pred p ss args)

  pub fold_not : (a : Formula) → of_formula (Not a) ≡ step (formula_layer.Not (of_formula a))
  fold_not a = ap of_formula (sym (rolls-Not a)) ∙ fold-roll-Formula A B step block (formula_layer.Not a)

  pub fold_and : (a b : Formula) → of_formula (And a b) ≡ step (formula_layer.And (of_formula a) (of_formula b))
  fold_and a b = ap of_formula (sym (rolls-And a b)) ∙ fold-roll-Formula A B step block (formula_layer.And a b)

  pub fold_or : (a b : Formula) → of_formula (Or a b) ≡ step (formula_layer.Or (of_formula a) (of_formula b))
  fold_or a b = ap of_formula (sym (rolls-Or a b)) ∙ fold-roll-Formula A B step block (formula_layer.Or a b)

  pub fold_xor : (a b : Formula) → of_formula (Xor a b) ≡ step (formula_layer.Xor (of_formula a) (of_formula b))
  fold_xor a b = ap of_formula (sym (rolls-Xor a b)) ∙ fold-roll-Formula A B step block (formula_layer.Xor a b)

  pub fold_iff : (a b : Formula) → of_formula (Iff a b) ≡ step (formula_layer.Iff (of_formula a) (of_formula b))
  fold_iff a b = ap of_formula (sym (rolls-Iff a b)) ∙ fold-roll-Formula A B step block (formula_layer.Iff a b)

  pub fold_all : (q : Quant) → of_formula (All q) ≡ step (formula_layer.All (of_quant q))
  fold_all q = ap of_formula (sym (rolls-All q)) ∙ fold-roll-Formula A B step block (formula_layer.All q)

  pub fold_ex : (q : Quant) → of_formula (Ex q) ≡ step (formula_layer.Ex (of_quant q))
  fold_ex q = ap of_formula (sym (rolls-Ex q)) ∙ fold-roll-Formula A B step block (formula_layer.Ex q)

  pub fold_block : (q : Quant) → of_quant q ≡ block (record { sorts = q.sorts; triggers = q.triggers; body = of_formula q.body })
  fold_block q = ap of_quant (sym (roll-out-Quant q)) ∙ fold-roll-Quant A B step block (out-Quant q)

-- ---- the same where the step also sees each part itself
module _ (A : Type 0) (step : Sort-F (Sort × A) → A) where
  abbrev whole_sort : Sort → A
  whole_sort = para-Sort A step

  pub para_var : (i : ℕ) → whole_sort (Var i) ≡ step (sort_layer.Var i)
  para_var i = ap whole_sort (sym (rolls-Var i)) ∙ para-roll-Sort A step (sort_layer.Var i)

  pub para_rigid : (i : ℕ) → whole_sort (Rigid i) ≡ step (sort_layer.Rigid i)
  para_rigid i = ap whole_sort (sym (rolls-Rigid i)) ∙ para-roll-Sort A step (sort_layer.Rigid i)

  pub para_int : whole_sort Int ≡ step sort_layer.Int
  para_int = ap whole_sort (sym rolls-Int) ∙ para-roll-Sort A step sort_layer.Int

  pub para_real : whole_sort Real ≡ step sort_layer.Real
  para_real = ap whole_sort (sym rolls-Real) ∙ para-roll-Sort A step sort_layer.Real

  pub para_bool : whole_sort Bool ≡ step sort_layer.Bool
  para_bool = ap whole_sort (sym rolls-Bool) ∙ para-roll-Sort A step sort_layer.Bool

  pub para_unit : whole_sort UnitSort ≡ step sort_layer.Unit
  para_unit = ap whole_sort (sym rolls-Unit) ∙ para-roll-Sort A step sort_layer.Unit

  pub para_named : (h : ℕ) (args : List Sort) → whole_sort (Named h args) ≡ step (sort_layer.Named h (map (λ s. (s, whole_sort s)) args))
  para_named h args = ap whole_sort (sym (rolls-Named h args)) ∙ para-roll-Sort A step (sort_layer.Named h args)

module _ (A : Type 0) (step : Term-F (Term × A) → A) where
  abbrev whole_term : Term → A
  whole_term = para-Term A step

  pub para_bound : (i : ℕ) → whole_term (Bound i) ≡ step (layer.Bound i)
  para_bound i = ap whole_term (sym (rolls-Bound i)) ∙ para-roll-Term A step (layer.Bound i)

  pub para_num : (top bottom : ℤ) (real : Bit) → whole_term (Num top bottom real) ≡ step (layer.Num top bottom real)
  para_num top bottom real = ap whole_term (sym (rolls-Num top bottom real)) ∙ para-roll-Term A step (layer.Num top bottom real)

  pub para_fresh : (n : ℕ) (s : Sort) → whole_term (Fresh n s) ≡ step (layer.Fresh n s)
  para_fresh n s = ap whole_term (sym (rolls-Fresh n s)) ∙ para-roll-Term A step (layer.Fresh n s)

  pub para_apply : (h : Head) (ss : List Sort) (args : List Term) → whole_term (Apply h ss args) ≡ step (layer.Apply h ss (map (λ t. (t, whole_term t)) args))
  para_apply h ss args = ap whole_term (sym (rolls-Apply h ss args)) ∙ para-roll-Term A step (layer.Apply h ss args)

module _ (A B : Type 0) (step : Formula-F (Formula × A) (Quant × B) → A) (block : Quant-F (Formula × A) (Quant × B) → B) where
  abbrev whole_formula : Formula → A
  whole_formula = para-Formula A B step block

  abbrev whole_quant : Quant → B
  whole_quant = para-Quant A B step block

  pub para_true : whole_formula True ≡ step formula_layer.True
  para_true = ap whole_formula (sym rolls-True) ∙ para-roll-Formula A B step block formula_layer.True

  pub para_false : whole_formula False ≡ step formula_layer.False
  para_false = ap whole_formula (sym rolls-False) ∙ para-roll-Formula A B step block formula_layer.False

  pub para_eq : (a b : Term) → whole_formula (Eq a b) ≡ step (formula_layer.Eq a b)
  para_eq a b = ap whole_formula (sym (rolls-Eq a b)) ∙ para-roll-Formula A B step block (formula_layer.Eq a b)

  pub para_lt : (a b : Term) → whole_formula (Lt a b) ≡ step (formula_layer.Lt a b)
  para_lt a b = ap whole_formula (sym (rolls-Lt a b)) ∙ para-roll-Formula A B step block (formula_layer.Lt a b)

  pub para_le : (a b : Term) → whole_formula (Le a b) ≡ step (formula_layer.Le a b)
  para_le a b = ap whole_formula (sym (rolls-Le a b)) ∙ para-roll-Formula A B step block (formula_layer.Le a b)

  pub para_pred : (p : ℕ) (ss : List Sort) (args : List Term) → whole_formula (Pred p ss args) ≡ step (formula_layer.Pred p ss args)
  para_pred p ss args = ap whole_formula (sym (rolls-Pred p ss args)) ∙ para-roll-Formula A B step block (formula_layer.Pred p ss args)

  pub para_not : (a : Formula) → whole_formula (Not a) ≡ step (formula_layer.Not (a, whole_formula a))
  para_not a = ap whole_formula (sym (rolls-Not a)) ∙ para-roll-Formula A B step block (formula_layer.Not a)

  pub para_and : (a b : Formula) → whole_formula (And a b) ≡ step (formula_layer.And (a, whole_formula a) (b, whole_formula b))
  para_and a b = ap whole_formula (sym (rolls-And a b)) ∙ para-roll-Formula A B step block (formula_layer.And a b)

  pub para_or : (a b : Formula) → whole_formula (Or a b) ≡ step (formula_layer.Or (a, whole_formula a) (b, whole_formula b))
  para_or a b = ap whole_formula (sym (rolls-Or a b)) ∙ para-roll-Formula A B step block (formula_layer.Or a b)

  pub para_xor : (a b : Formula) → whole_formula (Xor a b) ≡ step (formula_layer.Xor (a, whole_formula a) (b, whole_formula b))
  para_xor a b = ap whole_formula (sym (rolls-Xor a b)) ∙ para-roll-Formula A B step block (formula_layer.Xor a b)

  pub para_iff : (a b : Formula) → whole_formula (Iff a b) ≡ step (formula_layer.Iff (a, whole_formula a) (b, whole_formula b))
  para_iff a b = ap whole_formula (sym (rolls-Iff a b)) ∙ para-roll-Formula A B step block (formula_layer.Iff a b)

  pub para_all : (q : Quant) → whole_formula (All q) ≡ step (formula_layer.All (q, whole_quant q))
  para_all q = ap whole_formula (sym (rolls-All q)) ∙ para-roll-Formula A B step block (formula_layer.All q)

  pub para_ex : (q : Quant) → whole_formula (Ex q) ≡ step (formula_layer.Ex (q, whole_quant q))
  para_ex q = ap whole_formula (sym (rolls-Ex q)) ∙ para-roll-Formula A B step block (formula_layer.Ex q)

  pub para_block : (q : Quant) → whole_quant q ≡ block (record { sorts = q.sorts; triggers = q.triggers; body = (q.body, whole_formula q.body) })
  para_block q = ap whole_quant (sym (roll-out-Quant q)) ∙ para-roll-Quant A B step block (out-Quant q)
