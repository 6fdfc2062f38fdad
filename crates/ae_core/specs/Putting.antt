-- Sorts put for type variables, and closed terms put for the variables of a block.
use Rattle.std.specs.Prelude.{ℕ, ◌+◌, ◌-◌, cond, nat_lt, List, map, length, reverse, slice_get}
use Rattle.ae_base.specs.Options.{or_else}
use Rattle.ae_core.specs.declared.terms.Sort.{Sort, Sort-F, Var, Rigid, Int, Real, Bool as BoolSort, Unit as UnitSort, Named, fold-Sort}
use Rattle.ae_core.specs.declared.terms.Sort.TheOpen as sort_layer
use Rattle.ae_core.specs.declared.terms.Term.{Term, Term-F, Bound, Num, Fresh, Apply, fold-Term}
use Rattle.ae_core.specs.declared.terms.Term.TheOpen as layer
use Rattle.ae_core.specs.declared.formulas.Formula.{Formula, Formula-F, True, False, Eq, Lt, Le, Pred, Not, And, Or, Xor, Iff, All, Ex, fold-Formula}
use Rattle.ae_core.specs.declared.formulas.Formula.TheOpen as layer_of
use Rattle.ae_core.specs.declared.formulas.Quant.{Quant, Quant-F, fold-Quant}

-- ---- sorts for the type variables of a sort
abbrev pub put_sort_step : List Sort → Sort-F Sort → Sort
put_sort_step ss (sort_layer.Var i) = or_else (slice_get ss i) (Var i)
put_sort_step ss (sort_layer.Rigid i) = Rigid i
put_sort_step ss sort_layer.Int = Int
put_sort_step ss sort_layer.Real = Real
put_sort_step ss sort_layer.Bool = BoolSort
put_sort_step ss sort_layer.Unit = UnitSort
put_sort_step ss (sort_layer.Named h args) = Named h args

unfoldable pub put_sort : List Sort → Sort → Sort
put_sort ss = fold-Sort Sort (put_sort_step ss)

-- ---- sorts for the type variables of a formula
abbrev pub instance_term_step : List Sort → Term-F Term → Term
instance_term_step ss (layer.Bound i) = Bound i
instance_term_step ss (layer.Num a b r) = Num a b r
instance_term_step ss (layer.Fresh n s) = Fresh n (put_sort ss s)
instance_term_step ss (layer.Apply h os us) = Apply h (map (put_sort ss) os) us

unfoldable pub instance_term : List Sort → Term → Term
instance_term ss = fold-Term Term (instance_term_step ss)

abbrev pub instance_step : List Sort → Formula-F Formula Quant → Formula
instance_step ss layer_of.True = True
instance_step ss layer_of.False = False
instance_step ss (layer_of.Eq a b) = Eq (instance_term ss a) (instance_term ss b)
instance_step ss (layer_of.Lt a b) = Lt (instance_term ss a) (instance_term ss b)
instance_step ss (layer_of.Le a b) = Le (instance_term ss a) (instance_term ss b)
instance_step ss (layer_of.Pred p os us) = Pred p (map (put_sort ss) os) (map (instance_term ss) us)
instance_step ss (layer_of.Not a) = Not a
instance_step ss (layer_of.And a b) = And a b
instance_step ss (layer_of.Or a b) = Or a b
instance_step ss (layer_of.Xor a b) = Xor a b
instance_step ss (layer_of.Iff a b) = Iff a b
instance_step ss (layer_of.All q) = All q
instance_step ss (layer_of.Ex q) = Ex q

abbrev pub instance_quant_step : List Sort → Quant-F Formula Quant → Quant
instance_quant_step ss q =
    record { sorts = map (put_sort ss) q.sorts; triggers = map (map (instance_term ss)) q.triggers; body = q.body }

unfoldable pub instance : List Sort → Formula → Formula
instance ss = fold-Formula Formula Quant (instance_step ss) (instance_quant_step ss)

-- the same for a block
unfoldable pub instance_quant : List Sort → Quant → Quant
instance_quant ss = fold-Quant Formula Quant (instance_step ss) (instance_quant_step ss)

-- ---- terms for a block's variables, under d inner variables; the last variable has the distance 0
abbrev pub variable_at : ℕ → List Term → ℕ → Term
variable_at d ts i = cond (nat_lt i d) (Bound i) (or_else (slice_get (reverse ts) (i - d)) (Bound (i - length ts)))

abbrev pub put_step : ℕ → List Term → Term-F Term → Term
put_step d ts (layer.Bound i) = variable_at d ts i
put_step d ts (layer.Num a b r) = Num a b r
put_step d ts (layer.Fresh n s) = Fresh n s
put_step d ts (layer.Apply h ss us) = Apply h ss us

unfoldable pub put_terms : ℕ → List Term → Term → Term
put_terms d ts = fold-Term Term (put_step d ts)

abbrev pub put_formula_step : List Term → Formula-F (ℕ → Formula) (ℕ → Quant) → ℕ → Formula
put_formula_step ts layer_of.True d = True
put_formula_step ts layer_of.False d = False
put_formula_step ts (layer_of.Eq a b) d = Eq (put_terms d ts a) (put_terms d ts b)
put_formula_step ts (layer_of.Lt a b) d = Lt (put_terms d ts a) (put_terms d ts b)
put_formula_step ts (layer_of.Le a b) d = Le (put_terms d ts a) (put_terms d ts b)
put_formula_step ts (layer_of.Pred p ss us) d = Pred p ss (map (put_terms d ts) us)
put_formula_step ts (layer_of.Not a) d = Not (a d)
put_formula_step ts (layer_of.And a b) d = And (a d) (b d)
put_formula_step ts (layer_of.Or a b) d = Or (a d) (b d)
put_formula_step ts (layer_of.Xor a b) d = Xor (a d) (b d)
put_formula_step ts (layer_of.Iff a b) d = Iff (a d) (b d)
put_formula_step ts (layer_of.All q) d = All (q d)
put_formula_step ts (layer_of.Ex q) d = Ex (q d)

abbrev pub put_quant_step : List Term → Quant-F (ℕ → Formula) (ℕ → Quant) → ℕ → Quant
put_quant_step ts q d =
    let n = d + length q.sorts in
    record { sorts = q.sorts; triggers = map (map (put_terms n ts)) q.triggers; body = q.body n }

-- under d inner variables
unfoldable pub put_formula_in : ℕ → List Term → Formula → Formula
put_formula_in d ts f = fold-Formula (ℕ → Formula) (ℕ → Quant) (put_formula_step ts) (put_quant_step ts) f d

unfoldable pub put_quant_in : ℕ → List Term → Quant → Quant
put_quant_in d ts q = fold-Quant (ℕ → Formula) (ℕ → Quant) (put_formula_step ts) (put_quant_step ts) q d

-- the body of a block with terms put for its variables
abbrev pub put_formula : List Term → Formula → Formula
put_formula = put_formula_in 0
