-- The fresh constants that occur in a term, a formula and a clause.
use Rattle.std.specs.Prelude.{List, [], ◌∷◌, ◌++◌}
use Rattle.std.specs.List.{flat_map}
use Rattle.ae_core.specs.declared.terms.Term.{Term, Term-F, Fresh, fold-Term}
use Rattle.ae_core.specs.declared.terms.Term.TheOpen as layer
use Rattle.ae_core.specs.declared.formulas.Formula.{Formula, Formula-F, fold-Formula}
use Rattle.ae_core.specs.declared.formulas.Formula.TheOpen as layer_of
use Rattle.ae_core.specs.declared.formulas.Lit.{Lit}

abbrev pub constants_step : Term-F (List Term) → List Term
constants_step (layer.Bound i) = []
constants_step (layer.Num a b r) = []
constants_step (layer.Fresh n s) = Fresh n s ∷ []
constants_step (layer.Apply h ss us) = flat_map (λ u. u) us

unfoldable pub constants : Term → List Term
constants = fold-Term (List Term) constants_step

abbrev pub formula_constants_step : Formula-F (List Term) (List Term) → List Term
formula_constants_step layer_of.True = []
formula_constants_step layer_of.False = []
formula_constants_step (layer_of.Eq a b) = constants a ++ constants b
formula_constants_step (layer_of.Lt a b) = constants a ++ constants b
formula_constants_step (layer_of.Le a b) = constants a ++ constants b
formula_constants_step (layer_of.Pred p ss us) = flat_map constants us
formula_constants_step (layer_of.Not a) = a
formula_constants_step (layer_of.And a b) = a ++ b
formula_constants_step (layer_of.Or a b) = a ++ b
formula_constants_step (layer_of.Xor a b) = a ++ b
formula_constants_step (layer_of.Iff a b) = a ++ b
formula_constants_step (layer_of.All q) = q
formula_constants_step (layer_of.Ex q) = q

-- those of the triggers too
unfoldable pub formula_constants : Formula → List Term
formula_constants = fold-Formula (List Term) (List Term) formula_constants_step (λ q. flat_map (flat_map constants) q.triggers ++ q.body)

abbrev pub clause_constants : List Lit → List Term
clause_constants c = flat_map (λ l. formula_constants l.formula) c
