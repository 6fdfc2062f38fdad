-- Formulas and goals without inequality.
use Rattle.std.specs.Prelude.{ℕ, ◌<◌, Bool, true, false, ◌&&◌, List, ◌≡◌, slice_get, Some}
use Rattle.ae_core.specs.declared.formulas.Formula.{Formula, Formula-F, fold-Formula}
use Rattle.ae_core.specs.declared.formulas.Formula.TheOpen as layer
use Rattle.ae_core.specs.declared.formulas.Quant.{Quant-F}
use Rattle.ae_core.specs.declared.problems.Problem.{Problem}
use Rattle.ae_core.specs.declared.problems.Item.TheVariants.{Axiom}
use Rattle.ae_rules.specs.Derivations.{goal_body}

abbrev pub orderless_step : Formula-F Bool Bool → Bool
orderless_step layer.True = true
orderless_step layer.False = true
orderless_step (layer.Eq a b) = true
orderless_step (layer.Lt a b) = false
orderless_step (layer.Le a b) = false
orderless_step (layer.Pred p ss us) = true
orderless_step (layer.Not a) = a
orderless_step (layer.And a b) = a && b
orderless_step (layer.Or a b) = a && b
orderless_step (layer.Xor a b) = a && b
orderless_step (layer.Iff a b) = a && b
orderless_step (layer.All q) = q
orderless_step (layer.Ex q) = q

abbrev pub orderless_body : Quant-F Bool Bool → Bool
orderless_body q = q.body

-- no inequality stands in the formula, in its quantified parts neither
unfoldable pub is_orderless : Formula → Bool
is_orderless = fold-Formula Bool Bool orderless_step orderless_body

-- none stands in the goal at place g among the items, nor in the axioms before it
pub record IsOrderlessGoal (p : Problem) (g : ℕ) : Type 0 where
  pub axioms : (k : ℕ) (name : List ℕ) (vars : ℕ) (body : Formula) → k < g → slice_get p.items k ≡ Some (Axiom name vars body) → is_orderless body ≡ true
  pub goal : (f : Formula) → goal_body p g ≡ Some f → is_orderless f ≡ true
