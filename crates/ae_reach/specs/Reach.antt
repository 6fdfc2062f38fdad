-- Goals that one run of the solver answers: without inequality, and without quantifier but for a goal's own block.
use Rattle.std.specs.Prelude.{ℕ, ◌<◌, true, List, [], ◌≡◌, slice_get, Some}
use Rattle.ae_core.specs.Constants.{formula_constants}
use Rattle.ae_core.specs.Sorts.{formula_ok}
use Rattle.ae_core.specs.Putting.{put_formula}
use Rattle.ae_core.specs.declared.formulas.Formula.{Formula, All}
use Rattle.ae_core.specs.declared.formulas.Quant.{Quant}
use Rattle.ae_core.specs.declared.problems.Signature.{Signature}
use Rattle.ae_core.specs.declared.problems.Problem.{Problem}
use Rattle.ae_core.specs.declared.problems.Item.TheVariants.{Axiom}
use Rattle.ae_rules.specs.Instances.{hypothesis, count_from}
use Rattle.ae_rules.specs.Derivations.{goal_body}
use Rattle.ae_journal.specs.Ground.{is_simple}

-- closed and well sorted, without fresh constants, as each formula of a lawful problem is
abbrev pub IsClosedFormula : Signature → Formula → Type 0
IsClosedFormula sig f = (formula_ok sig f ≡ true) × (formula_constants f ≡ [])

-- no quantifier and no inequality
pub record IsFormulaInReach (sig : Signature) (f : Formula) : Type 0 where
  pub simple : is_simple f ≡ true

-- such a formula, or one `forall` block over one, whose variables are read as constants
pub data IsGoalInReach (sig : Signature) : Formula → Type 0 where
  plain : {f : Formula} → IsFormulaInReach sig f → IsGoalInReach sig f
  block : (q : Quant) → IsFormulaInReach sig (put_formula (count_from 0 q.sorts) q.body) → IsGoalInReach sig (All q)

-- the goal at place g, and the hypotheses before it, which have no type variables
pub record IsInReach (p : Problem) (g : ℕ) : Type 0 where
  pub not_varied : (k : ℕ) (name : List ℕ) (v : ℕ) (f : Formula) → k < g → slice_get p.items k ≡ Some (Axiom name v f) → v ≡ 0
  pub hypotheses : (k : ℕ) (f : Formula) → hypothesis p g k [] ≡ Some f → IsFormulaInReach p.signature f
  pub closed : (k : ℕ) (f : Formula) → hypothesis p g k [] ≡ Some f → IsClosedFormula p.signature f
  pub goal : Formula
  pub is : goal_body p g ≡ Some goal
  pub ground : IsGoalInReach p.signature goal
  pub goal_closed : IsClosedFormula p.signature goal
