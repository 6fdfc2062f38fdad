-- The items of a problem.
use Rattle.std.specs.Prelude.{ℕ, List, ◌≡◌, slice_get, Some}
use Rattle.ae_core.specs.declared.formulas.Formula.{Formula}
use Rattle.ae_core.specs.declared.problems.Item.TheVariants.{Goal}
use Rattle.ae_core.specs.declared.problems.Problem.{Problem}

-- the item at this place is the goal of this name
pub record IsGoalNamed (p : Problem) (k : ℕ) (name : List ℕ) : Type 0 where
  pub vars : ℕ
  pub body : Formula
  pub is_goal : slice_get p.items k ≡ Some (Goal name vars body)
