-- Two lists of names with one more name each, where steps equate the lists before and the names.
use Rattle.std.specs.Prelude.{ℕ, ◌<◌, ◌≡◌, List, [], ◌∷◌, ◌++◌, length}
use Rattle.ae_core.specs.declared.problems.AcSymbol.{AcSymbol}
use Rattle.ae_just.specs.declared.steps.Step.{Step}
use Rattle.ae_state_steps.specs.ManySteps.{StatesMany, StatesNames}

pub record IsLonger (steps : List Step) (u : AcSymbol) (left right : List ℕ) (many names : ℕ) : Type 0 where
  pub xs : List ℕ
  pub x : ℕ
  pub ys : List ℕ
  pub y : ℕ
  pub left_is : left ≡ xs ++ x ∷ []
  pub right_is : right ≡ ys ++ y ∷ []
  pub left_some : 0 < length xs
  pub right_some : 0 < length ys
  pub lists : StatesMany steps many u xs ys
  pub lasts : StatesNames steps names x y
