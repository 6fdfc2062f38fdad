-- Sums of positive multiples of inequalities.
use Rattle.std.specs.Prelude.{ℕ, ◌≡◌, ◌⊎◌, Bool, true, false, ◌||◌, List, [], ◌∷◌, map, Contains}
use Rattle.std.specs.List.{AllByRecursion}
use native.Mathlib.Decide.{ℕ_discrete}
use Rattle.ae_math.specs.Fractions.{ℚ, zero_ℚ, neg_ℚ, is_positive}
use Rattle.ae_math.specs.Forms.{Form, SameForm}
use Rattle.ae_num.specs.Forms.{meaning}
use Rattle.ae_rows.specs.Rows.{IsOver, mixture}
use Rattle.ae_ineq.specs.declared.solving.Inequality.{Inequality}

-- ---- numbers
-- the form is the number 0
pub record IsZero (f : Form ℕ) : Type 0 where
  pub over : IsOver 0 f
  pub constant : f.constant ≡ zero_ℚ

-- the form is a number that is negative, or 0 where it has to be positive
pub record IsRefuted (strict : Bool) (f : Form ℕ) : Type 0 where
  pub over : IsOver 0 f
  pub sign : (is_positive (neg_ℚ f.constant) ≡ true) ⊎ ((f.constant ≡ zero_ℚ) × (strict ≡ true))

-- ---- sums
-- an inequality and the number by which it is multiplied
pub record Share : Type 0 where
  pub factor : ℚ
  pub row : Inequality

abbrev pub forms_of : List Share → List (ℚ × Form ℕ)
forms_of us = map (λ u. (u.factor, meaning u.row.lin)) us

-- one of the inequalities is strict, and then their sum is
abbrev pub some_strict : List Share → Bool
some_strict [] = false
some_strict (u ∷ us) = u.row.strict || some_strict us

-- one of the inequalities isn't `0 >= 0` or `0 > 0`
abbrev pub SomeNonzero : List Share → Type 0
SomeNonzero [] = ⊥
SomeNonzero (u ∷ us) = (¬ IsZero (meaning u.row.lin)) ⊎ SomeNonzero us

-- positive multiples of given inequalities add up to the form, which has to be positive where `strict`, and not negative otherwise
pub record IsSum (given : List Inequality) (f : Form ℕ) (strict : Bool) : Type 0 where
  pub shares : List Share
  pub among : AllByRecursion (λ u. Contains given u.row) shares
  pub positive : AllByRecursion (λ u. is_positive u.factor ≡ true) shares
  pub same : SameForm ℕ_discrete (mixture (forms_of shares)) f
  pub is_strict : some_strict shares ≡ strict

-- a sum of given inequalities that can't hold
pub record HasRefutedSum (given : List Inequality) : Type 0 where
  pub form : Form ℕ
  pub strict : Bool
  pub sum : IsSum given form strict
  pub refuted : IsRefuted strict form

-- a sum of given inequalities that is `0 >= 0`, though one of them isn't zero: each of them holds with equality alone
pub record HasTightSum (given : List Inequality) : Type 0 where
  pub form : Form ℕ
  pub sum : IsSum given form false
  pub zero : IsZero form
  pub some : SomeNonzero sum.shares
