-- Trails found by the numbers of formulas.
use Rattle.std.specs.Prelude.{◌≡◌, ℕ, ◌<◌, Bool, List, length, slice_index_or, Option, Some, None}
use Rattle.ae_core.specs.declared.formulas.Formula.{Formula}
use Rattle.ae_explain.specs.declared.trail.Assigned.{Assigned}
use Rattle.ae_explain.specs.Assignments.{AreValues}
use Rattle.ae_explain.specs.Trail.{Apart, at}

-- no two formulas have one number
abbrev pub AreUnlike : (Formula → Option ℕ) → Type 0
AreUnlike number = (f g : Formula) (n : ℕ) → number f ≡ Some n → number g ≡ Some n → f ≡ g

abbrev pub value_at : List (Option Bool) → ℕ → Option Bool
value_at values n = slice_index_or values n None

abbrev pub number_at : List ℕ → ℕ → ℕ
number_at numbers i = slice_index_or numbers i 0

-- the numbers of the formulas of a trail, in their order
pub record AreNumbered (number : Formula → Option ℕ) (trail : List Assigned) (standing : List ℕ) : Type 0 where
  pub size : length standing ≡ length trail
  pub each : (i : ℕ) → i < length trail → number (at trail i).lit.formula ≡ Some (number_at standing i)

-- by its number, each formula is found where it stands, with its value; none stands twice
pub record IsIndex (number : Formula → Option ℕ) (trail : List Assigned) (standing : List ℕ) (values : List (Option Bool)) (places : List ℕ) : Type 0 where
  pub apart : Apart trail
  pub unlike : AreUnlike number
  pub room : (f : Formula) (n : ℕ) → number f ≡ Some n → n < length values
  pub place_room : (f : Formula) (n : ℕ) → number f ≡ Some n → n < length places
  pub numbered : AreNumbered number trail standing
  pub valued : AreValues number values trail
  pub placed : (i : ℕ) → i < length trail → number_at places (number_at standing i) ≡ i
