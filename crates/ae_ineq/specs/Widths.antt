-- The steps that give a name its value, of which a product or a sum may leave the limits.
use Rattle.std.specs.Prelude.{ℕ, ◌<◌, ◌≡◌, ◌≢◌, ◌⊎◌, [], Option, Some, None}
use native.Mathlib.Decide.{ℕ_discrete}
use Rattle.ae_math.specs.Fractions.{ℚ, zero_ℚ, one_ℚ, neg_ℚ, inverse_ℚ, ratio, ◌+ℚ◌}
use Rattle.ae_math.specs.Forms.{Form, number, substitute}
use Rattle.ae_num.specs.declared.forms.Lin.{Lin}
use Rattle.ae_num.specs.Forms.{meaning, SameMeaning, IsNormal, first_wide}
use Rattle.ae_rows.specs.Rows.{factor_at, IsLower, IsUpper, LowerBound, UpperBound, IsGreatest, IsLeast, IsChoice}
use Rattle.ae_journal.specs.Licences.{stated_steps}
use Rattle.ae_journal.specs.Points.{half}
use Rattle.ae_journal.specs.declared.answers.NumStep.{NumStep}
use Rattle.ae_journal.specs.declared.answers.NumStep.TheVariants.{Plus, Scale, Subst}
use Rattle.ae_journal.specs.declared.answers.WideAt.{WideAt}

-- the form is the number x, in the normal form
pub record IsAmount (l : Lin) (x : ℚ) : Type 0 where
  pub normal : IsNormal l
  pub bare : l.parts ≡ []
  pub value : ratio l.constant l.den ≡ x

-- values put for some names of a row
pub data IsPlaced (e : ℕ → ℚ) (row : Lin) : Lin → Type 0 where
  as_it_is : IsPlaced e row row
  one_more : (f h : Lin) (k : ℕ) → IsPlaced e row f → SameMeaning (meaning h) (substitute ℕ_discrete (meaning f) k (number (e k))) → IsPlaced e row h

-- the steps with a row of which n is the largest name: the value of a smaller name is put for it; and where n alone is left, the rest is divided by its factor
pub data IsRowStep (e : ℕ → ℚ) (n : ℕ) (row : Lin) : NumStep → Lin → Option ℕ → Lin → Type 0 where
  put_value : (f v : Lin) (k : ℕ) → IsPlaced e row f → k < n → IsAmount v (e k) → IsRowStep e n row Subst f (Some k) v
  divide : (f rest z : Lin) → IsPlaced e row f → ((k : ℕ) → k ≢ n → factor_at k (meaning f) ≡ zero_ℚ) → IsAmount rest (meaning f).constant → IsAmount z (inverse_ℚ (factor_at n (meaning f))) → IsRowStep e n row Scale rest None z

-- those with the lower bounds L and the upper bounds U of a name: two of a kind are compared, by their difference; a lower and an upper one are added, and a sum is halved; or 1 is added to a bound or taken from it
pub data IsBoundStep (L U : ℚ → Type 0) : NumStep → Lin → Option ℕ → Lin → Type 0 where
  compare : (x y : ℚ) (l r : Lin) → (L x × L y) ⊎ (U x × U y) → IsAmount l x → IsAmount r (neg_ℚ y) → IsBoundStep L U Plus l None r
  add : (x y : ℚ) (l r : Lin) → L x → U y → IsAmount l x → IsAmount r y → IsBoundStep L U Plus l None r
  halve : (x y : ℚ) (l r : Lin) → IsGreatest L x → IsLeast U y → IsAmount l (x +ℚ y) → IsAmount r half → IsBoundStep L U Scale l None r
  above : (x : ℚ) (l r : Lin) → L x → IsAmount l x → IsAmount r one_ℚ → IsBoundStep L U Plus l None r
  beneath : (x : ℚ) (l r : Lin) → U x → IsAmount l x → IsAmount r (neg_ℚ one_ℚ) → IsBoundStep L U Plus l None r

-- a step of the kind P of which a product or a sum leaves the limits, with the first that does
pub record IsWideAt (P : NumStep → Lin → Option ℕ → Lin → Type 0) (w : WideAt) : Type 0 where
  pub step : P w.step w.left w.key w.right
  pub normal : IsNormal w.left × IsNormal w.right
  pub wide : first_wide (stated_steps w.step w.left w.key w.right) ≡ Some w.wide

-- the steps that give name n its value, where the rows are R
pub data IsPointStep (R : Form ℕ → Type 0) (e : ℕ → ℚ) (n : ℕ) : NumStep → Lin → Option ℕ → Lin → Type 0 where
  of_row : (row : Lin) (s : NumStep) (l : Lin) (k : Option ℕ) (r : Lin) → R (meaning row) → IsLower n (meaning row) ⊎ IsUpper n (meaning row) → IsRowStep e n row s l k r → IsPointStep R e n s l k r
  of_bounds : (s : NumStep) (l : Lin) (k : Option ℕ) (r : Lin) → IsBoundStep (LowerBound R e n) (UpperBound R e n) s l k r → IsPointStep R e n s l k r

-- such a step leaves the limits when some name gets its value, and all smaller ones have theirs
pub record IsPointWide (R : Form ℕ → Type 0) (w : WideAt) : Type 0 where
  pub values : ℕ → ℚ
  pub name : ℕ
  pub chosen : (k : ℕ) → k < name → IsChoice (LowerBound R values k) (UpperBound R values k) (values k)
  pub wide : IsWideAt (IsPointStep R values name) w
