-- The steps below the making of a point.
use Rattle.std.specs.Prelude.{ℕ, ◌≡◌, List, Option, Some, None}
use Rattle.ae_math.specs.Fractions.{ℚ, one_ℚ, neg_ℚ, inverse_ℚ, ◌+ℚ◌}
use Rattle.ae_num.specs.declared.forms.Lin.{Lin}
use Rattle.ae_num.specs.Forms.{meaning}
use Rattle.ae_journal.specs.Points.{half}
use Rattle.ae_journal.specs.declared.answers.NumStep.{NumStep}
use Rattle.ae_journal.specs.declared.answers.NumStep.TheVariants.{Plus, Scale}
use Rattle.ae_ineq.specs.declared.rows.Row.{Row}
use Rattle.ae_ineq.specs.Inner.Sets.{HasForm}
use Rattle.ae_ineq.specs.Inner.Points.{amount, BoundOf}
use Rattle.ae_journal.specs.declared.answers.WideAt.{WideAt}
use Rattle.ae_ineq.specs.Widths.{IsAmount, IsRowStep, IsWideAt}

-- the step with these operands
abbrev pub IsStepOf : NumStep → Lin → Option ℕ → Lin → NumStep → Lin → Option ℕ → Lin → Type 0
IsStepOf s l k r t m j q = (t ≡ s) × (m ≡ l) × (j ≡ k) × (q ≡ r)

-- the difference of two numbers
abbrev pub IsDifference : Lin → Lin → NumStep → Lin → Option ℕ → Lin → Type 0
IsDifference x y s l k r = (s ≡ Plus) × (k ≡ None) × IsAmount l (amount x) × IsAmount r (neg_ℚ (amount y))

-- the constant of a form times the inverse of a factor over the form's denominator
abbrev pub IsDivision : Lin → ℚ → NumStep → Lin → Option ℕ → Lin → Type 0
IsDivision f c s l k r = (s ≡ Scale) × (k ≡ None) × IsAmount l (meaning f).constant × IsAmount r (inverse_ℚ c)

-- those with the rows that bound a name from one side
pub data IsSideStep (rows : List Row) (e : ℕ → ℚ) (n : ℕ) : NumStep → Lin → Option ℕ → Lin → Type 0 where
  of_row : (row : Lin) (s : NumStep) (l : Lin) (k : Option ℕ) (r : Lin) → HasForm rows (meaning row) → IsRowStep e n row s l k r → IsSideStep rows e n s l k r
  compare : (x y : ℚ) (l r : Lin) → BoundOf rows e n x → BoundOf rows e n y → IsAmount l x → IsAmount r (neg_ℚ y) → IsSideStep rows e n Plus l None r

-- those that choose a number between two bounds, each of which may be absent
pub data IsChoiceStep : Option Lin → Option Lin → NumStep → Lin → Option ℕ → Lin → Type 0 where
  add : (b u l r : Lin) → IsAmount l (amount b) → IsAmount r (amount u) → IsChoiceStep (Some b) (Some u) Plus l None r
  halve : (b u l r : Lin) → IsAmount l (amount b +ℚ amount u) → IsAmount r half → IsChoiceStep (Some b) (Some u) Scale l None r
  above : (b l r : Lin) → IsAmount l (amount b) → IsAmount r one_ℚ → IsChoiceStep (Some b) None Plus l None r
  beneath : (u l r : Lin) → IsAmount l (amount u) → IsAmount r (neg_ℚ one_ℚ) → IsChoiceStep None (Some u) Plus l None r

-- a step of the kind that an old number gives, where there is one
abbrev pub IsWideOf : (Lin → NumStep → Lin → Option ℕ → Lin → Type 0) → Option Lin → WideAt → Type 0
IsWideOf P None w = ⊥
IsWideOf P (Some old) w = IsWideAt (P old) w
