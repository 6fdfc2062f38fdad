-- What it means that an equation between two forms is solved.
use Rattle.std.specs.Prelude.{◌≡◌, ◌≢◌, ◌⊎◌, ℕ, ◌<◌, ◌≤◌, ℤ, pos, List, [], Some, None, cond, int_lt, neg_ℤ}
use native.Mathlib.Decide.{ℕ_discrete}
use Rattle.ae_math.specs.Fractions.{ℚ, zero_ℚ}
use Rattle.ae_math.specs.Forms.{Form, number, single, minus, scale, factor, substitute}
use Rattle.ae_num.specs.declared.forms.Part.{Part}
use Rattle.ae_num.specs.declared.forms.Lin.{Lin}
use Rattle.ae_num.specs.declared.numbers.Wide.{Wide}
use Rattle.ae_num.specs.Forms.{meaning, SameMeaning, IsNormal, factor_of, scale_steps, first_wide, lowest, difference_of, difference_steps}
use Rattle.ae_linear.specs.declared.solving.Solved.{Solved}
use Rattle.ae_linear.specs.declared.solving.Solved.TheVariants.{Trivial, Bottom, Rule}

-- the part of the largest key
pub record IsLargest (ps : List Part) (p : Part) : Type 0 where
  pub factor : factor_of ps p.key ≡ p.factor
  pub nonzero : p.factor ≢ pos 0
  pub above : (k : ℕ) → p.key < k → factor_of ps k ≡ pos 0

-- a form that is 0 exactly where a name has a value: a nonzero multiple of the name less the value, over smaller names
pub record SolvesFor (d : Form ℕ) (name : ℕ) (value : Lin) : Type 0 where
  pub times : ℚ
  pub nonzero : times ≢ zero_ℚ
  pub normal : IsNormal value
  pub smaller : (k : ℕ) → name ≤ k → factor ℕ_discrete (meaning value) k ≡ zero_ℚ
  pub equation : SameMeaning d (scale times (minus (single name) (meaning value)))

-- a constant other than 0
pub record IsOff (d : Form ℕ) : Type 0 where
  pub factors : (k : ℕ) → factor ℕ_discrete d k ≡ zero_ℚ
  pub off : d.constant ≢ zero_ℚ

-- the answer for an equation whose sides differ by the form
abbrev pub IsSolved : Form ℕ → Solved → Type 0
IsSolved d Trivial = SameMeaning d (number zero_ℚ)
IsSolved d Bottom = IsOff d
IsSolved d (Rule name value) = SolvesFor d name value

-- the number -den / factor, in lowest terms
abbrev pub negated_inverse : ℤ → ℤ → Lin
negated_inverse den factor = lowest (record { den = cond (int_lt factor (pos 0)) (neg_ℤ factor) factor; parts = []; constant = cond (int_lt factor (pos 0)) den (neg_ℤ den) })

-- the multiple that is taken of a difference without its largest name
pub record IsScaling (d : Lin) (by rest : Lin) : Type 0 where
  pub largest : Part
  pub is_largest : IsLargest d.parts largest
  pub by_inverse : by ≡ negated_inverse d.den largest.factor
  pub normal : IsNormal rest
  pub is_rest : SameMeaning (meaning rest) (substitute ℕ_discrete (meaning d) largest.key (number zero_ℚ))

abbrev pub IsWideScaling : Lin → Wide → Type 0
IsWideScaling d w = (by : Lin) × (rest : Lin) × IsScaling d by rest × (first_wide (scale_steps by.constant by.den rest) ≡ Some w)

-- the products of the answer's multiple are within the limits
abbrev pub FitsScaling : Lin → Solved → Type 0
FitsScaling d Trivial = Unit {0}
FitsScaling d Bottom = Unit {0}
FitsScaling d (Rule name value) = (by : Lin) × (rest : Lin) × IsScaling d by rest × (first_wide (scale_steps by.constant by.den rest) ≡ None)

-- the first that leaves them is one of the difference, or else of the multiple
abbrev pub IsWideSolving : Lin → Lin → Wide → Type 0
IsWideSolving p q w = (first_wide (difference_steps p q) ≡ Some w) ⊎ ((first_wide (difference_steps p q) ≡ None) × IsWideScaling (difference_of p q) w)
