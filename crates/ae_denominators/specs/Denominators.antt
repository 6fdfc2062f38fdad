-- How the denominators of values hang together.
use Rattle.std.specs.Prelude.{ℕ, ℤ, pos, ◌*ℤ◌, ◌<ℤ◌, ◌≡◌, ◌≢◌, unsigned_abs}
use native.Mathlib.Decide.{ℕ_discrete}
use Rattle.ae_math.specs.Fractions.{ℚ, zero_ℚ, ratio}
use Rattle.ae_math.specs.Forms.{Form, single, plus, minus, scale, factor, substitute}
use Rattle.ae_num.specs.declared.forms.Lin.{Lin}
use Rattle.ae_num.specs.Forms.{meaning, SameMeaning, IsNormal, factor_of}

-- the second number is a positive multiple of the first
pub record Divides (den whole : ℤ) : Type 0 where
  pub times : ℤ
  pub positive : pos 0 <ℤ times
  pub is : times *ℤ den ≡ whole

-- each factor of the form and its constant are whole numbers over this one
pub record IsWholeOver (den : ℤ) (f : Form ℕ) : Type 0 where
  pub factors : (k : ℕ) → (z : ℤ) × (factor ℕ_discrete f k ≡ ratio z den)
  pub constant : (z : ℤ) × (f.constant ≡ ratio z den)

abbrev pub WholeDenominator : Type 0
WholeDenominator = (n : Lin) (f : Form ℕ) (den : ℤ) → IsNormal n → pos 0 <ℤ den → SameMeaning (meaning n) f → IsWholeOver den f → Divides n.den den

abbrev pub SumDenominator : Type 0
SumDenominator = (n p q : Lin) → IsNormal n → IsNormal p → IsNormal q → SameMeaning (meaning n) (plus (meaning p) (meaning q)) → Divides n.den (p.den *ℤ q.den)

abbrev pub DifferenceDenominator : Type 0
DifferenceDenominator = (n p q : Lin) → IsNormal n → IsNormal p → IsNormal q → SameMeaning (meaning n) (minus (meaning p) (meaning q)) → Divides n.den (p.den *ℤ q.den)

abbrev pub MultipleDenominator : Type 0
MultipleDenominator = (n p : Lin) (c d : ℤ) → IsNormal n → IsNormal p → pos 0 <ℤ d → SameMeaning (meaning n) (scale (ratio c d) (meaning p)) → Divides n.den (p.den *ℤ d)

-- q put for the key in p
abbrev pub PutDenominator : Type 0
PutDenominator = (n p q : Lin) (key : ℕ) → IsNormal n → IsNormal p → IsNormal q → SameMeaning (meaning n) (substitute ℕ_discrete (meaning p) key (meaning q)) → Divides n.den (p.den *ℤ q.den)

-- d is a multiple of the name less its value, in which the name doesn't stand
abbrev pub SolvedDenominator : Type 0
SolvedDenominator = (d v : Lin) (name : ℕ) (times : ℚ) → IsNormal d → IsNormal v → times ≢ zero_ℚ → factor ℕ_discrete (meaning v) name ≡ zero_ℚ
    → SameMeaning (meaning d) (scale times (minus (single name) (meaning v))) → Divides v.den (pos (unsigned_abs (factor_of d.parts name)))
