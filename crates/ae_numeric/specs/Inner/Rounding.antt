-- The rounding of an inequality of integers, and an equation of integers without a solution: of linear forms, and of their normal forms.
use Rattle.std.specs.Prelude.{ℕ, ℤ, pos, neg_ℤ, ◌*ℤ◌, ◌≡◌, ◌≢◌, List, [], map, unsigned_abs}
use Rattle.std.specs.Int.{◌∣◌}
use Rattle.ae_math.specs.Fractions.{zero_ℚ, ◌*ℚ◌, whole}
use Rattle.ae_math.specs.Forms.{plus, number}
use Rattle.ae_num.specs.Forms.{IsCommonDivisor}
use Rattle.ae_num.specs.declared.forms.Part.{Part}
use Rattle.ae_num.specs.declared.forms.Lin.{Lin}
use Rattle.ae_rules.specs.Linear.{Linear, factor_of}
use Rattle.ae_rules.specs.Lines.{slack, AreMultiples, IsFloor}
use Rattle.ae_core.specs.declared.terms.Term.{Term}
use Rattle.ae_core.specs.declared.proofs.Relation.{Relation}
use Rattle.ae_core.specs.declared.proofs.Relation.TheVariants.{Below}

-- ---- linear forms
-- what rounding asks of the gap of the inequality and of that of the new one
pub record IsRounded (relation : Relation) (from to : Linear) : Type 0 where
  pub occurs : (u : Term) × (factor_of from u ≢ zero_ℚ)
  pub divisor : ℕ
  pub divides : AreMultiples from divisor
  pub greatest : (d : ℕ) → AreMultiples from d → d ∣ divisor
  pub factors : (u : Term) → whole (pos divisor) *ℚ factor_of to u ≡ factor_of from u
  pub constant : ℤ
  pub is : from.constant ≡ whole constant
  pub rounded : ℤ
  pub floor : IsFloor (slack relation constant) divisor rounded
  pub down : to.constant ≡ whole rounded

-- the gap of a strict inequality, less 1
abbrev pub lowered : Relation → Linear → Linear
lowered Below f = plus f (number (whole (neg_ℤ (pos 1))))
lowered _ f = f

-- ---- normal forms
-- the factors, without their signs
abbrev pub factor_sizes : List Part → List ℕ
factor_sizes ps = map (λ p. unsigned_abs p.factor) ps

abbrev pub times_part : ℤ → Part → Part
times_part g p = record { key = p.key; factor = p.factor *ℤ g }

-- the second form is the first divided by the greatest common divisor of its factors, and rounded down
pub record IsQuotient (of by : Lin) : Type 0 where
  pub divisor : ℕ
  pub occurs : of.parts ≢ []
  pub den : of.den ≡ pos 1
  pub common : IsCommonDivisor (factor_sizes of.parts) divisor
  pub quotient_den : by.den ≡ pos 1
  pub factors : of.parts ≡ map (times_part (pos divisor)) by.parts
  pub floor : IsFloor of.constant divisor by.constant

-- the greatest common divisor of the factors doesn't divide the constant
pub record IsApart (of : Lin) : Type 0 where
  pub divisor : ℕ
  pub occurs : of.parts ≢ []
  pub den : of.den ≡ pos 1
  pub common : IsCommonDivisor (factor_sizes of.parts) divisor
  pub apart : ¬ (divisor ∣ unsigned_abs of.constant)
