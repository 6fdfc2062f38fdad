-- Rows whose rounded constant leaves the limits.
use Rattle.std.specs.Prelude.{ℕ, ℤ, pos, ◌-ℤ◌, Bool, cond, map, unsigned_abs}
use Rattle.ae_num.specs.declared.forms.Lin.{Lin}
use Rattle.ae_num.specs.Forms.{IsCommonDivisor}
use Rattle.ae_num.specs.Limits.{FitsLimits}
use Rattle.ae_rules.specs.Lines.{IsFloor}

-- the constant, less 1 where the row is strict, divided by the greatest common divisor of the factors and rounded down, is outside the limits
pub record IsOutside (strict : Bool) (f : Lin) : Type 0 where
  pub divisor : ℕ
  pub greatest : IsCommonDivisor (map (λ q. unsigned_abs q.factor) f.parts) divisor
  pub constant : ℤ
  pub floor : IsFloor (cond strict (f.constant -ℤ pos 1) f.constant) divisor constant
  pub outside : ¬ FitsLimits constant
