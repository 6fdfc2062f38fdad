-- Forms of whole numbers with no divisor in common.
use Rattle.std.specs.Prelude.{ℕ, pos, ◌≡◌, ◌∷◌, map, unsigned_abs}
use Rattle.std.specs.Int.{◌∣◌}
use Rattle.ae_num.specs.declared.forms.Lin.{Lin}
use Rattle.ae_num.specs.Forms.{DividesAll}

-- the denominator is 1, and only 1 divides the constant and each factor
pub record IsPrimitive (f : Lin) : Type 0 where
  pub whole : f.den ≡ pos 1
  pub lowest : (d : ℕ) → DividesAll d (unsigned_abs f.constant ∷ map (λ p. unsigned_abs p.factor) f.parts) → d ∣ 1
