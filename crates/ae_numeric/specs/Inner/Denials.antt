-- Lines that state what can't hold: their terms differ by a number that the line denies.
use Rattle.std.specs.Prelude.{ℤ, pos, Bool, cond, not, int_lt, List, [], ◌≢◌}
use Rattle.std.specs.Ordering.{int_eq}
use Rattle.ae_math.specs.Fractions.{ℚ, zero_ℚ}
use Rattle.ae_num.specs.Forms.{Step}
use Rattle.ae_rules.specs.Lines.{Fact, gap}
use Rattle.ae_rules.specs.Derivations.{IsNumber, CannotHold}
use Rattle.ae_core.specs.declared.problems.Signature.{Signature}
use Rattle.ae_core.specs.declared.proofs.Relation.{Relation}
use Rattle.ae_core.specs.declared.proofs.Relation.TheVariants.{Equal, AtMost, Below}
use Rattle.ae_numeric.specs.Stated.{of_one_sort}
use Rattle.ae_numeric.specs.Inner.Sums.{summed}

-- the relation denies that the gap is this number, over any positive denominator
abbrev pub denies : Relation → ℤ → Bool
denies Equal z = not (int_eq z (pos 0))
denies AtMost z = int_lt z (pos 0)
denies Below z = not (int_lt (pos 0) z)

-- the relation denies that the gap is this fraction
abbrev pub Denies : Relation → ℚ → Type 0
Denies Equal x = x ≢ zero_ℚ
Denies AtMost x = CannotHold AtMost x
Denies Below x = CannotHold Below x

-- the gap of the fact is a number that it denies
abbrev pub IsDenied : Fact → Type 0
IsDenied f = IsNumber (gap f) × Denies f.relation (gap f).constant

-- what is stated for it, where its terms are of one numeric sort
abbrev pub denied_steps : Signature → Fact → List Step
denied_steps sig f = cond (of_one_sort sig f f) ((summed f.relation f []).steps) []
