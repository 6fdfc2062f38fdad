-- Values of terms that are those of their linear forms, and combinations of equations.
use Rattle.std.specs.Prelude.{ℤ, List, ◌≡◌}
use Rattle.std.specs.List.{AllByRecursion}
use Rattle.ae_math.specs.Fractions.{ℚ, whole}
use Rattle.ae_math.specs.Forms.{scale, value}
use Rattle.ae_rules.specs.Linear.{form, IsSame}
use Rattle.ae_rules.specs.Lines.{Fact, equal, gap, total}
use Rattle.ae_core.specs.declared.terms.Term.{Term}

-- the values of terms are those of their linear forms, where the number 1 has the value u
abbrev pub IsLinear : (Term → ℚ) → ℚ → Type 0
IsLinear L u = (t : Term) → L t ≡ value L u (form t)

-- each fact's sides have equal values
abbrev pub AllHold : (Term → ℚ) → List (ℤ × Fact) → Type 0
AllHold L fs = AllByRecursion (λ f. L (f.1).left ≡ L (f.1).right) fs

-- a number times the difference of two terms is a combination of facts
abbrev pub Combines : ℤ → Term → Term → List (ℤ × Fact) → Type 0
Combines d s t fs = IsSame (scale (whole d) (gap (equal s t))) (total fs)
