-- What a saturated state asks of the value of a name of sort `int` (ae_journal, States), for one value.
use Rattle.std.specs.Prelude.{ℕ, ℤ, pos, ◌*ℤ◌, ◌≡◌}
use Rattle.std.specs.List.{AllByRecursion}
use Rattle.ae_num.specs.declared.forms.Part.{Part}
use Rattle.ae_num.specs.declared.forms.Lin.{Lin}

abbrev pub IsMultipleOf : ℕ → ℤ → Type 0
IsMultipleOf d a = (z : ℤ) × (a ≡ z *ℤ pos d)

-- no number but 1 divides its denominator and each factor
abbrev pub IsWhole : Lin → Type 0
IsWhole f = (d : ℕ) → IsMultipleOf d f.den → AllByRecursion (λ (q : Part). IsMultipleOf d q.factor) f.parts → d ≡ 1
