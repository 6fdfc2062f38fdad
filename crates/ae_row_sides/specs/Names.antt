-- The names of a row.
use Rattle.std.specs.Prelude.{ℕ, ◌<◌, List}
use Rattle.std.specs.List.{AllByRecursion}
use Rattle.ae_num.specs.declared.forms.Part.{Part}

-- each is below n
abbrev pub AreNames : ℕ → List Part → Type 0
AreNames n qs = AllByRecursion (λ q. q.key < n) qs
