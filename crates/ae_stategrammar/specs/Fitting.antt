-- What of a state or a journal surely has a text.
use Rattle.std.specs.Prelude.{ℕ, ◌≤◌, ◌<◌, ◌^◌, List, [], ◌∷◌, map}
use Rattle.std.specs.List.{flat_map}
use Rattle.ae_num.specs.declared.forms.Value.{Value, Value-F, fold-Value}
use Rattle.ae_num.specs.declared.forms.Value.TheOpen as layer

-- the names in a value
abbrev pub names_step : Value-F (List ℕ) → List ℕ
names_step (layer.Leaf n) = n ∷ []
names_step (layer.Number f) = map (λ p. p.key) f.parts
names_step (layer.Fields ws) = flat_map (λ w. w) ws

unfoldable pub names_in : Value → List ℕ
names_in = fold-Value (List ℕ) names_step

-- numbers that rise from low on, where one may stand again, and have 64 bits
abbrev pub Rises : ℕ → List ℕ → Type 0
Rises low [] = Unit {0}
Rises low (n ∷ ns) = (low ≤ n) × (n < 2 ^ 64) × Rises n ns
