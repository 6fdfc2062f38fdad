-- Finite maps as lists of a key and what stands at it.
use Rattle.std.specs.Prelude.{ℕ, ◌<◌, List, [], ◌∷◌, Option, Some, None, if◌then◌else◌, ◌==◌, nat_lt}

-- what stands at a key
abbrev pub found : {A : Type 0} → List (ℕ × A) → ℕ → Option A
found [] key = None
found (p ∷ ps) key = if p.0 == key then Some p.1 else found ps key

-- with an entry for a key, in the order of the keys
abbrev pub put_in : {A : Type 0} → ℕ → A → List (ℕ × A) → List (ℕ × A)
put_in key x [] = (key, x) ∷ []
put_in key x (p ∷ ps) = if nat_lt key p.0 then (key, x) ∷ p ∷ ps else (if p.0 == key then (key, x) ∷ ps else p ∷ put_in key x ps)

-- without the entry of a key
abbrev pub take_out : {A : Type 0} → ℕ → List (ℕ × A) → List (ℕ × A)
take_out key [] = []
take_out key (p ∷ ps) = if p.0 == key then ps else p ∷ take_out key ps

-- a map changed at a key alone
abbrev pub with_at : {A : Type 0} → (ℕ → Option A) → ℕ → Option A → ℕ → Option A
with_at m key o q = if key == q then o else m q

-- each key is above this one
abbrev pub AllAbove : {A : Type 0} → ℕ → List (ℕ × A) → Type 0
AllAbove key [] = Unit {0}
AllAbove key (p ∷ ps) = (key < p.0) × AllAbove key ps

-- the keys rise
abbrev pub Rises : {A : Type 0} → List (ℕ × A) → Type 0
Rises [] = Unit {0}
Rises (p ∷ ps) = AllAbove p.0 ps × Rises ps
