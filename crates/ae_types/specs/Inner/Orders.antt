-- Levels from before places were joined: where they still order a graph.
use Rattle.std.specs.Prelude.{ℕ, ◌<◌, List, [], ◌∷◌, ◌≡◌, ◌⊎◌, length, Contains}
use Rattle.std.proofs.Common.{get_or}
use Rattle.ae_types.specs.Inner.Graphs.{Slot, Free, Link, Plain, Built, slot_at}

-- the places that a place's sort is made of
abbrev pub refs : Slot → List ℕ
refs Free = []
refs (Link j) = j ∷ []
refs (Plain c) = []
refs (Built h args) = args

-- each place that a slot names is one of `js`, or has a level below a number
abbrev pub Beneath : List ℕ → List ℕ → ℕ → Slot → Type 0
Beneath ls js n s = (k : ℕ) → k < length (refs s) → Contains js (get_or (refs s) k 0) ⊎ (get_or ls (get_or (refs s) k 0) 0 < n)

-- a slot links to one of `js`, if to any
abbrev pub LinksAmong : List ℕ → Slot → Type 0
LinksAmong js s = (j : ℕ) → s ≡ Link j → Contains js j

-- the levels order all places but `js`, from which links lead to `js` alone
pub record Ordered (ls js : List ℕ) (slots : List Slot) : Type 0 where
  pub among : (i : ℕ) → i < length slots → Contains js i → LinksAmong js (slot_at slots i)
  pub each : (i : ℕ) → i < length slots → Contains js i ⊎ Beneath ls js (get_or ls i 0) (slot_at slots i)

-- a graph that had levels before the places `js` were joined with others
pub record Loosened (slots : List Slot) (js : List ℕ) : Type 0 where
  pub levels : List ℕ
  pub count : length levels ≡ length slots
  pub all : (i : ℕ) → i < length slots → 0 < get_or levels i 0
  pub ordered : Ordered levels js slots
