-- Levels: numbers of places, such that what a place's sort is made of has lower ones. A graph has them exactly where it has a solution.
use Rattle.std.specs.Prelude.{ℕ, zero, suc, ◌+◌, ◌<◌, ◌≤◌, List, [], ◌∷◌, ◌≡◌, length}
use Rattle.std.proofs.Common.{get_or}
use Rattle.ae_types.specs.Inner.Graphs.{Slot, Free, Link, Plain, Built, slot_at}

-- all places that a slot names have a level
abbrev pub Ready : List ℕ → Slot → Type 0
Ready ls Free = Unit {0}
Ready ls (Link j) = 0 < get_or ls j 0
Ready ls (Plain b) = Unit {0}
Ready ls (Built h args) = (k : ℕ) → k < length args → 0 < get_or ls (get_or args k 0) 0

pub record IsReady (slots : List Slot) (ls : List ℕ) (i : ℕ) : Type 0 where
  pub within : i < length slots
  pub empty : get_or ls i 0 ≡ 0
  pub ready : Ready ls (slot_at slots i)

-- the places that a slot names have levels below a number
abbrev pub Above : List ℕ → ℕ → Slot → Type 0
Above ls n Free = Unit {0}
Above ls n (Link j) = (0 < get_or ls j 0) × (get_or ls j 0 < n)
Above ls n (Plain b) = Unit {0}
Above ls n (Built h args) = (k : ℕ) → k < length args → (0 < get_or ls (get_or args k 0) 0) × (get_or ls (get_or args k 0) 0 < n)

-- the levels so far, of which none is above a number
pub record Levelled (slots : List Slot) (ls : List ℕ) (top : ℕ) : Type 0 where
  pub each : (i : ℕ) → i < length slots → 0 < get_or ls i 0 → (get_or ls i 0 ≤ top) × Above ls (get_or ls i 0) (slot_at slots i)

-- all places have levels, none above the number of places
pub record Settled (slots : List Slot) : Type 0 where
  pub levels : List ℕ
  pub count : length levels ≡ length slots
  pub above : Levelled slots levels (length slots)
  pub all : (i : ℕ) → i < length slots → 0 < get_or levels i 0

-- the places without a level
abbrev pub empty_of : ℕ → ℕ
empty_of zero = 1
empty_of (suc n) = 0

abbrev pub empties : List ℕ → ℕ
empties [] = 0
empties (x ∷ xs) = empty_of x + empties xs
