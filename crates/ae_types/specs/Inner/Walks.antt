-- A walk through a graph, depth first: which places are done, and the path to the place where it is.
use Rattle.std.specs.Prelude.{ℕ, suc, ◌+◌, ◌-◌, ◌<◌, ◌≤◌, List, [], ◌∷◌, ◌++◌, ◌≡◌, ◌≢◌, map, length, slice_get, slice_set, Some, nat_lt, if◌then◌else◌, Contains}
use Rattle.std.proofs.Common.{get_or}
use Rattle.ae_types.specs.declared.graph.Class.{Class}
use Rattle.ae_types.specs.declared.graph.Node.{Node}
use Rattle.ae_types.specs.declared.cycles.Mark.{Mark}
use Rattle.ae_types.specs.declared.cycles.Mark.TheVariants.{New, Open, Done}
use Rattle.ae_types.specs.declared.cycles.Frame.{Frame}
use Rattle.ae_types.specs.declared.cycles.Walk.{Walk}
use Rattle.ae_types.specs.Inner.Graphs.{Slot, Free, Link, Plain, Built, origin, slot_at}
use Rattle.ae_types.specs.Inner.Levels.{Levelled, empties}
use Rattle.ae_core.specs.declared.terms.Sort.{Sort, Named}
use Rattle.ae_types.specs.declared.pairs.SortPair.{SortPair}
use Rattle.ae_types.specs.Clashes.{Follows, IsPair, count_of}
use Rattle.ae_types.specs.Inner.Joins.{Follow}
pub use Rattle.ae_types.specs.Inner.Orders.{refs}

abbrev pub level_of : Mark → ℕ
level_of New = 0
level_of (Open d) = 0
level_of (Done n) = suc n

abbrev pub levels : List Mark → List ℕ
levels marks = map level_of marks

abbrev pub mark_at : List Mark → ℕ → Mark
mark_at marks i = get_or marks i New

abbrev pub frame_at : List Frame → ℕ → Frame
frame_at path k = get_or path k (record { place = 0; next = 0 })

-- the frame at an index of the path: its place is open there, and the parts before the next one are done
pub record FrameWell (slots : List Slot) (marks : List Mark) (k : ℕ) (f : Frame) : Type 0 where
  pub within : f.place < length slots
  pub mark : mark_at marks f.place ≡ Open k
  pub few : f.next ≤ length (refs (slot_at slots f.place))
  pub done : (j : ℕ) → j < f.next → 0 < get_or (levels marks) (get_or (refs (slot_at slots f.place)) j 0) 0

-- one place of the path leads to the next
abbrev pub Leads : List Slot → Frame → ℕ → Type 0
Leads slots f place = slice_get (refs (slot_at slots f.place)) f.next ≡ Some place

pub record Walking (slots : List Slot) (w : Walk) : Type 0 where
  pub marks : length w.marks ≡ length slots
  pub count : w.done + empties (levels w.marks) ≡ length slots
  pub levelled : Levelled slots (levels w.marks) w.done
  pub frames : (k : ℕ) → k < length w.path → FrameWell slots w.marks k (frame_at w.path k)
  pub chain : (k : ℕ) → k + 1 < length w.path → Leads slots (frame_at w.path k) (frame_at w.path (k + 1)).place
  pub on_path : (i d : ℕ) → i < length slots → mark_at w.marks i ≡ Open d → (d < length w.path) × ((frame_at w.path d).place ≡ i)

-- what is left to look at: each new place and its parts, and the parts of the path that were not looked at
abbrev pub left_of : Mark → Slot → ℕ
left_of New s = length (refs s) + 2
left_of (Open d) s = 0
left_of (Done n) s = 0

abbrev pub left_new : List Mark → List Slot → ℕ
left_new [] ss = 0
left_new (m ∷ ms) [] = 0
left_new (m ∷ ms) (s ∷ ss) = left_of m s + left_new ms ss

abbrev pub left_open : List Slot → List Frame → ℕ
left_open slots [] = 0
left_open slots (f ∷ fs) = (length (refs (slot_at slots f.place)) + 1 - f.next) + left_open slots fs

abbrev pub left : List Slot → Walk → ℕ
left slots w = left_new w.marks slots + left_open slots w.path

-- a walk that has seen nothing
pub record IsFresh (count : ℕ) (w : Walk) : Type 0 where
  pub marks : length w.marks ≡ count
  pub new : (i : ℕ) → mark_at w.marks i ≡ New
  pub empty : empties (levels w.marks) ≡ count
  pub path : w.path ≡ []
  pub done : w.done ≡ 0

-- a new place was put on the path
pub record Opens (old new : Walk) (place : ℕ) : Type 0 where
  pub marks : new.marks ≡ slice_set old.marks place (Open (length old.path))
  pub path : new.path ≡ old.path ++ record { place = place; next = 0 } ∷ []
  pub done : new.done ≡ old.done

-- what is known of a place stays known
abbrev pub KeepsSeen : List Mark → List Mark → Type 0
KeepsSeen old new = (i : ℕ) → mark_at old i ≢ New → mark_at new i ≢ New

-- the places of which something is known are in a list
abbrev pub Noted : List Mark → List ℕ → Type 0
Noted marks seen = (i : ℕ) → mark_at marks i ≢ New → Contains seen i

-- and are so later, if they were before
pub record Notes (old new : List Mark) (before after : List ℕ) : Type 0 where
  pub size : length new ≡ length old
  pub noted : Noted old before → Noted new after

-- nothing is known of any place, and there are marks for some first ones
pub record Unmarked (marks : List Mark) (count : ℕ) : Type 0 where
  pub new : (i : ℕ) → mark_at marks i ≡ New
  pub size : length marks ≤ count

-- the path was left, and no place that was seen is new again
pub record Descends (slots : List Slot) (old new : Walk) : Type 0 where
  pub walking : Walking slots new
  pub path : new.path ≡ []
  pub keeps : KeepsSeen old.marks new.marks

-- a place was seen
pub record Visits (slots : List Slot) (old new : Walk) (place : ℕ) : Type 0 where
  pub descends : Descends slots old new
  pub seen : place < length slots → mark_at new.marks place ≢ New

-- some places were seen
pub record VisitsAll (slots : List Slot) (places : List ℕ) (new : Walk) : Type 0 where
  pub walking : Walking slots new
  pub path : new.path ≡ []
  pub seen : (k : ℕ) → k < length places → get_or places k 0 < length slots → mark_at new.marks (get_or places k 0) ≢ New

-- places of a path, from an index on, of which each leads to the next, and the last to the first
pub record IsCycle (slots : List Slot) (path : List Frame) (from : ℕ) : Type 0 where
  pub some : from < length path
  pub within : (k : ℕ) → k < length path → (frame_at path k).place < length slots
  pub chain : (k : ℕ) → k + 1 < length path → Leads slots (frame_at path k) (frame_at path (k + 1)).place
  pub last : (k : ℕ) → k + 1 ≡ length path → Leads slots (frame_at path k) (frame_at path from).place

-- a sort with another put for one of the parts of a place
abbrev pub wrapped : List Node → Slot → ℕ → Sort → Sort
wrapped nodes Free next s = s
wrapped nodes (Link j) next s = s
wrapped nodes (Plain c) next s = s
wrapped nodes (Built h args) next s = Named h (slice_set (map (origin nodes) args) next s)

-- each of the frames between two indexes names a part of its place
abbrev pub HaveParts : List Slot → List Frame → ℕ → ℕ → Type 0
HaveParts slots path from to = (k : ℕ) → from ≤ k → k < to → ((frame_at path k).place < length slots) × ((frame_at path k).next < length (refs (slot_at slots (frame_at path k).place)))

-- each of the frames between two indexes leads to the next, and the last to a place
abbrev pub RunsTo : List Slot → List Frame → ℕ → ℕ → ℕ → Type 0
RunsTo slots path from to end =
    (k : ℕ) → from ≤ k → k < to → Leads slots (frame_at path k) (if nat_lt (k + 1) to then (frame_at path (k + 1)).place else end)

-- the place at which frames begin
abbrev pub begin : List Frame → ℕ → ℕ → ℕ → ℕ
begin path at to end = if nat_lt at to then (frame_at path at).place else end

-- a sort that is equal to that of a place, by what is given, as another is to that of the place where the frames end
pub record Wraps (nodes : List Node) (classes : List Class) (start end : ℕ) (inner outer : Sort) : Type 0 where
  pub follows : (given : List SortPair) → Follow given nodes classes → Follows (IsPair given) (origin nodes end) inner → Follows (IsPair given) (origin nodes start) outer
  pub occurs : (x : ℕ) → 0 < count_of x inner → 0 < count_of x outer

-- it is a type where the first frame's place is one
abbrev pub IsBuilt : Slot → Type 0
IsBuilt Free = ⊥
IsBuilt (Link j) = ⊥
IsBuilt (Plain c) = ⊥
IsBuilt (Built h args) = Unit {0}
