-- Links that lead from a name to the rows that may have it. Places count from 1, and place 0 is no link.
use Rattle.std.specs.Prelude.{◌≡◌, ℕ, suc, ◌≤◌, List, length, slice_get, Option, Some}
use Rattle.std.specs.List.{Contains}
use Rattle.ae_pmap.specs.Forest.{Forest, present}
use Rattle.ae_pmap.specs.Pairs.{found}
use Rattle.ae_linear.specs.declared.occurrences.Link.{Link}

-- each link leads to an earlier one
pub record AreLinked (links : List Link) : Type 0 where
  pub before : (p : ℕ) (link : Link) → slice_get links p ≡ Some link → link.next ≤ p

-- a link from this place on names the row
pub data OccursFrom (links : List Link) : ℕ → ℕ → Type 0 where
  here : {at row : ℕ} (p : ℕ) (link : Link) → at ≡ suc p → slice_get links p ≡ Some link → link.row ≡ row → OccursFrom links at row
  later : {at row : ℕ} (p : ℕ) (link : Link) → at ≡ suc p → slice_get links p ≡ Some link → OccursFrom links link.next row → OccursFrom links at row

-- the heads are places of links
pub record AreHeadsBy (heads : ℕ → Option ℕ) (links : List Link) : Type 0 where
  pub within : (key head : ℕ) → heads key ≡ Some head → head ≤ length links

abbrev pub AreHeads : Forest ℕ → List Link → Type 0
AreHeads heads links = AreHeadsBy (λ key. found (present heads) key) links

-- the links of the key name the row
pub record OccursBy (heads : ℕ → Option ℕ) (links : List Link) (key row : ℕ) : Type 0 where
  pub head : ℕ
  pub there : heads key ≡ Some head
  pub from : OccursFrom links head row

abbrev pub OccursIn : Forest ℕ → List Link → ℕ → ℕ → Type 0
OccursIn heads links key row = OccursBy (λ k. found (present heads) k) links key row

-- the links of the key name each of the rows
abbrev pub AllOccur : Forest ℕ → List Link → ℕ → List ℕ → Type 0
AllOccur heads links key rows = (row : ℕ) → Contains rows row → OccursIn heads links key row

-- links were added behind the others
pub record Grows (old new : List Link) : Type 0 where
  pub longer : length old ≤ length new
  pub stays : (p : ℕ) (link : Link) → slice_get old p ≡ Some link → slice_get new p ≡ Some link
