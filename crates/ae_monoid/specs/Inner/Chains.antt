-- Chains of numbers. Places count from 1, and place 0 is no link.
use Rattle.std.specs.Prelude.{◌≡◌, ℕ, suc, ◌<◌, ◌≤◌, List, length, slice_get, Option, Some}
use Rattle.ae_pmap.specs.Forest.{Forest, present}
use Rattle.ae_pmap.specs.Pairs.{found}
use Rattle.ae_monoid.specs.declared.chains.Link.{Link}

-- the number is on the chain from a place
pub data IsOn (links : List Link) : ℕ → ℕ → Type 0 where
  here : {at number : ℕ} (p : ℕ) (link : Link) → at ≡ suc p → slice_get links p ≡ Some link → link.number ≡ number → IsOn links at number
  later : {at number : ℕ} (p : ℕ) (link : Link) → at ≡ suc p → slice_get links p ≡ Some link → IsOn links link.next number → IsOn links at number

-- each link leads to an earlier one, and to lower numbers
pub record AreLinked (links : List Link) : Type 0 where
  pub before : (p : ℕ) (link : Link) → slice_get links p ≡ Some link → link.next ≤ p
  pub falls : (p : ℕ) (link : Link) → slice_get links p ≡ Some link → (number : ℕ) → IsOn links link.next number → number < link.number

-- the heads are places of links
pub record AreHeadsBy (heads : ℕ → Option ℕ) (links : List Link) : Type 0 where
  pub within : (key head : ℕ) → heads key ≡ Some head → head ≤ length links

abbrev pub AreHeads : Forest ℕ → List Link → Type 0
AreHeads heads links = AreHeadsBy (λ key. found (present heads) key) links

-- the number is on the chain of the key
pub record IsOnBy (heads : ℕ → Option ℕ) (links : List Link) (key number : ℕ) : Type 0 where
  pub head : ℕ
  pub there : heads key ≡ Some head
  pub on : IsOn links head number

abbrev pub IsOnOf : Forest ℕ → List Link → ℕ → ℕ → Type 0
IsOnOf heads links key number = IsOnBy (λ k. found (present heads) k) links key number

-- links were added behind the others
pub record Grows (old new : List Link) : Type 0 where
  pub longer : length old ≤ length new
  pub stays : (p : ℕ) (link : Link) → slice_get old p ≡ Some link → slice_get new p ≡ Some link
