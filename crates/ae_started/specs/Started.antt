-- Numbers in their order.
use Rattle.std.specs.Prelude.{ℕ, ◌<◌, List, ◌≡◌, length, slice_index_or}

-- the numbers from 0, so many of them
pub record AreOwn (n : ℕ) (places : List ℕ) : Type 0 where
  pub size : length places ≡ n
  pub own : (k : ℕ) → k < n → slice_index_or places k 0 ≡ k
