-- A number above each name that reduction can bring.
use Rattle.std.specs.Prelude.{ℕ, zero, suc, ◌+◌, List, Option, Some, None}
use Rattle.ae_multiset.specs.Normal.{top}
use Rattle.ae_monoid.specs.declared.rules.Kept.{Kept}

abbrev pub top_of : Option Kept → ℕ
top_of None = 0
top_of (Some k) = top k.entry.right

abbrev pub tops_below : (ℕ → Option Kept) → ℕ → ℕ
tops_below kept zero = 0
tops_below kept (suc n) = top_of (kept n) + tops_below kept n

abbrev pub bound_of : (ℕ → Option Kept) → ℕ → List ℕ → ℕ
bound_of kept next names = top names + tops_below kept next
