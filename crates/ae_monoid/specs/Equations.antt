-- What Deduce gives of two rules.
use Rattle.std.specs.Prelude.{◌≡◌, ℕ, ◌<◌, [], ◌∷◌, Option, Some}
use Rattle.std.specs.List.Sorted.{IsNonDecreasing}
use Rattle.ae_multiset.specs.Multisets.{count, IsSame}
use Rattle.ae_multiset.specs.Rewriting.{overlap_first, overlap_second}
use Rattle.ae_monoid.specs.declared.rules.Kept.{Kept}
use Rattle.ae_monoid.specs.declared.pending.PendingPair.{PendingPair}

-- the left sides share a name, and the equation is that of the two results of their overlap, in rising order
pub record IsDeduced (p q : Kept) (pair : PendingPair) : Type 0 where
  pub shared : ℕ
  pub in_first : 0 < count shared p.entry.left
  pub in_second : 0 < count shared q.entry.left
  pub symbol : pair.symbol ≡ p.entry.symbol
  pub left : IsSame pair.left (overlap_first p.entry.left p.entry.right q.entry.left)
  pub right : IsSame pair.right (overlap_second p.entry.left q.entry.left q.entry.right)
  pub left_rises : IsNonDecreasing pair.left
  pub right_rises : IsNonDecreasing pair.right
  pub justs : pair.justs ≡ p.just ∷ q.just ∷ []

-- no name stands in both left sides
abbrev pub SharesNothing : Kept → Kept → Type 0
SharesNothing p q = (x : ℕ) → 0 < count x p.entry.left → 0 < count x q.entry.left → ⊥

-- of two rules that stand and have one symbol
pub record IsOverlap (o u : Option Kept) (pair : PendingPair) : Type 0 where
  pub first : Kept
  pub second : Kept
  pub first_there : o ≡ Some first
  pub second_there : u ≡ Some second
  pub same : first.entry.symbol ≡ second.entry.symbol
  pub deduced : IsDeduced first second pair

-- the symbols differ, or the left sides share nothing
abbrev pub AreApart : Option Kept → Option Kept → Type 0
AreApart o u = (p q : Kept) → o ≡ Some p → u ≡ Some q → p.entry.symbol ≡ q.entry.symbol → SharesNothing p q
