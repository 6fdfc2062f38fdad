-- Versions of rules, and that they last.
use Rattle.std.specs.Prelude.{◌≡◌, ℕ, Option}
use Rattle.ae_pmap.specs.Forest.{map_at, IsRoot}
use Rattle.ae_pmap.specs.Pairs.{found}
use Rattle.ae_monoid.specs.declared.rules.Kept.{Kept}
use Rattle.ae_monoid.specs.declared.rules.Shared.{Shared}
use Rattle.ae_monoid.specs.Rules.{Contents}
use Rattle.ae_monoid.specs.Inner.Indexes.{AreIndexed}

-- the version fits the rules
pub record Fits (c : Contents) (shared : Shared) : Type 0 where
  pub kept : IsRoot c.kept shared.kept
  pub largest : IsRoot c.largest shared.largest
  pub elements : IsRoot c.elements shared.elements
  pub indexed : AreIndexed (λ n. found (map_at c.kept shared.kept) n) shared.next (λ n. found (map_at c.largest shared.largest) n) (λ n. found (map_at c.elements shared.elements) n) c.links

-- the version fits the rules and stands for those of the function, and for so many numbers that were given
pub record StandsFor (c : Contents) (shared : Shared) (rules : ℕ → Option Kept) (len : ℕ) : Type 0 where
  pub fits : Fits c shared
  pub is : (n : ℕ) → found (map_at c.kept shared.kept) n ≡ rules n
  pub len_is : shared.next ≡ len

-- each version goes on standing for its rules
abbrev pub Lasts : Contents → Contents → Type 0
Lasts old new = (shared : Shared) (rules : ℕ → Option Kept) (len : ℕ) → StandsFor old shared rules len → StandsFor new shared rules len
