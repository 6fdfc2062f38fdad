-- Rules by their numbers.
use Rattle.std.specs.Prelude.{◌≡◌, ℕ, ◌<◌, ◌≤◌, List, length, Option, Some}
use Rattle.std.specs.List.Sorted.{IsNonDecreasing}
use Rattle.ae_core.specs.declared.problems.AcSymbol.{AcSymbol}
use Rattle.ae_pmap.specs.Forest.{Forest, present}
use Rattle.ae_pmap.specs.Pairs.{found}
use Rattle.ae_multiset.specs.Multisets.{count, IsPart, IsLess}
use Rattle.ae_monoid.specs.declared.chains.Link.{Link}
use Rattle.ae_monoid.specs.declared.rules.Kept.{Kept}

-- ---- rules as functions from numbers
-- the larger side stands left, and has two elements; the sides are spelled in rising order
pub record IsWellKept (k : Kept) : Type 0 where
  pub left_rises : IsNonDecreasing k.entry.left
  pub right_rises : IsNonDecreasing k.entry.right
  pub falls : IsLess k.entry.right k.entry.left
  pub some : 0 < length k.entry.right
  pub two : 2 ≤ length k.entry.left

-- each rule is well made, and has a number that was given
pub record AreRules (kept : ℕ → Option Kept) (next : ℕ) : Type 0 where
  pub well : (n : ℕ) (k : Kept) → kept n ≡ Some k → IsWellKept k
  pub below : (n : ℕ) (k : Kept) → kept n ≡ Some k → n < next

-- a rule of the symbol has these sides
pub record IsRuleOf (kept : ℕ → Option Kept) (symbol : AcSymbol) (l r : List ℕ) : Type 0 where
  pub number : ℕ
  pub rule : Kept
  pub there : kept number ≡ Some rule
  pub of : rule.entry.symbol ≡ symbol
  pub left : rule.entry.left ≡ l
  pub right : rule.entry.right ≡ r

-- the rule is one of the symbol, and its left side is a part of the multiset
pub record IsFit (o : Option Kept) (symbol : AcSymbol) (names : List ℕ) : Type 0 where
  pub rule : Kept
  pub there : o ≡ Some rule
  pub of : rule.entry.symbol ≡ symbol
  pub part : IsPart rule.entry.left names

abbrev pub IsUnfit : Option Kept → AcSymbol → List ℕ → Type 0
IsUnfit o symbol names = (rule : Kept) → o ≡ Some rule → rule.entry.symbol ≡ symbol → IsPart rule.entry.left names → ⊥

-- the largest name of a multiset
pub record IsLargest (x : ℕ) (names : List ℕ) : Type 0 where
  pub has : 0 < count x names
  pub above : (y : ℕ) → x < y → count y names ≡ 0

-- ---- rules in persistent maps
-- the map of the rules and the next number, and what finds rules by the names of their left sides
pub record Contents : Type 0 where
  pub kept : Forest Kept
  pub next : ℕ
  pub largest : Forest ℕ
  pub elements : Forest ℕ
  pub links : List Link

-- the rule of a number
abbrev pub rule_at : Contents → ℕ → Option Kept
rule_at c n = found (present c.kept) n
