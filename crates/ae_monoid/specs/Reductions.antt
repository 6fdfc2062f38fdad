-- Multisets that are reduced by rules, with the justifications of the rules in the order of their use.
use Rattle.std.specs.Prelude.{◌≡◌, ◌≢◌, ℕ, ◌<◌, ◌≤◌, List, [], ◌∷◌, ◌++◌, length, Option, Some}
use Rattle.std.specs.List.{AllByRecursion}
use Rattle.ae_core.specs.declared.problems.AcSymbol.{AcSymbol}
use Rattle.ae_multiset.specs.Multisets.{count, IsSame}
use Rattle.ae_monoid.specs.declared.rules.Kept.{Kept}
use Rattle.ae_monoid.specs.Rules.{IsLargest}

-- the right side of the rule is put for its left side inside `a`
pub record IsTurned (rule : Kept) (a b : List ℕ) : Type 0 where
  pub rest : List ℕ
  pub before : IsSame a (rule.entry.left ++ rest)
  pub after : IsSame b (rule.entry.right ++ rest)

-- one step by a rule of the symbol with this justification
pub record IsStepBy (kept : ℕ → Option Kept) (symbol : AcSymbol) (just : ℕ) (a b : List ℕ) : Type 0 where
  pub number : ℕ
  pub rule : Kept
  pub there : kept number ≡ Some rule
  pub of : rule.entry.symbol ≡ symbol
  pub just_is : rule.just ≡ just
  pub turned : IsTurned rule a b

-- steps by rules with these justifications, in this order
pub data ReducesBy (kept : ℕ → Option Kept) (symbol : AcSymbol) : List ℕ → List ℕ → List ℕ → Type 0 where
  none : {a b : List ℕ} → IsSame a b → ReducesBy kept symbol a [] b
  more : {a b c justs : List ℕ} (just : ℕ) → ReducesBy kept symbol a justs b → IsStepBy kept symbol just b c → ReducesBy kept symbol a (justs ++ just ∷ []) c

-- a rule of the symbol whose left side's largest name is in the multiset
pub record IsCandidate (o : Option Kept) (symbol : AcSymbol) (names : List ℕ) : Type 0 where
  pub rule : Kept
  pub there : o ≡ Some rule
  pub of : rule.entry.symbol ≡ symbol
  pub largest : ℕ
  pub is_largest : IsLargest largest rule.entry.left
  pub has : 0 < count largest names

-- no number stands twice
abbrev pub AreDifferent : List ℕ → Type 0
AreDifferent [] = Unit {0}
AreDifferent (n ∷ ns) = AllByRecursion (λ m. n ≢ m) ns × AreDifferent ns

-- at most so many numbers meet it
pub record AreAtMost (most : ℕ) (P : ℕ → Type 0) : Type 0 where
  pub bound : (ns : List ℕ) → AreDifferent ns → AllByRecursion P ns → length ns ≤ most
