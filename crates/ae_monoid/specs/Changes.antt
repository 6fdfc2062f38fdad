-- Rules that are entered, changed and taken out.
use Rattle.std.specs.Prelude.{◌≡◌, ◌≢◌, ℕ, ◌<◌, ◌↔◌, List, [], ◌∷◌, Option, Some, None}
use Rattle.std.specs.List.{Contains}
use Rattle.ae_base.specs.Relations.{Pairwise}
use Rattle.ae_core.specs.declared.problems.AcSymbol.{AcSymbol}
use Rattle.ae_multiset.specs.Multisets.{count, IsLess, rising}
use Rattle.ae_monoid.specs.declared.rules.Kept.{Kept}
use Rattle.ae_monoid.specs.declared.pending.PendingPair.{PendingPair}
use Rattle.ae_monoid.specs.Rules.{IsFit}
use Rattle.ae_monoid.specs.Reductions.{AreDifferent}

-- ---- a rule is entered
-- the rule from the one multiset to the other, both in rising order
abbrev pub rule_from : AcSymbol → List ℕ → List ℕ → ℕ → Kept
rule_from symbol larger smaller just = record { entry = record { symbol = symbol; left = rising larger; right = rising smaller }; just = just }

-- a rule stands, from the larger of the two to the smaller
pub record IsOriented (o : Option Kept) (symbol : AcSymbol) (a b : List ℕ) (just : ℕ) : Type 0 where
  pub first_larger : IsLess b a → o ≡ Some (rule_from symbol a b just)
  pub second_larger : IsLess a b → o ≡ Some (rule_from symbol b a just)

-- ---- a rule gets another right side
abbrev pub with_right : Kept → List ℕ → ℕ → Kept
with_right rule right just = record { entry = record { symbol = rule.entry.symbol; left = rule.entry.left; right = rising right }; just = just }

-- ---- rules are taken out
-- the left side has the name
pub record HasName (name : ℕ) (o : Option Kept) : Type 0 where
  pub rule : Kept
  pub there : o ≡ Some rule
  pub has : 0 < count name rule.entry.left

-- another rule reduces the left side
pub record IsReducible (kept : ℕ → Option Kept) (n : ℕ) : Type 0 where
  pub rule : Kept
  pub there : kept n ≡ Some rule
  pub other : ℕ
  pub is_other : other ≢ n
  pub fits : IsFit (kept other) rule.entry.symbol rule.entry.left

-- the equation of a rule that stands, with its justification
pub record IsEquationOf (o : Option Kept) (pair : PendingPair) : Type 0 where
  pub rule : Kept
  pub there : o ≡ Some rule
  pub symbol : pair.symbol ≡ rule.entry.symbol
  pub left : pair.left ≡ rule.entry.left
  pub right : pair.right ≡ rule.entry.right
  pub justs : pair.justs ≡ rule.just ∷ []

-- those that meet `P` are taken out and the others stay, and the pairs are the equations of those taken out, each once
pub record AreTakenOut (old new : ℕ → Option Kept) (P : ℕ → Type 0) (pairs : List PendingPair) : Type 0 where
  pub numbers : List ℕ
  pub different : AreDifferent numbers
  pub are : (n : ℕ) → Contains numbers n ↔ P n
  pub equations : Pairwise (λ n pair. IsEquationOf (old n) pair) numbers pairs
  pub gone : (n : ℕ) → P n → new n ≡ None
  pub others : (n : ℕ) → (P n → ⊥) → new n ≡ old n
