-- The two indexes of the rules: by the largest name of a left side, and by each of its names.
use Rattle.std.specs.Prelude.{◌≡◌, ℕ, ◌+◌, ◌<◌, ◌≤◌, List, length, Option, Some, None}
use Rattle.std.specs.List.{AllByRecursion}
use Rattle.ae_core.specs.declared.problems.AcSymbol.{AcSymbol}
use Rattle.ae_multiset.specs.Multisets.{count}
use Rattle.ae_pmap.specs.Pairs.{with_at}
use Rattle.ae_monoid.specs.declared.chains.Link.{Link}
use Rattle.ae_monoid.specs.declared.rules.Kept.{Kept}
use Rattle.ae_monoid.specs.Rules.{AreRules, IsLargest}
use Rattle.ae_monoid.specs.Inner.Chains.{AreLinked, AreHeadsBy, IsOn, IsOnBy}
use Rattle.ae_monoid.specs.Reductions.{AreDifferent}

pub record AreIndexed (kept : ℕ → Option Kept) (next : ℕ) (largest elements : ℕ → Option ℕ) (links : List Link) : Type 0 where
  pub are_rules : AreRules kept next
  pub room : next ≤ length links
  pub are_linked : AreLinked links
  pub largest_heads : AreHeadsBy largest links
  pub elements_heads : AreHeadsBy elements links
  -- each rule is found by its largest name, and by each name of its left side
  pub by_largest : (n x : ℕ) (k : Kept) → kept n ≡ Some k → IsLargest x k.entry.left → IsOnBy largest links x n
  pub by_element : (n x : ℕ) (k : Kept) → kept n ≡ Some k → 0 < count x k.entry.left → IsOnBy elements links x n
  -- and by no other names
  pub only_element : (n x : ℕ) (k : Kept) → kept n ≡ Some k → IsOnBy elements links x n → 0 < count x k.entry.left
  pub only_largest : (n x : ℕ) (k : Kept) → kept n ≡ Some k → IsOnBy largest links x n → IsLargest x k.entry.left
  -- the chains have numbers that were given
  pub largest_given : (n x : ℕ) → IsOnBy largest links x n → n < next
  pub elements_given : (n x : ℕ) → IsOnBy elements links x n → n < next

-- the rules without the one of a number
abbrev pub hiding : (ℕ → Option Kept) → ℕ → ℕ → Option Kept
hiding kept but n = with_at kept but None n

-- a rule that stands and is on the chain
pub record StandsOn (kept : ℕ → Option Kept) (links : List Link) (head n : ℕ) : Type 0 where
  pub rule : Kept
  pub there : kept n ≡ Some rule
  pub on : IsOn links head n

-- the rule is one of the symbol
pub record IsOf (o : Option Kept) (symbol : AcSymbol) : Type 0 where
  pub rule : Kept
  pub there : o ≡ Some rule
  pub of : rule.entry.symbol ≡ symbol

-- each step was for a rule of the symbol on the chain, and for no rule twice
pub record AreTestedOn (kept : ℕ → Option Kept) (links : List Link) (head : ℕ) (symbol : AcSymbol) (old new : ℕ) : Type 0 where
  pub tests : List ℕ
  pub steps : new ≡ old + length tests
  pub different : AreDifferent tests
  pub each : AllByRecursion (λ n. IsOn links head n × IsOf (kept n) symbol) tests
