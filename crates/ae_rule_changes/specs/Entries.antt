-- Kept rules without their justifications.
use Rattle.std.specs.Prelude.{ℕ, ◌<◌, List, ◌≡◌, ◌≢◌, Option, Some, None}
use Rattle.std.specs.List.{Contains}
use Rattle.ae_multiset.specs.Multisets.{count}
use Rattle.ae_journal.specs.declared.systems.RuleEntry.{RuleEntry}
use Rattle.ae_monoid.specs.declared.rules.Kept.{Kept}
use Rattle.ae_monoid.specs.declared.pending.PendingPair.{PendingPair}

-- the rules are those that are kept, under the same numbers
pub record AreEntries (kept : ℕ → Option Kept) (rules : ℕ → Option RuleEntry) : Type 0 where
  pub some : (n : ℕ) (k : Kept) → kept n ≡ Some k → rules n ≡ Some k.entry
  pub none : (n : ℕ) → kept n ≡ None → rules n ≡ None

-- the rule whose two sides the pair has
abbrev pub entry_of : PendingPair → RuleEntry
entry_of p = record { symbol = p.symbol; left = p.left; right = p.right }

-- a name in the left side isn't its own representative
pub record HasStaleName (rep : ℕ → ℕ) (o : Option Kept) : Type 0 where
  pub rule : Kept
  pub there : o ≡ Some rule
  pub name : ℕ
  pub stale : rep name ≢ name
  pub has : 0 < count name rule.entry.left

-- numbers are paired only with numbers that were given
abbrev pub ArePairedBelow : (ℕ → List ℕ) → ℕ → Type 0
ArePairedBelow paired next = (m n : ℕ) → Contains (paired m) n → (m < next) × (n < next)
