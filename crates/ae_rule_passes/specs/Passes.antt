-- Rules that are taken out together, and the lines that drop them.
use Rattle.std.specs.Prelude.{ℕ, List, ◌≡◌, ◌≢◌, Option, Some, None}
use Rattle.std.specs.List.{Contains}
use Rattle.ae_base.specs.Relations.{Pairwise}
use Rattle.ae_multiset.specs.Multisets.{IsPart}
use Rattle.ae_journal.specs.declared.systems.RuleEntry.{RuleEntry}
use Rattle.ae_journal.specs.declared.lines.Oriented.TheVariants as oriented
use Rattle.ae_journal.specs.declared.lines.Line.{Line}
use Rattle.ae_journal.specs.declared.lines.Line.TheVariants as line
use Rattle.ae_monoid.specs.Reductions.{AreDifferent}

-- the line that drops a rule
abbrev pub drop_line : RuleEntry → Line
drop_line e = line.Drop (oriented.Rule e.symbol e.left e.right)

-- the rules of these numbers go, each once, and all others stay
pub record AreRulesTakenOut (old new : ℕ → Option RuleEntry) (numbers : List ℕ) (rules : List RuleEntry) : Type 0 where
  pub different : AreDifferent numbers
  pub are : Pairwise (λ n e. old n ≡ Some e) numbers rules
  pub gone : (n : ℕ) → Contains numbers n → new n ≡ None
  pub others : (n : ℕ) → ¬ Contains numbers n → new n ≡ old n

-- another rule of its symbol reduces the left side of the rule with number n
pub record IsReducibleRule (rules : ℕ → Option RuleEntry) (n : ℕ) : Type 0 where
  pub rule : RuleEntry
  pub there : rules n ≡ Some rule
  pub other : ℕ
  pub by : RuleEntry
  pub other_there : rules other ≡ Some by
  pub apart : other ≢ n
  pub symbol : by.symbol ≡ rule.symbol
  pub part : IsPart by.left rule.left
