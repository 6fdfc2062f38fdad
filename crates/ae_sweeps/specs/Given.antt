-- What a sweep is given beside the store: a representative of each name, the rules, and which terms are constant.
use Rattle.std.specs.Prelude.{ℕ, Bool, List, ◌≡◌, length, slice_get, slice_index_or, Option, Some, None}
use Rattle.ae_core.specs.declared.terms.Term.{Term}
use Rattle.ae_rules.specs.Linear.{form, is_number}
use Rattle.ae_journal.specs.declared.systems.RuleEntry.{RuleEntry}
use Rattle.ae_store.specs.Terms.{named}
use Rattle.ae_monoid.specs.Rules.{Contents, rule_at}
use Rattle.ae_monoid.specs.declared.rules.Kept.{Kept}

-- the representative of a name, from a list; a name that the list lacks is its own
abbrev pub rep_in : List ℕ → ℕ → ℕ
rep_in reps n = slice_index_or reps n n

-- the rules without their justifications
abbrev pub entry_of : Option Kept → Option RuleEntry
entry_of None = None
entry_of (Some k) = Some k.entry

abbrev pub entries_of : Contents → ℕ → Option RuleEntry
entries_of c n = entry_of (rule_at c n)

-- for each name, whether the linear form of its term is a number
pub record AreConstants (ts : List Term) (constants : List Bool) : Type 0 where
  pub one_each : length constants ≡ length ts
  pub each : (n : ℕ) (b : Bool) → slice_get constants n ≡ Some b → b ≡ is_number (form (named ts n))
