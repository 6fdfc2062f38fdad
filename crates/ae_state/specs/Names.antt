-- What a holding shows: its names with their terms, its system, and the literals that are assumed.
use Rattle.std.specs.Prelude.{ℕ, List, take, Option}
use Rattle.std.specs.List.Sorted.{IsNonDecreasing}
use Rattle.ae_core.specs.declared.terms.Term.{Term}
use Rattle.ae_journal.specs.declared.systems.RuleEntry.{RuleEntry}
use Rattle.ae_journal.specs.declared.systems.System.{System}
use Rattle.ae_pmap.specs.Forest.{present}
use Rattle.ae_store.specs.Terms.{terms}
use Rattle.ae_settled.specs.Held.{entries}
use Rattle.ae_sweeps.specs.Given.{entries_of}
use Rattle.ae_theory.specs.Tagged.{Tagged}
use Rattle.ae_value_table.specs.Table.{values}
use Rattle.ae_conflicts.specs.Saying.{tagged}
use Rattle.ae_state.specs.declared.holding.Holding.{Holding}

-- the terms of all names that ever came, each at its name
abbrev pub all_terms : Holding → List Term
all_terms o = terms o.shapes

-- those of the names that have values now, the first ones
abbrev pub terms_now : Holding → List Term
terms_now o = take o.values.taken (all_terms o)

-- the rules by their numbers
abbrev pub rules_now : Holding → ℕ → Option RuleEntry
rules_now o = entries_of o.equations.rules

-- both multisets of a rule are written rising
abbrev pub IsWrittenRising : RuleEntry → Type 0
IsWrittenRising e = IsNonDecreasing e.left × IsNonDecreasing e.right

-- these names, their values, and the rules
abbrev pub system_now : Holding → System
system_now o = record { names = terms_now o; values = values o.values; rules = entries (rules_now o) o.equations.rules.next }

-- the literals that are assumed, each with its tag, in their order
abbrev pub assumed_in : Holding → List Tagged
assumed_in o = tagged (present o.assumed)
