-- How a step of saturation ends: what holds of its widths, and what it leaves of the rules.
use Rattle.std.specs.Prelude.{ℕ, List, ◌≡◌, Option, Some}
use Rattle.ae_core.specs.declared.problems.AcSymbol.{AcSymbol}
use Rattle.ae_journal.specs.Licences.{IsLicensed}
use Rattle.ae_journal.specs.Standing.{Setting}
use Rattle.ae_journal.specs.declared.answers.WideAt.{WideAt}
use Rattle.ae_journal.specs.declared.lines.Line.{Line}
use Rattle.ae_monoid.specs.declared.rules.Kept.{Kept}
use Rattle.ae_settled.specs.Held.{Held}
use Rattle.ae_store.specs.Stores.{Stored}
use Rattle.ae_sweeps.specs.Given.{rep_in}
use Rattle.ae_theory.specs.Names.{IsNamedBy}
use Rattle.ae_theory.specs.Noting.{MayAll, literals}
use Rattle.ae_value_table.specs.Table.{values}
use Rattle.ae_state.specs.declared.holding.Holding.{Holding}
use Rattle.ae_state.specs.Names.{assumed_in, rules_now}

-- after the lines `after`, which go on from `before`, the width is licensed wherever the assumed literals may stand
abbrev pub MayBeWide : Stored → Holding → List Line → List Line → WideAt → Type 0
MayBeWide s o before after wide = (x : Setting) → IsNamedBy x s before → MayAll x (literals (assumed_in o)) before → IsLicensed x after wide

-- a rule of a number has its left side and its symbol still
pub record HasSameLeft (symbol : AcSymbol) (left : List ℕ) (o : Option Kept) : Type 0 where
  pub rule : Kept
  pub there : o ≡ Some rule
  pub symbols : rule.entry.symbol ≡ symbol
  pub lefts : rule.entry.left ≡ left

-- the rules of the same numbers stand, with the same symbols and left sides
pub record HaveSameLefts (old new : ℕ → Option Kept) : Type 0 where
  pub stay : (n : ℕ) (rule : Kept) → old n ≡ Some rule → HasSameLeft rule.entry.symbol rule.entry.left (new n)
  pub alone : (n : ℕ) (rule : Kept) → new n ≡ Some rule → HasSameLeft rule.entry.symbol rule.entry.left (old n)

-- what is held of a store of which all names have values, with representatives, as a sweep sees it
abbrev pub seen : Holding → Stored → List ℕ → Held
seen o s reps = record { signature = s.signature; nodes = s.nodes; values = values o.values; rep = rep_in reps; rules = rules_now o; next = o.equations.rules.next }
