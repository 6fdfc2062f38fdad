-- Rules that others reduce.
use Rattle.std.specs.Prelude.{ℕ, List, ◌++◌, ◌≡◌, map}
use Rattle.ae_journal.specs.Journals.{live}
use Rattle.ae_journal.specs.Legal.{AreLegal}
use Rattle.ae_journal.specs.Standing.{Setting}
use Rattle.ae_journal.specs.declared.lines.Line.{Line}
use Rattle.ae_monoid.specs.Changes.{AreTakenOut, IsReducible}
use Rattle.ae_monoid.specs.Rules.{AreRules}
use Rattle.ae_monoid.specs.declared.pending.PendingPair.{PendingPair}
use Rattle.ae_sweeps.specs.Given.{entries_of}
use Rattle.ae_equations.specs.Held.{Contents as Equations}
use Rattle.ae_equations.specs.Queued.{waiting, equation_of}
use Rattle.ae_rule_passes.specs.Passes.{drop_line}
use Rattle.ae_rule_changes.specs.Entries.{entry_of}
use Rattle.ae_rule_changes.proofs.TakenOut.{reducible_dropped}
use Rattle.ae_state.specs.declared.holding.Holding.{Holding}
use Rattle.ae_state.specs.Names.{terms_now}
use Rattle.ae_state.specs.Stepping.{equations_now, paired_now, IsInStep}
use Rattle.ae_turns.proofs.DroppedRules.{kept_in, entries_are}

pub reducible_legal : (o : Holding) (x : Setting) (js : List Line) → IsInStep o (live js) → (bound : ℕ) (e : Equations) (pairs : List PendingPair) → AreTakenOut (kept_in o.equations) (kept_in e) (IsReducible (kept_in o.equations)) pairs
    → waiting e.queue ≡ waiting o.equations.queue ++ map equation_of pairs → AreRules (kept_in o.equations) o.equations.rules.next → AreLegal x bound js (map drop_line (map entry_of pairs))
reducible_legal o x js step bound e pairs out queue well =
    (reducible_dropped x bound o.signature (terms_now o) js o.equations.rules.next (kept_in o.equations) (kept_in e) (entries_of o.equations.rules) (entries_of e.rules) (paired_now o) (equations_now o) pairs well
    (entries_are o.equations) (entries_are e) out step.ruled).legal
