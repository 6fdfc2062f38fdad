use Rattle.std.specs.Prelude.{◌-◌}
use Rattle.ae_journal.specs.Journals.{counted_in}
use Rattle.ae_saturation.proofs.Sequels.{IsUnderWay}
use Rattle.ae_saturation.proofs.saturating.turns.Given as goal

abbrev pub invariant-turns : goal.invariant-turns
invariant-turns l = IsUnderWay l.store l.initial.held l.initial.journal l.held l.journal

abbrev pub decreases-turns : goal.decreases-turns
decreases-turns l = l.journal.limit - counted_in l.journal.lines
