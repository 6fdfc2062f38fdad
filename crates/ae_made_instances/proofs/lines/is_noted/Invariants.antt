use Rattle.std.proofs.Common.{◌≡◌, ◌≢◌, ℕ, ◌<◌, get_or}
use Rattle.ae_journal.specs.declared.lines.Line.{Line}
use Rattle.ae_made_instances.proofs.lines.is_noted.Given as goal

abbrev pub invariant-loop-i : goal.invariant-loop-i
invariant-loop-i l = (k : ℕ) (m : Line) → k < l.i → get_or l.lines k m ≡ m → m ≢ l.own
