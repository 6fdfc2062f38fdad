use Rattle.std.proofs.Common.{◌≡◌, ◌≤◌, ◌+◌, drop}
use Rattle.ae_journal.specs.Journals.{counted_in}
use Rattle.ae_statetext.proofs.answers.counted_in.Given as goal

abbrev pub invariant-loop-line : goal.invariant-loop-line
invariant-loop-line l = (l.count ≤ l.line-index) × (counted_in l.lines ≡ l.count + counted_in (drop l.line-index l.lines))
