use Rattle.std.proofs.Common.{take, ◌≤◌}
use Rattle.ae_separator.specs.Inner.Scans.{Scanned}
use Rattle.ae_separator.proofs.separator.parting.Given as goal

abbrev pub invariant-loop-at : goal.invariant-loop-at
invariant-loop-at l = Scanned (take l.at l.input) l.begin l.line × (l.begin ≤ l.at)
