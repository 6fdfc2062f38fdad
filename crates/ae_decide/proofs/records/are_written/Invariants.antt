use Rattle.std.proofs.Common.{◌≡◌, drop, length}
use Rattle.ae_decide.specs.Records.{are_written}
use Rattle.ae_decide.proofs.records.are_written.Given as goal

abbrev pub invariant-loop-i : goal.invariant-loop-i
invariant-loop-i l = (length l.terms ≡ length l.values) × (are_written l.system (drop l.i l.terms) (drop l.i l.values) ≡ are_written l.system l.terms l.values)
