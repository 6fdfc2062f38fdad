use Rattle.std.proofs.Common.{ℕ, ◌<◌}
use Rattle.std.specs.List.{Contains}
use Rattle.ae_trim.specs.Used.{hints_at}
use Rattle.ae_trim.proofs.used.hint_earlier.Given as goal

abbrev pub invariant-loop-i : goal.invariant-loop-i
invariant-loop-i l = (j k : ℕ) → j < l.i → Contains (hints_at l.lines j) k → k < j
