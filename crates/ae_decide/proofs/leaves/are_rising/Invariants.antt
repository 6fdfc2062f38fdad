use Rattle.std.proofs.Common.{◌≡◌, drop}
use Rattle.ae_decide.specs.Leaves.{are_rising}
use Rattle.ae_decide.proofs.leaves.are_rising.Given as goal

abbrev pub invariant-loop-i : goal.invariant-loop-i
invariant-loop-i l = are_rising (drop l.i l.parts) ≡ are_rising l.parts
