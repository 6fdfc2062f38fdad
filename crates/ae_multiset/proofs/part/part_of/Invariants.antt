use Rattle.std.proofs.Common.{◌+◌, ◌-◌, length}
use Rattle.ae_multiset.proofs.Parts.{IsPartFrom}
use Rattle.ae_multiset.proofs.part.part_of.Given as goal

abbrev pub invariant-loop-i : goal.invariant-loop-i
invariant-loop-i l = IsPartFrom l.small l.large l.i l.j

abbrev pub decreases-loop-i : goal.decreases-loop-i
decreases-loop-i l = (length l.small - l.i) + (length l.large - l.j)
