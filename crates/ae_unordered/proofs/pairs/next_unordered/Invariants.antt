use Rattle.ae_unordered.proofs.Deciding.{SaidTo}
use Rattle.ae_unordered.proofs.pairs.next_unordered.Given as goal

abbrev pub invariant-loop-place : goal.invariant-loop-place
invariant-loop-place l = SaidTo l.trail.assigned l.place
