use Rattle.ae_ordered_rounds.proofs.Trails.{NoneTo}
use Rattle.ae_ordered_rounds.proofs.choosing.has_inequality.Given as goal

abbrev pub invariant-loop-place : goal.invariant-loop-place
invariant-loop-place l = NoneTo l.trail.assigned l.place
