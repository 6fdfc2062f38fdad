use Rattle.ae_searching.specs.Inner.Starts.{HasCandidate, StartsAt}
use Rattle.ae_searching.proofs.levels.unit_from.Given as goal

abbrev pub invariant-loop-i : goal.invariant-loop-i
invariant-loop-i l = StartsAt (HasCandidate l.trail.assigned l.clause l.i) l.least
