use Rattle.ae_trim.proofs.Marking.{ArePlaces}
use Rattle.ae_trim.proofs.used.marked_places.Given as goal

abbrev pub invariant-loop-place : goal.invariant-loop-place
invariant-loop-place l = ArePlaces l.marks l.place l.places
