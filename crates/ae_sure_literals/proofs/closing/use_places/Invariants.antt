use Rattle.ae_sure_literals.specs.Inner.Closing.{UsesPlaces}
use Rattle.ae_sure_literals.proofs.closing.use_places.Given as goal

abbrev pub invariant-loop-place : goal.invariant-loop-place
invariant-loop-place l = UsesPlaces l.trail.assigned l.place l.fn.flags l.flags l.changed
