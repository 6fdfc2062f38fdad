use Rattle.ae_bound_points.specs.Inner.Stages.{IsNext}
use Rattle.ae_bound_points.proofs.stages.next_name.Given as goal

abbrev pub invariant-loop-place : goal.invariant-loop-place
invariant-loop-place l = IsNext l.rows l.place l.bound l.found
