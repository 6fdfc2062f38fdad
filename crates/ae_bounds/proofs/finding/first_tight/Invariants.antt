use Rattle.ae_bounds.proofs.Found.{NoneBelow, Tight}
use Rattle.ae_bounds.proofs.finding.first_tight.Given as goal

abbrev pub invariant-loop-place : goal.invariant-loop-place
invariant-loop-place l = NoneBelow Tight l.place l.rows
