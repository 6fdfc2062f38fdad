use Rattle.ae_bounds.proofs.Found.{NoneBelow, Refuted}
use Rattle.ae_bounds.proofs.finding.first_refuted.Given as goal

abbrev pub invariant-loop-place : goal.invariant-loop-place
invariant-loop-place l = NoneBelow Refuted l.place l.rows
