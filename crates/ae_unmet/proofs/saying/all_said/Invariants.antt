use Rattle.ae_unmet.specs.Inner.Found.{AreFirstSaid}
use Rattle.ae_unmet.proofs.saying.all_said.Given as goal

abbrev pub invariant-loop-place : goal.invariant-loop-place
invariant-loop-place l = AreFirstSaid l.held l.place l.said
