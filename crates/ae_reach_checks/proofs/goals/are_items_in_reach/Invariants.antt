use Rattle.ae_reach_checks.specs.Decisions.{AreItemsReached}
use Rattle.ae_reach_checks.proofs.goals.are_items_in_reach.Given as goal

abbrev pub invariant-loop-place : goal.invariant-loop-place
invariant-loop-place l = AreItemsReached l.signature l.items l.place
