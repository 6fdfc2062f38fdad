use Rattle.std.proofs.Common.{length}
use Rattle.ae_made_instances.proofs.batch.make_all.Given as goal
use Rattle.ae_made_instances.specs.Inner.Making.{IsBeingMade}

abbrev pub invariant-left : goal.invariant-left
invariant-left g l = IsBeingMade l.task.problem.now l.task.goal l.task.generations l.number l.level l.fn.search l.search l.left

abbrev pub decreases-left : goal.decreases-left
decreases-left g l = length l.left
