use Rattle.std.proofs.Common.{length}
use Rattle.ae_expressions.proofs.merging.+merge.Given as goal

abbrev pub decreases-merge : goal.decreases-merge
decreases-merge l = length l.nodes.now
