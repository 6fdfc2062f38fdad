use Rattle.std.proofs.Common.{length}
use Rattle.ae_decide.proofs.overlaps.+without.Given as goal

abbrev pub decreases-without : goal.decreases-without
decreases-without l = length l.names.now
