use Rattle.std.proofs.Common.{◌<◌, ◌≤◌, length}
use Rattle.ae_termreader.specs.Inner.Lookup.{FindsFrom}
use Rattle.ae_termreader.proofs.index.index_of.Given as goal

abbrev pub invariant-loop-end : goal.invariant-loop-end
invariant-loop-end l = (l.end ≤ length l.words) × (0 < length l.buckets) × FindsFrom l.words l.buckets l.end

abbrev pub decreases-loop-end : goal.decreases-loop-end
decreases-loop-end l = l.end
