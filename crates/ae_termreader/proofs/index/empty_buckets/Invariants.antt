use Rattle.std.proofs.Common.{◌≡◌, length}
use Rattle.ae_termreader.specs.Inner.Lookup.{AllEmpty}
use Rattle.ae_termreader.proofs.index.empty_buckets.Given as goal

abbrev pub invariant-loop-slot : goal.invariant-loop-slot
invariant-loop-slot l = (length l.out ≡ l.slot) × AllEmpty l.out
