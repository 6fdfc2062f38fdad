use Rattle.std.proofs.Common.{◌≡◌, take}
use Rattle.ae_known.specs.Index as spec
use Rattle.ae_known.proofs.rows.below.Given as goal

abbrev pub invariant-loop-other : goal.invariant-loop-other
invariant-loop-other l = l.found ≡ spec.below l.name (take l.other-index l.names)
