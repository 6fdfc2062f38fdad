use Rattle.std.proofs.Common.{◌≡◌, take}
use Rattle.ae_data.specs.Records.{lefts, rights}
use Rattle.ae_data.proofs.records.pairs.Given as goal

abbrev pub invariant-loop-i : goal.invariant-loop-i
invariant-loop-i l = (lefts l.pairs ≡ take l.i l.left) × (rights l.pairs ≡ take l.i l.right)
