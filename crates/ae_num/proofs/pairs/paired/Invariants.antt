use Rattle.std.proofs.Common.{◌≡◌, ◌+◌, ◌-◌, ◌≤◌, ◌++◌, length, drop}
use Rattle.ae_num.specs.Inner.Pairs.{pairs_of}
use Rattle.ae_num.proofs.pairs.paired.Given as goal

abbrev pub invariant-keys : goal.invariant-keys
invariant-keys l = record {
  left_within : l.left_at ≤ length l.left;
  right_within : l.right_at ≤ length l.right;
  so_far : l.pairs ++ pairs_of (drop l.left_at l.left) (drop l.right_at l.right) ≡ pairs_of l.left l.right;
}

abbrev pub decreases-keys : goal.decreases-keys
decreases-keys l = (length l.left - l.left_at) + (length l.right - l.right_at)
