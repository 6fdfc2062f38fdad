use Rattle.std.proofs.Common.{◌≡◌, ◌-◌, length, drop}
use Rattle.std.specs.Str.{bytes_eq}
use Rattle.ae_termreader.proofs.index.same.Given as goal

abbrev pub invariant-bytes : goal.invariant-bytes
invariant-bytes l = (length l.left ≡ length l.right) × (bytes_eq (drop l.at l.left) (drop l.at l.right) ≡ bytes_eq l.left l.right)

abbrev pub decreases-bytes : goal.decreases-bytes
decreases-bytes l = length l.left - l.at
