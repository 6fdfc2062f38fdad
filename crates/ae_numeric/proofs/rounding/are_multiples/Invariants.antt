use Rattle.std.proofs.Common.{◌≡◌, length, map, take}
use Rattle.ae_numeric.specs.Inner.Rounding.{times_part}
use Rattle.ae_numeric.proofs.rounding.are_multiples.Given as goal

abbrev pub invariant-loop-i : goal.invariant-loop-i
invariant-loop-i l = (length l.parts ≡ length l.of) × (take l.i l.parts ≡ map (times_part l.times) (take l.i l.of))
