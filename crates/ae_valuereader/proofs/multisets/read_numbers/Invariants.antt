use Rattle.std.proofs.Common.{length, ◌-◌, ◌≤◌}
use Rattle.ae_valuereader.proofs.MultisetReading.{RisenSoFar}
use Rattle.ae_valuereader.proofs.multisets.read_numbers.Given as goal

abbrev pub invariant-numbers : goal.invariant-numbers
invariant-numbers l = (l.from ≤ l.at) × (l.from ≤ length l.text → l.at ≤ length l.text) × RisenSoFar l.text l.from l.low l.at l.numbers

abbrev pub decreases-numbers : goal.decreases-numbers
decreases-numbers l = length l.text - l.at
