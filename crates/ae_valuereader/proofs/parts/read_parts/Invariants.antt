use Rattle.std.proofs.Common.{length, ◌-◌, ◌≤◌}
use Rattle.ae_valuereader.proofs.FormReading.{SoFar}
use Rattle.ae_valuereader.proofs.parts.read_parts.Given as goal

abbrev pub invariant-parts : goal.invariant-parts
invariant-parts l = (l.from ≤ l.at) × (l.from ≤ length l.text → l.at ≤ length l.text) × (1 ≤ l.divisor) × ((some : 1 ≤ l.den) → SoFar l.den some l.size l.text l.from l.divisor l.low l.at l.parts)

abbrev pub decreases-parts : goal.decreases-parts
decreases-parts l = length l.text - l.at
