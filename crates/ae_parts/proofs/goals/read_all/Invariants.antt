use Rattle.std.proofs.Common.{◌≤◌, length, drop}
use Rattle.ae_parts.proofs.PartReading.{PartsSoFar}
use Rattle.ae_parts.proofs.goals.read_all.Given as goal

abbrev pub invariant-loop-name : goal.invariant-loop-name
invariant-loop-name l = (l.at ≤ length l.text) × PartsSoFar l.tables.terms.signature.now l.names l.text (drop l.name-index l.names) l.at l.parts
