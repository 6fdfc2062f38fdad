use Rattle.std.proofs.Common.{take}
use Rattle.ae_numeric.specs.Inner.Sums.{IsRunning, facts_of}
use Rattle.ae_numeric.proofs.combinations.sum_of_parts.Given as goal

abbrev pub invariant-loop-part : goal.invariant-loop-part
invariant-loop-part l = IsRunning l.relation (facts_of l.earlier (take l.part-index l.parts)) l.fn.keys l.keys l.sum
