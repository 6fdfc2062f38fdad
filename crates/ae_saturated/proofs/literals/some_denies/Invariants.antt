use Rattle.std.proofs.Common.{◌≡◌, false, take}
use Rattle.std.specs.List.{list_any}
use Rattle.ae_saturated.specs.Literals.{denies}
use Rattle.ae_saturated.proofs.literals.some_denies.Given as goal

abbrev pub invariant-loop-literal : goal.invariant-loop-literal
invariant-loop-literal l = list_any (denies l.signature l.system l.predicate l.at l.of) (take l.literal-index l.literals) ≡ false
