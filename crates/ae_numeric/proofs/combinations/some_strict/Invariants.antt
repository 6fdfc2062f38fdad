use Rattle.std.proofs.Common.{◌≡◌, false, take}
use Rattle.std.specs.List.{list_any}
use Rattle.ae_numeric.specs.Inner.Sums as spec
use Rattle.ae_numeric.proofs.combinations.some_strict.Given as goal

abbrev pub invariant-loop-part : goal.invariant-loop-part
invariant-loop-part l = list_any (spec.is_strict_part l.earlier) (take l.part-index l.parts) ≡ false
