use Rattle.std.proofs.Common.{◌≡◌, true, take}
use Rattle.std.specs.List.{list_all}
use Rattle.ae_numeric.specs.Inner.Sums as spec
use Rattle.ae_numeric.proofs.combinations.all_count.Given as goal

abbrev pub invariant-loop-part : goal.invariant-loop-part
invariant-loop-part l = list_all (spec.may_count l.earlier) (take l.part-index l.parts) ≡ true
