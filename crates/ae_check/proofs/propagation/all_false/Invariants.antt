use Rattle.std.proofs.Common.{◌≡◌, true, take}
use Rattle.std.specs.List.{list_all}
use Rattle.ae_check.specs.Inner.Coding as spec
use Rattle.ae_check.proofs.propagation.all_false.Given as goal

abbrev pub invariant-loop-code : goal.invariant-loop-code
invariant-loop-code l = list_all (spec.is_false l.now l.stamps) (take l.code-index l.codes) ≡ true
