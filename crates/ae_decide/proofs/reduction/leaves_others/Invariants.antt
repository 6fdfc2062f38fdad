use Rattle.std.proofs.Common.{◌≡◌, true, take}
use Rattle.std.specs.List.{list_all}
use Rattle.ae_decide.specs.Reduction.{are_irreducible}
use Rattle.ae_decide.proofs.reduction.leaves_others.Given as goal

abbrev pub invariant-loop-other : goal.invariant-loop-other
invariant-loop-other l = list_all (are_irreducible l.rule) (take l.other-index l.others) ≡ true
