use Rattle.std.proofs.Common.{◌≡◌, true, take}
use Rattle.std.specs.List.{list_all}
use Rattle.ae_decide.specs.Reduction.{leaves_right}
use Rattle.ae_decide.proofs.reduction.right_sides_stay.Given as goal

abbrev pub invariant-loop-rule : goal.invariant-loop-rule
invariant-loop-rule l = list_all (λ d. list_all (leaves_right d) l.rules) (take l.rule-index l.rules) ≡ true
