use Rattle.std.proofs.Common.{◌≡◌, true, take}
use Rattle.std.specs.List.{list_all}
use Rattle.ae_core.specs.Sorts as spec
use Rattle.ae_core.proofs.sorts.triggers_ok.Given as goal

abbrev pub invariant-loop-trigger : goal.invariant-loop-trigger
invariant-loop-trigger l = list_all (list_all (spec.trigger_ok l.signature (spec.is_closed_sort l.signature) l.env)) (take l.trigger-index l.triggers) ≡ true
