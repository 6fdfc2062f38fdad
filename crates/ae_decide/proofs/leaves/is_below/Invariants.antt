use Rattle.std.proofs.Common.{◌≡◌, true, take}
use Rattle.std.specs.List.{list_all}
use Rattle.ae_decide.specs.Leaves.{is_after}
use Rattle.ae_decide.proofs.leaves.is_below.Given as goal

abbrev pub invariant-loop-part : goal.invariant-loop-part
invariant-loop-part l = list_all (is_after l.name) (take l.part-index l.parts) ≡ true
