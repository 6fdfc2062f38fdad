use Rattle.std.proofs.Common.{◌≡◌, true, take}
use Rattle.std.specs.List.{list_all}
use Rattle.ae_decide.specs.Leaves.{has_factor}
use Rattle.ae_decide.proofs.leaves.have_factors.Given as goal

abbrev pub invariant-loop-part : goal.invariant-loop-part
invariant-loop-part l = list_all has_factor (take l.part-index l.parts) ≡ true
