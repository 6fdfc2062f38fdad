use Rattle.std.proofs.Common.{◌≡◌, true, take}
use Rattle.std.specs.List.{list_all}
use Rattle.ae_saturated.specs.Literals.{is_closed}
use Rattle.ae_saturated.proofs.literals.are_closed.Given as goal

abbrev pub invariant-loop-literal : goal.invariant-loop-literal
invariant-loop-literal l = list_all is_closed (take l.literal-index l.literals) ≡ true
