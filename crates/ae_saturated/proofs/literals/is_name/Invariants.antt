use Rattle.std.proofs.Common.{◌≡◌, false, take}
use Rattle.ae_decide.specs.Names.{stands_in}
use Rattle.ae_saturated.proofs.literals.is_name.Given as goal

abbrev pub invariant-loop-name : goal.invariant-loop-name
invariant-loop-name l = stands_in (take l.name-index l.names) l.term ≡ false
