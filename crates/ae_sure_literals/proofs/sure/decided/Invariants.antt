use Rattle.std.specs.Prelude.{◌≡◌, map, take}
use Rattle.ae_sure_literals.specs.Inner.Closing.{is_decision}
use Rattle.ae_sure_literals.proofs.sure.decided.Given as goal

abbrev pub invariant-loop-assigned : goal.invariant-loop-assigned
invariant-loop-assigned l = l.flags ≡ map is_decision (take l.assigned-index l.trail)
