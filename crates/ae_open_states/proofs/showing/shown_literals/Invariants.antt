use Rattle.std.proofs.Common.{◌≡◌, take}
use Rattle.ae_open_states.proofs.showing.shown_literals.Given as goal
use Rattle.ae_open_states.specs.Shown.{trail_literals}

abbrev pub invariant-loop-assigned : goal.invariant-loop-assigned
invariant-loop-assigned l = l.literals ≡ trail_literals (take l.assigned-index l.assigned-items)
