use Rattle.std.proofs.Common.{◌≡◌, take}
use Rattle.ae_state_steps.specs.ValueSteps.{times_of}
use Rattle.ae_value_steps.proofs.adding.summands.Given as goal

abbrev pub invariant-loop-part : goal.invariant-loop-part
invariant-loop-part l = l.sum ≡ times_of (take l.part-index l.part-items)
