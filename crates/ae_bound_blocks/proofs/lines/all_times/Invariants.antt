use Rattle.std.proofs.Common.{◌≡◌, take}
use Rattle.ae_state_steps.specs.ValueSteps.{times_of}
use Rattle.ae_bound_blocks.proofs.lines.all_times.Given as goal

abbrev pub invariant-loop-part : goal.invariant-loop-part
invariant-loop-part l = l.all ≡ times_of (take l.part-index l.parts)
