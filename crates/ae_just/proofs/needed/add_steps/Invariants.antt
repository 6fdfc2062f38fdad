use Rattle.std.proofs.Common.{take}
use Rattle.std.specs.BTreeSet.{keys}
use Rattle.ae_just.specs.Inner.Pending.{AreJoined}
use Rattle.ae_just.proofs.needed.add_steps.Given as goal

abbrev pub invariant-loop-step : goal.invariant-loop-step
invariant-loop-step l = AreJoined (keys l.fn.pending) (take l.step-index l.steps) (keys l.pending)
