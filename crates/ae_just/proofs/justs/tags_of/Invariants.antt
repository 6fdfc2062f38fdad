use Rattle.std.proofs.Common.{◌≡◌, take}
use Rattle.ae_just.specs.Needed.{tags}
use Rattle.ae_just.proofs.justs.tags_of.Given as goal

abbrev pub invariant-loop-step : goal.invariant-loop-step
invariant-loop-step l = l.found ≡ tags l.steps (take l.step-index l.needed)
