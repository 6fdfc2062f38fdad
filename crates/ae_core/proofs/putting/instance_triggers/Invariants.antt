use Rattle.std.proofs.Common.{◌≡◌, take, map}
use Rattle.ae_core.specs.Putting.{instance_term}
use Rattle.ae_core.proofs.putting.instance_triggers.Given as goal

abbrev pub invariant-loop-trigger : goal.invariant-loop-trigger
invariant-loop-trigger l = l.copies ≡ map (map (instance_term l.sorts)) (take l.trigger-index l.triggers)
