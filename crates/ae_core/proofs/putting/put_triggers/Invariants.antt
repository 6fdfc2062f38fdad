use Rattle.std.proofs.Common.{◌≡◌, take, map}
use Rattle.ae_core.specs.Putting.{put_terms}
use Rattle.ae_core.proofs.putting.put_triggers.Given as goal

abbrev pub invariant-loop-trigger : goal.invariant-loop-trigger
invariant-loop-trigger l = l.copies ≡ map (map (put_terms l.inner l.terms)) (take l.trigger-index l.triggers)
