use Rattle.std.proofs.Common.{◌≡◌, take}
use Rattle.ae_core.proofs.copies.copy_triggers.Given as goal

abbrev pub invariant-loop-trigger : goal.invariant-loop-trigger
invariant-loop-trigger l = l.copies ≡ take l.trigger-index l.triggers
