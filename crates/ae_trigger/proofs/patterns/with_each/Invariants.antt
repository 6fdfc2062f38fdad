use Rattle.std.proofs.Common.{◌≡◌, take, map}
use Rattle.ae_trigger.specs.Patterns as spec
use Rattle.ae_trigger.proofs.patterns.with_each.Given as goal

abbrev pub invariant-loop-trigger : goal.invariant-loop-trigger
invariant-loop-trigger l = l.patterns ≡ map (spec.pattern l.sort_vars l.sorts) (take l.trigger-index l.triggers)
