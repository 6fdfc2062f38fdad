use Rattle.std.proofs.Common.{◌≡◌, take}
use Rattle.ae_formula_sizes.specs.Inner.Counted as spec
use Rattle.ae_formula_sizes.proofs.sizes.size_of_triggers.Given as goal

abbrev pub invariant-loop-trigger : goal.invariant-loop-trigger
invariant-loop-trigger l = l.size ≡ spec.size_of_triggers (take l.trigger-index l.triggers)
