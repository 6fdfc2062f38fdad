use Rattle.std.proofs.Common.{◌≡◌, drop}
use Rattle.ae_check.specs.Inner.Coding as spec
use Rattle.ae_check.proofs.propagation.falsify.Given as goal

abbrev pub invariant-loop-i : goal.invariant-loop-i
invariant-loop-i l = spec.all_stamped l.now l.stamps.items (drop l.i l.codes) ≡ spec.all_stamped l.now l.fn.stamps.items l.codes
