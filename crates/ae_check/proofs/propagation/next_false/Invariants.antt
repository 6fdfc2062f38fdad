use Rattle.std.proofs.Common.{◌≡◌, drop}
use Rattle.ae_check.specs.Inner.Coding as spec
use Rattle.ae_check.proofs.propagation.next_false.Given as goal

abbrev pub invariant-loop-i : goal.invariant-loop-i
invariant-loop-i l = spec.next_false l.now l.stamps (drop l.i l.codes) ≡ spec.next_false l.now l.stamps l.codes
