use Rattle.std.proofs.Common.{◌≡◌, drop, length}
use Rattle.ae_rules.specs.Clauses as spec
use Rattle.ae_calc.proofs.propagation.refutes.Given as goal

abbrev pub invariant-loop-i : goal.invariant-loop-i
invariant-loop-i l = (l.count ≡ length l.hinted) × (spec.refutes l.falsified (drop l.i l.hinted) ≡ spec.refutes l.clause l.hinted)
