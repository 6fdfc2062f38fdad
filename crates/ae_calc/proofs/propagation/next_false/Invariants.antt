use Rattle.std.proofs.Common.{◌≡◌, drop}
use Rattle.ae_rules.specs.Clauses as spec
use Rattle.ae_calc.proofs.propagation.next_false.Given as goal

abbrev pub invariant-loop-i : goal.invariant-loop-i
invariant-loop-i l = spec.next_false l.falsified (drop l.i l.clause) ≡ spec.next_false l.falsified l.clause
