use Rattle.std.proofs.Common.{◌≡◌, true, take}
use Rattle.std.specs.List.{list_all}
use Rattle.ae_rules.specs.Clauses as spec
use Rattle.ae_calc.proofs.propagation.all_stand.Given as goal

abbrev pub invariant-loop-lit : goal.invariant-loop-lit
invariant-loop-lit l = list_all (spec.stands l.falsified) (take l.lit-index l.clause) ≡ true
