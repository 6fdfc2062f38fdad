use Rattle.std.proofs.Common.{◌≡◌, true, take}
use Rattle.std.specs.List.{list_all}
use Rattle.ae_rules.specs.Clauses as spec
use Rattle.ae_calc.proofs.propagation.all_settled.Given as goal

abbrev pub invariant-loop-lit : goal.invariant-loop-lit
invariant-loop-lit l = list_all (spec.is_or_stands l.falsified l.single) (take l.lit-index l.clause) ≡ true
