use Rattle.std.proofs.Common.{◌≡◌, false, take}
use Rattle.std.specs.List.{list_any}
use Rattle.ae_rules.specs.Clauses as spec
use Rattle.ae_calc.proofs.propagation.has_true.Given as goal

abbrev pub invariant-loop-lit : goal.invariant-loop-lit
invariant-loop-lit l = list_any (λ m. spec.stands l.falsified (spec.opposite m)) (take l.lit-index l.clause) ≡ false
