use Rattle.std.proofs.Common.{◌≡◌, true, take}
use Rattle.ae_rules.specs.Derivations as spec
use Rattle.ae_calc.proofs.clause_lines.clause_ok.Given as goal

abbrev pub invariant-loop-lit : goal.invariant-loop-lit
invariant-loop-lit l = spec.clause_ok l.signature (take l.lit-index l.clause) ≡ true
