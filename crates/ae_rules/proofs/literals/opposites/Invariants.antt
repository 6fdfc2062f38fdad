use Rattle.std.proofs.Common.{◌≡◌, take, map}
use Rattle.ae_rules.specs.Clauses as spec
use Rattle.ae_rules.proofs.literals.opposites.Given as goal

abbrev pub invariant-loop-lit : goal.invariant-loop-lit
invariant-loop-lit l = l.clause ≡ map spec.opposite (take l.lit-index l.lits)
