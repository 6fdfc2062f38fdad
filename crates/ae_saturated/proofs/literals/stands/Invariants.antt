use Rattle.std.proofs.Common.{◌≡◌, false, take}
use Rattle.ae_rules.specs.Clauses.{stands}
use Rattle.ae_saturated.proofs.literals.stands.Given as goal

abbrev pub invariant-loop-literal : goal.invariant-loop-literal
invariant-loop-literal l = stands (take l.literal-index l.literals) l.wanted ≡ false
