use Rattle.std.proofs.Common.{◌≡◌, false, take}
use Rattle.std.specs.List.{list_any}
use Rattle.ae_rules.specs.Clauses.{stands}
use Rattle.ae_saturated.proofs.literals.some_stand.Given as goal

abbrev pub invariant-loop-literal : goal.invariant-loop-literal
invariant-loop-literal l = list_any (stands l.literals) (take l.literal-index l.clause) ≡ false
