use Rattle.std.proofs.Common.{◌≡◌, true}
use Rattle.ae_saturated.specs.Literals.{rows_stand}
use Rattle.ae_saturated.proofs.literals.rows_stand.Given as goal

abbrev pub invariant-loop-number : goal.invariant-loop-number
invariant-loop-number l = rows_stand l.literals l.formula l.number ≡ true
