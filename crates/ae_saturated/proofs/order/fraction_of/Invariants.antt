use Rattle.std.proofs.Common.{◌≡◌, drop}
use Rattle.ae_journal.specs.States.{at_point}
use Rattle.ae_saturated.proofs.order.fraction_of.Given as goal

abbrev pub invariant-loop-entry : goal.invariant-loop-entry
invariant-loop-entry l = at_point (drop l.entry-index l.point) l.name ≡ at_point l.point l.name
