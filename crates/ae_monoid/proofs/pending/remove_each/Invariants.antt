use Rattle.ae_monoid.proofs.Removing.{AreRemoved}
use Rattle.ae_monoid.proofs.pending.remove_each.Given as goal

abbrev pub invariant-loop-number : goal.invariant-loop-number
invariant-loop-number l = AreRemoved l.initial.kept l.kept l.numbers l.number-index
