use Rattle.ae_trim.proofs.Keeping.{AreNumberedTo}
use Rattle.ae_trim.proofs.trim.new_numbers.Given as goal

abbrev pub invariant-loop-i : goal.invariant-loop-i
invariant-loop-i l = AreNumberedTo l.places l.count l.i l.numbers.items
