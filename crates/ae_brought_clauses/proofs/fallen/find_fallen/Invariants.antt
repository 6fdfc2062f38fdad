use Rattle.ae_brought_clauses.proofs.Places.{AreNotAgedBelow}
use Rattle.ae_brought_clauses.proofs.fallen.find_fallen.Given as goal

abbrev pub invariant-loop-at : goal.invariant-loop-at
invariant-loop-at l = AreNotAgedBelow l.opened l.generation l.ages l.at l.places
