use Rattle.std.proofs.Common.{take}
use Rattle.ae_first_round.specs.Inner.First.{AreAllBrought}
use Rattle.ae_first_round.proofs.naming.bring_clauses.Given as goal

abbrev pub invariant-loop-clause : goal.invariant-loop-clause
invariant-loop-clause l = AreAllBrought l.fn.store l.fn.ages l.store l.ages (take l.clause-index l.clauses)
