use Rattle.ae_equations.proofs.TakenOut.{IsReleasing}
use Rattle.ae_equations.proofs.stale.stale_out.Given as goal

abbrev pub invariant-loop-name : goal.invariant-loop-name
invariant-loop-name l = IsReleasing l.initial.rules l.rules l.reps l.name l.pairs
