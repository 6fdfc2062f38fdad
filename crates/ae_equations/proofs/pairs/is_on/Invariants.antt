use Rattle.ae_equations.proofs.ChainLaws.{IsSeeking}
use Rattle.ae_equations.proofs.pairs.is_on.Given as goal

abbrev pub invariant-loop-at : goal.invariant-loop-at
invariant-loop-at l = IsSeeking l.links l.head l.number l.at

abbrev pub decreases-loop-at : goal.decreases-loop-at
decreases-loop-at l = l.at
