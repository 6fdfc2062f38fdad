use Rattle.ae_pmap.specs.Forest.{present}
use Rattle.ae_pmap.specs.Pairs.{found}
use Rattle.ae_monoid.specs.Inner.Indexes.{hiding}
use Rattle.ae_monoid.proofs.Walks.{IsWalking}
use Rattle.ae_monoid.proofs.finding.first_on.Given as goal

abbrev pub invariant-loop-at : goal.invariant-loop-at
invariant-loop-at g l = IsWalking (hiding (found (present l.kept)) l.but) l.links l.head l.at l.symbol l.names l.initial.steps l.steps

abbrev pub decreases-loop-at : goal.decreases-loop-at
decreases-loop-at g l = l.at
