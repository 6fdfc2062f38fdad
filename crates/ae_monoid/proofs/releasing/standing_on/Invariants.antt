use Rattle.ae_pmap.specs.Forest.{present}
use Rattle.ae_pmap.specs.Pairs.{found}
use Rattle.ae_monoid.proofs.Listings.{AreStanding}
use Rattle.ae_monoid.proofs.releasing.standing_on.Given as goal

abbrev pub invariant-loop-at : goal.invariant-loop-at
invariant-loop-at l = AreStanding (found (present l.kept)) l.links l.head l.at l.numbers.items

abbrev pub decreases-loop-at : goal.decreases-loop-at
decreases-loop-at l = l.at
