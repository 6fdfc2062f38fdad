use Rattle.std.proofs.Common.{subst}
use Rattle.ae_ordered_rounds.proofs.Denied.{denied_is}
use Rattle.ae_propagation.specs.Settled.{Holds}
use Rattle.ae_ordered_rounds.proofs.meeting.meeting_by.Goals as goal

pub meeting_of-requires-clause-normal : goal.meeting_of-requires-clause-normal
meeting_of-requires-clause-normal c = c.requires.normal

pub meeting_of-requires-clause-denied : goal.meeting_of-requires-clause-denied
meeting_of-requires-clause-denied c =
    subst (Holds c.args.trail.now.assigned) (denied_is c.args.literal.now c.in-Some.sides.left.now c.in-Some.sides.right.now c.in-Some.ensures.some) c.requires.holds

pub returns-in-Some : goal.returns-in-Some
returns-in-Some c = c.meeting_of.ensures
