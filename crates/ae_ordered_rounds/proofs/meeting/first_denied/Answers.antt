use Rattle.std.specs.Prelude.{Option, IfSome}
use Rattle.std.proofs.Common.{subst}
use Rattle.ae_ordered_rounds.specs.Inner.Meeting.{IsMeeting}
use Rattle.ae_tight_sides.specs.declared.sides.Sides.{Sides}
use Rattle.ae_ordered_rounds.proofs.meeting.first_denied.Goals as goal

pub returns-in-Some : goal.returns-in-Some
returns-in-Some c = subst (λ (o : Option Sides). IfSome o (IsMeeting c.args.signature.now c.args.trail.now.assigned)) c.in-Some.is c.in_ok-found.ensures
