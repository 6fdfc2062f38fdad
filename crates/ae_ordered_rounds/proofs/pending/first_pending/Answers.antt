use Rattle.std.specs.Prelude.{Option, IfSome}
use Rattle.std.proofs.Common.{subst}
use Rattle.ae_ordered_rounds.proofs.Asking.{AreOpenIn}
use Rattle.ae_tight_sides.specs.declared.sides.Sides.{Sides}
use Rattle.ae_ordered_rounds.proofs.pending.first_pending.Goals as goal

pub returns-in-Some : goal.returns-in-Some
returns-in-Some c = subst (λ (o : Option Sides). IfSome o (AreOpenIn c.args.trail.now.assigned)) c.in-Some.is c.in_ok-found.ensures
