use Rattle.ae_ordered_rounds.proofs.Asking.{where_true}
use Rattle.ae_ordered_rounds.proofs.meeting.if_denied.Goals as goal

pub open_numbers-requires : goal.open_numbers-requires
open_numbers-requires c = record { denied = where_true _ _ c.in_ok-denied.denied c.if-denied.true c.in_ok-denied.ensures }

pub returns-then-denied : goal.returns-then-denied
returns-then-denied c = c.open_numbers.ensures
