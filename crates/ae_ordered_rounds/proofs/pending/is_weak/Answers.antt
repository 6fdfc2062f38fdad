use Rattle.std.proofs.lemmas.Result.{IfOk-weaker}
use Rattle.ae_ordered_rounds.proofs.Asking.{where_true}
use Rattle.ae_ordered_rounds.proofs.Weak.{denied_weak, said_weak}
use Rattle.ae_ordered_rounds.proofs.pending.is_weak.Goals as goal

pub returns-then-denied : goal.returns-then-denied
returns-then-denied c = λ e. denied_weak c.args.trail.now.assigned c.args.both.now (where_true _ _ c.in_ok-denied.denied c.if-denied.true c.in_ok-denied.ensures)

pub returns : goal.returns
returns c = IfOk-weaker c.is_said.result _ _ (λ said h e. said_weak c.args.trail.now.assigned c.args.both.now (where_true _ _ said e h)) c.is_said.ensures
