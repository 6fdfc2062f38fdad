use Rattle.std.proofs.lemmas.Result.{IfOk-weaker}
use Rattle.ae_ordered_rounds.proofs.Asking.{sides_open}
use Rattle.ae_ordered_rounds.specs.Inner.Orderable.{IsTrueInequality}
use Rattle.ae_ordered_rounds.proofs.pending.if_pending.Goals as goal

pub returns-then-weak : goal.returns-then-weak
returns-then-weak c =
    let t = c.args.trail.now.assigned in
    IfOk-weaker c.open_copies.result _ _ (λ found h. sides_open (IsTrueInequality t) t c.args.both.now found (c.in_ok-weak.ensures c.if-weak.true) h) c.open_copies.ensures
