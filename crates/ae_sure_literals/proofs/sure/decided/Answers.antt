use Rattle.std.specs.Prelude.{[], ◌∷◌}
use Rattle.std.proofs.Common.{◌++◌, ◌∙◌, arith}
use Rattle.ae_sure_literals.proofs.Exact.{decided_next}
use Rattle.ae_sure_literals.proofs.sure.decided.Goals as goal

pub loop-assigned-preserved : goal.loop-assigned-preserved
loop-assigned-preserved c =
    c.in_ok-push.ensures.ok ∙ (λ i. c.loop-assigned.invariant i ++ c.decides.ensures i ∷ [])
    ∙ decided_next c.args.trail.now c.loop-assigned.assigned-index c.assigned-item.result (omega arith) c.assigned-item.is
