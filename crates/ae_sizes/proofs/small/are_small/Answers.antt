use Rattle.std.proofs.Common.{arith, ◌∙◌}
use Rattle.ae_elab.specs.Conditions.{shown}
use Rattle.ae_elab.specs.Nodes.{claim_at}
use Rattle.ae_sizes.specs.Inner.Weights.{claim_size}
use Rattle.ae_sizes.proofs.SmallLaws.{small_next, small_all}
use Rattle.ae_sizes.proofs.small.are_small.Goals as goal

pub loop-place-preserved : goal.loop-place-preserved
loop-place-preserved c = λ m es p.
    let i = c.loop-place.place in
    c.in_ok-push.ensures.ok
    ∙ small_next m es c.args.measures.now i c.loop-place.small c.is_within.result p (omega arith)
    (c.is_within.ensures (claim_size (shown m) (claim_at es i)) (c.size_at.ensures (shown m) es p)) (c.loop-place.invariant m es p)

pub returns : goal.returns
returns c = λ m es p. small_all m es c.args.measures.now c.loop-place.place c.loop-place.small p (omega arith) (c.loop-place.invariant m es p)
