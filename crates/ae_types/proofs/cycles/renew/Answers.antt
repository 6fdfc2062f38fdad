use Rattle.std.proofs.Common.{◌≢◌, subst, arith}
use Rattle.ae_types.specs.declared.cycles.Mark.TheVariants.{New}
use Rattle.ae_types.specs.Inner.Walks.{mark_at}
use Rattle.ae_types.proofs.OrderLaws.{others_past, others_set}
use Rattle.ae_types.proofs.cycles.renew.Goals as goal

pub returns-then-place-len-clause-others : goal.returns-then-place-len-clause-others
returns-then-place-len-clause-others c = λ i h.
    others_set c.args.marks.now c.args.place i (omega (arith, c.if-place-len.true, c.len.ensures)) (subst (λ ms. mark_at ms i ≢ New) c.set.ensures h)

pub returns-else-place-len-clause-others : goal.returns-else-place-len-clause-others
returns-else-place-len-clause-others c = λ i h. others_past c.args.marks.now c.args.place i (omega (arith, c.if-place-len.false, c.len.ensures)) h
