use Rattle.ae_trigger.specs.Inner.Choices as spec
use Rattle.ae_trigger.proofs.KeptLaws.{kept_step}
use Rattle.ae_trigger.proofs.choice.smallest.Goals as goal

pub loop-term-preserved : goal.loop-term-preserved
loop-term-preserved c =
    kept_step (spec.is_smallest c.args.terms.now) c.args.terms.now c.loop-term.term-index c.term-item.result c.term-item.result c.is_smallest.result c.loop-term.kept c.keep_where.new.kept
    c.loop-term-test.true c.loop-term.invariant c.term-item.is c.is_smallest.ensures c.in_ok-keep_where.ensures
