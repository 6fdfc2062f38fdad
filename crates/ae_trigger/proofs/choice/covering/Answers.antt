use Rattle.ae_trigger.specs.Inner.Choices as spec
use Rattle.ae_trigger.proofs.KeptLaws.{kept_step}
use Rattle.ae_trigger.proofs.choice.covering.Goals as goal

pub loop-term-preserved : goal.loop-term-preserved
loop-term-preserved c =
    kept_step (spec.has_all c.args.wanted.now) c.args.terms.now c.loop-term.term-index c.term-item.result c.term-item.result c.has_all.result c.loop-term.kept c.keep_where.new.kept
    c.loop-term-test.true c.loop-term.invariant c.term-item.is c.has_all.ensures c.in_ok-keep_where.ensures
