use Rattle.ae_trigger.proofs.KeptLaws.{once_step}
use Rattle.ae_trigger.proofs.kept.once_each.Goals as goal

pub loop-term-preserved : goal.loop-term-preserved
loop-term-preserved c = once_step c.args.terms.now c.loop-term.term-index c.term-item.result c.term-item.result c.loop-term.kept c.keep_new.new.kept c.loop-term-test.true c.loop-term.invariant c.term-item.is c.in_ok-keep_new.ensures
