use Rattle.ae_elab.proofs.UnknownLaws.{comes_next, comes_whole}
use Rattle.ae_elab.proofs.term_steps.unknowns.Goals as goal

pub more-preserved : goal.more-preserved
more-preserved c = comes_next c.args.count c.more._place c.args.passing.now c.more.passing c.fresh.new.self c.more.sorts c.push.new.self c.in_ok-number.number c.more-test.true c.in_ok-number.ensures c.in_ok-push.ensures.ok c.more.invariant

pub returns : goal.returns
returns c = comes_whole c.args.count c.more._place c.args.passing.now c.more.passing c.more.sorts c.more-test.false c.more.invariant
