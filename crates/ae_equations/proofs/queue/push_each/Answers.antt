use Rattle.std.proofs.Common.{arith}
use Rattle.ae_equations.proofs.QueueLaws.{pushing_none, pushing_more, pushing_all}
use Rattle.ae_equations.proofs.queue.push_each.Goals as goal

pub loop-pair-init : goal.loop-pair-init
loop-pair-init c = (pushing_none c.args.queue.now c.args.pairs.now c.requires.placed, λ root map s. s)

pub loop-pair-preserved : goal.loop-pair-preserved
loop-pair-preserved c = (
  pushing_more c.args.queue.now c.loop-pair.queue c.push_waiting.new.queue c.args.pairs.now c.loop-pair.pair-index c.pair-item.result c.in_ok-equation.equation c.loop-pair-test.true c.pair-item.is
      c.in_ok-equation.ensures c.loop-pair.invariant.0 c.push_waiting.ensures.placed c.in_ok-push_waiting.ensures.ok,
  λ root map s. c.push_waiting.ensures.lasts root map (c.loop-pair.invariant.1 root map s),
)

pub returns-in_err-push_waiting-clause-lasts : goal.returns-in_err-push_waiting-clause-lasts
returns-in_err-push_waiting-clause-lasts c = λ root map s. c.push_waiting.ensures.lasts root map (c.loop-pair.invariant.1 root map s)

pub returns-clause-ok : goal.returns-clause-ok
returns-clause-ok c = pushing_all c.args.queue.now c.loop-pair.queue c.args.pairs.now c.loop-pair.pair-index c.loop-pair.invariant.0 (omega (arith, c.loop-pair-test.false))
