use Rattle.std.proofs.Common.{refl, arith}
use Rattle.ae_monoid.proofs.Removing.{removed_none, removed_more, removed_gone, removed_others}
use Rattle.ae_monoid.proofs.pending.remove_each.Goals as goal

pub loop-number-init : goal.loop-number-init
loop-number-init c = removed_none c.args.kept.now c.args.numbers.now

pub loop-number-preserved : goal.loop-number-preserved
loop-number-preserved c =
    removed_more c.args.kept.now c.loop-number.kept c.remove.new.self c.args.numbers.now c.loop-number.number-index _ refl c.in_ok-remove.ensures.at c.in_ok-remove.ensures.lasts c.loop-number.invariant

pub returns-clause-gone : goal.returns-clause-gone
returns-clause-gone c = removed_gone c.args.kept.now c.loop-number.kept c.args.numbers.now c.loop-number.number-index c.loop-number.invariant (omega (arith, c.loop-number-test.false))

pub returns-clause-others : goal.returns-clause-others
returns-clause-others c = removed_others c.args.kept.now c.loop-number.kept c.args.numbers.now c.loop-number.number-index c.loop-number.invariant (omega (arith, c.loop-number-test.false))

pub returns-in_err-remove-clause-lasts : goal.returns-in_err-remove-clause-lasts
returns-in_err-remove-clause-lasts c = λ root map s. c.in_err-remove.ensures.lasts root map (c.loop-number.invariant.lasts root map s)
