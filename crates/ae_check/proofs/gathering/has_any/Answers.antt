use Rattle.std.proofs.Common.{◌+◌, sym, ◌∙◌, refl}
use Rattle.ae_check.proofs.Novel.{any_more, any_found, was_found}
use Rattle.ae_check.proofs.gathering.has_any.Goals as goal

pub loop-i-init : goal.loop-i-init
loop-i-init c = refl

pub loop-i-preserved : goal.loop-i-preserved
loop-i-preserved c =
    any_more c.args.constants.now c.args.first c.args.sorts.now c.loop-i.i c.index-sorts-i.result c.loop-i-test.true c.loop-i.invariant
    (was_found c.args.constants.now c.in_ok-constant.constant (c.args.first + c.loop-i.i) _ _ c.contains.result c.in_ok-constant.ensures c.index-sorts-i.is c.contains.ensures ∙ c.if-contains.false)

pub returns-then-contains : goal.returns-then-contains
returns-then-contains c =
    sym (any_found c.args.constants.now c.args.first c.args.sorts.now c.loop-i.i c.index-sorts-i.result c.loop-i-test.true
    (was_found c.args.constants.now c.in_ok-constant.constant (c.args.first + c.loop-i.i) _ _ c.contains.result c.in_ok-constant.ensures c.index-sorts-i.is c.contains.ensures ∙ c.if-contains.true))
