use Rattle.std.proofs.Common.{arith}
use Rattle.ae_bounds.proofs.Sums.{refuted_at}
use Rattle.ae_bounds.proofs.Found.{Refuted, none_at_first, none_so_far, none_at_all, refuted_here, not_refuted}
use Rattle.ae_bounds.proofs.finding.first_refuted.Goals as goal

pub loop-place-init : goal.loop-place-init
loop-place-init c = none_at_first Refuted c.args.rows.now

pub returns-then-is_refuted-clause-some : goal.returns-then-is_refuted-clause-some
returns-then-is_refuted-clause-some c =
    refuted_here c.args.rows.now c.requires.normal c.loop-place.place c.index-rows-place.result c.loop-place-test.true c.index-rows-place.is (c.is_refuted.ensures.yes c.if-is_refuted.true)

pub returns-then-is_refuted-clause-sum : goal.returns-then-is_refuted-clause-sum
returns-then-is_refuted-clause-sum c =
    refuted_at c.args.rows.now c.requires.founded c.loop-place.place
    (refuted_here c.args.rows.now c.requires.normal c.loop-place.place c.index-rows-place.result c.loop-place-test.true c.index-rows-place.is (c.is_refuted.ensures.yes c.if-is_refuted.true))

pub loop-place-preserved : goal.loop-place-preserved
loop-place-preserved c =
    none_so_far Refuted c.loop-place.place c.args.rows.now c.index-rows-place.result c.index-rows-place.is c.loop-place.invariant
    (not_refuted c.args.rows.now c.requires.normal c.loop-place.place c.index-rows-place.result c.loop-place-test.true c.index-rows-place.is (c.is_refuted.ensures.no c.if-is_refuted.false))

pub returns-clause-none : goal.returns-clause-none
returns-clause-none c = none_at_all Refuted c.loop-place.place c.args.rows.now (let t = c.loop-place-test.false in omega (arith, t)) c.loop-place.invariant
