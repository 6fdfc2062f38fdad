use Rattle.std.proofs.Common.{arith}
use Rattle.ae_bounds.proofs.Sums.{tight_at}
use Rattle.ae_bounds.proofs.Found.{Tight, none_at_first, none_so_far, none_is_zero, tight_here, not_tight}
use Rattle.ae_bounds.proofs.finding.first_tight.Goals as goal

pub loop-place-init : goal.loop-place-init
loop-place-init c = none_at_first Tight c.args.rows.now

pub returns-then-is_tight-clause-some : goal.returns-then-is_tight-clause-some
returns-then-is_tight-clause-some c =
    tight_here c.args.rows.now c.requires.normal c.loop-place.place c.index-rows-place.result c.loop-place-test.true c.index-rows-place.is c.requires.none
    (c.is_tight.ensures.zero c.if-is_tight.true) (c.is_tight.ensures.from c.if-is_tight.true)

pub returns-then-is_tight-clause-sum : goal.returns-then-is_tight-clause-sum
returns-then-is_tight-clause-sum c =
    tight_at c.args.rows.now c.requires.founded c.loop-place.place
    (tight_here c.args.rows.now c.requires.normal c.loop-place.place c.index-rows-place.result c.loop-place-test.true c.index-rows-place.is c.requires.none
    (c.is_tight.ensures.zero c.if-is_tight.true) (c.is_tight.ensures.from c.if-is_tight.true))

pub loop-place-preserved : goal.loop-place-preserved
loop-place-preserved c =
    none_so_far Tight c.loop-place.place c.args.rows.now c.index-rows-place.result c.index-rows-place.is c.loop-place.invariant
    (not_tight c.args.rows.now c.requires.normal c.loop-place.place c.index-rows-place.result c.loop-place-test.true c.index-rows-place.is (c.is_tight.ensures.no c.if-is_tight.false))

pub returns-clause-none : goal.returns-clause-none
returns-clause-none c = none_is_zero c.loop-place.place c.args.rows.now (let t = c.loop-place-test.false in omega (arith, t)) c.loop-place.invariant
