use Rattle.std.proofs.Common.{arith}
use Rattle.ae_pmap.specs.Forest.{present}
use Rattle.ae_pmap.specs.Pairs.{found}
use Rattle.ae_monoid.specs.Inner.Indexes.{hiding}
use Rattle.ae_monoid.specs.declared.chains.Link.{Link}
use Rattle.ae_monoid.proofs.ChainLaws.{next_before}
use Rattle.ae_monoid.proofs.Walks.{walk_none, walk_more, testing_more, tested, all_unfit}
use Rattle.ae_monoid.proofs.finding.first_on.Goals as goal

abbrev blank : Link
blank = record { number = 0; next = 0 }

pub loop-at-init : goal.loop-at-init
loop-at-init g c = walk_none (hiding (found (present c.args.kept.now)) c.args.but) c.args.links.now c.args.head c.args.symbol.now c.args.names.now c.args.steps.now c.requires.within

pub fits_but-requires-clause-rule : goal.fits_but-requires-clause-rule
fits_but-requires-clause-rule g c = λ k e. c.requires.rules _ k e

pub loop-at-smaller : goal.loop-at-smaller
loop-at-smaller g c =
    let n = next_before c.args.links.now c.loop-at.at blank c.requires.linked (omega (arith, c.loop-at-test.true)) c.loop-at.invariant.testing.within in
    omega (arith, n, c.loop-at-test.true)

pub loop-at-preserved : goal.loop-at-preserved
loop-at-preserved g c =
    walk_more (hiding (found (present c.args.kept.now)) c.args.but) c.args.links.now c.args.head c.loop-at.at c.args.symbol.now blank c.args.steps.now c.loop-at.steps c.fits_but.new.steps c.requires.linked
    (omega (arith, c.loop-at-test.true))
    c.fits_but.ensures.steps c.args.names.now c.if-fits_but.ensures.fit c.loop-at.invariant

pub returns-then-fits_but-clause-tested : goal.returns-then-fits_but-clause-tested
returns-then-fits_but-clause-tested g c =
    tested (hiding (found (present c.args.kept.now)) c.args.but) c.args.links.now c.args.head _ c.args.symbol.now c.args.steps.now c.fits_but.new.steps
    (testing_more (hiding (found (present c.args.kept.now)) c.args.but) c.args.links.now c.args.head c.loop-at.at c.args.symbol.now blank c.args.steps.now c.loop-at.steps c.fits_but.new.steps c.requires.linked
    (omega (arith, c.loop-at-test.true)) c.fits_but.ensures.steps c.loop-at.invariant.testing)

pub returns-clause-none : goal.returns-clause-none
returns-clause-none g c =
    all_unfit (hiding (found (present c.args.kept.now)) c.args.but) c.args.links.now c.args.head c.loop-at.at c.args.symbol.now c.args.names.now c.args.steps.now c.loop-at.steps c.loop-at.invariant (omega (arith, c.loop-at-test.false))

pub returns-clause-tested : goal.returns-clause-tested
returns-clause-tested g c =
    tested (hiding (found (present c.args.kept.now)) c.args.but) c.args.links.now c.args.head c.loop-at.at c.args.symbol.now c.args.steps.now c.loop-at.steps c.loop-at.invariant.testing
