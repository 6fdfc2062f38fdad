use Rattle.std.specs.Prelude.{ℕ, List}
use Rattle.std.proofs.Common.{sym, subst, arith}
use Rattle.ae_pmap.specs.Forest.{present}
use Rattle.ae_pmap.specs.Pairs.{found}
use Rattle.ae_monoid.specs.declared.chains.Link.{Link}
use Rattle.ae_monoid.proofs.ChainLaws.{next_before}
use Rattle.ae_monoid.proofs.Listings.{AreStanding, standing_none, standing_with, standing_without, standing_all}
use Rattle.ae_monoid.proofs.releasing.standing_on.Goals as goal

abbrev blank : Link
blank = record { number = 0; next = 0 }

pub loop-at-init : goal.loop-at-init
loop-at-init c =
    subst (λ (ns : List ℕ). AreStanding (found (present c.args.kept.now)) c.args.links.now c.args.head c.args.head ns) (sym c.new-numbers.ensures.items)
    (standing_none (found (present c.args.kept.now)) c.args.links.now c.args.head c.requires.within)

pub loop-at-preserved-in_ok-push-in-Some : goal.loop-at-preserved-in_ok-push-in-Some
loop-at-preserved-in_ok-push-in-Some c =
    standing_with (found (present c.args.kept.now)) c.args.links.now c.args.head c.loop-at.at blank c.loop-at.numbers.items c.requires.linked (omega (arith, c.loop-at-test.true)) c.loop-at.invariant
    c.push.new.self.items _ c.in_ok-push-in-Some.ensures.items (sym c.in-Some.ensures.value)

pub loop-at-preserved : goal.loop-at-preserved
loop-at-preserved c =
    standing_without (found (present c.args.kept.now)) c.args.links.now c.args.head c.loop-at.at blank c.loop-at.numbers.items c.requires.linked (omega (arith, c.loop-at-test.true)) c.loop-at.invariant (sym c.in-None.ensures.value)

pub loop-at-smaller : goal.loop-at-smaller
loop-at-smaller c =
    let n = next_before c.args.links.now c.loop-at.at blank c.requires.linked (omega (arith, c.loop-at-test.true)) c.loop-at.invariant.within in
    omega (arith, n, c.loop-at-test.true)

pub loop-at-smaller-in_ok-push-in-Some : goal.loop-at-smaller-in_ok-push-in-Some
loop-at-smaller-in_ok-push-in-Some c =
    let n = next_before c.args.links.now c.loop-at.at blank c.requires.linked (omega (arith, c.loop-at-test.true)) c.loop-at.invariant.within in
    omega (arith, n, c.loop-at-test.true)

pub returns-clause-are : goal.returns-clause-are
returns-clause-are c = standing_all (found (present c.args.kept.now)) c.args.links.now c.args.head c.loop-at.at c.loop-at.numbers.items c.loop-at.invariant (omega (arith, c.loop-at-test.false))
