use Rattle.std.proofs.Common.{◌≡◌, length, subst, arith}
use Rattle.ae_sweeps.specs.Given.{rep_in}
use Rattle.ae_sweeps.specs.Inner.Entered.{AreEqual}
use Rattle.ae_sweeps.proofs.AlikeNames.{none_entered}
use Rattle.ae_sweeps.proofs.congruences.first_unequal.Goals as goal

pub loop-name-init : goal.loop-name-init
loop-name-init c =
    none_entered c.args.store.now.signature c.args.store.now.nodes (rep_in c.args.reps.now) c.new-table.result
    (c.new-table.ensures.fits c.args.store.now.nodes) c.new-table.ensures.empty

pub returns-clause-none : goal.returns-clause-none
returns-clause-none c =
    let e : c.loop-name.name ≡ length c.args.store.now.nodes =
    omega (arith, c.loop-name-test.false, c.loop-name.auto.name-end, c.len-name-end.ensures.len) in
    subst (AreEqual c.args.store.now.signature c.args.store.now.nodes (rep_in c.args.reps.now)) e c.loop-name.invariant.equal

pub returns-in-Some-clause-some : goal.returns-in-Some-clause-some
returns-in-Some-clause-some c = λ rules. rw c.in-Some.is at (c.in_ok-gap.ensures.some rules)
