use Rattle.std.proofs.Common.{arith, inr}
use Rattle.std.proofs.lemmas.List.Sorted.{IsNonDecreasingBy-from_sort, Contains-permutation}
use Rattle.ae_linear.specs.declared.occurrences.Link.{Link}
use Rattle.ae_linear.proofs.Links.{all_met, walked, next_before}
use Rattle.ae_linear.proofs.occurrences.listed.Goals as goal

abbrev blank : Link
blank = record { row = 0; next = 0 }

pub loop-at-init : goal.loop-at-init
loop-at-init c = record { within = c.head_of-at.ensures.within; all = λ row o. inr o }

pub loop-at-preserved : goal.loop-at-preserved
loop-at-preserved c =
    let at = c.loop-at.at in
    let i = c.loop-at.invariant in
    record {
      within = (let n = next_before c.args.links.now at blank c.requires.linked (omega (arith, c.loop-at-test.true)) i.within in omega (arith, n, i.within));
      all = walked c.args.links.now c.loop-at.rows.items c.push.new.self.items c.head_of-at.result at blank i.within i.all c.in_ok-push.ensures.items;
    }

pub loop-at-smaller : goal.loop-at-smaller
loop-at-smaller c =
    let n = next_before c.args.links.now c.loop-at.at blank c.requires.linked (omega (arith, c.loop-at-test.true)) c.loop-at.invariant.within in
    omega (arith, n, c.loop-at-test.true)

pub returns-clause-all : goal.returns-clause-all
returns-clause-all c = λ row o.
    Contains-permutation c.loop-at.rows.items c.sort_unstable.new.self.items row c.sort_unstable.ensures.permutation
    (all_met c.args.links.now c.loop-at.rows.items c.loop-at.at row (omega (arith, c.loop-at-test.false)) (c.loop-at.invariant.all row (c.head_of-at.ensures.all row o)))

pub returns-clause-rises : goal.returns-clause-rises
returns-clause-rises c = IsNonDecreasingBy-from_sort (λ x. x) c.sort_unstable.new.self.items c.sort_unstable.ensures.sorted
