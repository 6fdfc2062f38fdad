use Rattle.std.proofs.Common.{refl, arith}
use Rattle.std.proofs.lemmas.Bool.{false≢true}
use Rattle.ae_equations.specs.declared.pairs.Link.{Link}
use Rattle.ae_equations.proofs.ChainLaws.{link_before, seeking_none, seeking_more, sought, sought_nowhere}
use Rattle.ae_equations.proofs.pairs.is_on.Goals as goal

abbrev blank : Link
blank = record { number = 0; next = 0 }

pub loop-at-init : goal.loop-at-init
loop-at-init c = seeking_none c.args.links.now c.args.head c.args.number c.requires.within

pub loop-at-smaller : goal.loop-at-smaller
loop-at-smaller c =
    let n = link_before c.args.links.now c.loop-at.at blank c.requires.chained (omega (arith, c.loop-at-test.true)) c.loop-at.invariant.within in
    omega (arith, n, c.loop-at-test.true)

pub loop-at-preserved : goal.loop-at-preserved
loop-at-preserved c = seeking_more c.args.links.now c.args.head c.args.number c.loop-at.at blank c.requires.chained (omega (arith, c.loop-at-test.true)) c.loop-at.invariant c.if-link-number.false

pub returns-then-link-number : goal.returns-then-link-number
returns-then-link-number c = (
  λ _. sought c.args.links.now c.args.head c.args.number c.loop-at.at blank c.requires.chained (omega (arith, c.loop-at-test.true)) c.loop-at.invariant c.if-link-number.true,
  λ _. refl,
)

pub returns : goal.returns
returns c = (λ e. absurd (false≢true e), λ t. absurd (sought_nowhere c.args.links.now c.args.head c.args.number c.loop-at.at c.loop-at.invariant (omega (arith, c.loop-at-test.false)) t))
