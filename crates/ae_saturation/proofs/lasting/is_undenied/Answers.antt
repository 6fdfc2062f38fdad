use Rattle.std.proofs.Common.{refl, sym, ◌∙◌, arith}
use Rattle.ae_base.proofs.Tests.{false_true, true_false}
use Rattle.ae_literals.specs.declared.said.Said.{Said}
use Rattle.ae_saturation.specs.Lasting.{Denies}
use Rattle.ae_saturation.proofs.Looking.{said_is, said_within, below_next}
use Rattle.ae_saturation.proofs.lasting.is_undenied.Goals as goal

pub denies-denied-requires-clause-name : goal.denies-denied-requires-clause-name
denies-denied-requires-clause-name c = c.requires.name

pub denies-denied-requires-clause-said : goal.denies-denied-requires-clause-said
denies-denied-requires-clause-said c = said_within c.args.store.now c.args.held.now c.requires.taken c.loop-place.place c.loop-place-test.true c.said_at-said.result c.said_at-said.ensures

pub loop-place-init : goal.loop-place-init
loop-place-init c k y i l e = absurd (omega (arith, l))

pub returns-then-denied : goal.returns-then-denied
returns-then-denied c = (
  λ t. absurd (false_true t),
  λ none. absurd (none (record {
    place = c.loop-place.place;
    below = c.loop-place-test.true;
    what = c.said_at-said.result;
    there = said_is c.args.store.now c.args.held.now c.requires.taken c.loop-place.place c.loop-place-test.true c.said_at-said.result c.said_at-said.ensures;
    denies = c.denies-denied.ensures.0 c.if-denied.true;
  })),
)

pub loop-place-preserved : goal.loop-place-preserved
loop-place-preserved c k y i l e =
    below_next c.args.held.now (λ (x : Said). ¬ Denies c.args.store.now.nodes c.args.held.now.values c.args.positive c.args.name x) 0 c.loop-place.place c.said_at-said.result c.said_at-said.ensures
    (λ d. true_false (sym (c.denies-denied.ensures.1 d) ∙ c.if-denied.false)) c.loop-place.invariant k y i l e

pub returns : goal.returns
returns c = (λ t d. c.loop-place.invariant d.place d.what (omega arith) (omega (arith, d.below, c.loop-place-test.false, c.loop-place.auto.place-end)) d.there d.denies, λ none. refl)
