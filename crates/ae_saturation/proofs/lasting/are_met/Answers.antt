use Rattle.std.proofs.Common.{refl, sym, ◌∙◌, arith}
use Rattle.ae_base.proofs.Tests.{false_true, true_false}
use Rattle.ae_saturation.specs.Lasting.{IsMet}
use Rattle.ae_saturation.proofs.Looking.{said_is, said_within, below_next}
use Rattle.ae_saturation.proofs.lasting.are_met.Goals as goal

pub is_met-met-requires-clause-taken : goal.is_met-met-requires-clause-taken
is_met-met-requires-clause-taken c = c.requires.taken

pub is_met-met-requires-clause-said : goal.is_met-met-requires-clause-said
is_met-met-requires-clause-said c = said_within c.args.store.now c.args.held.now c.requires.taken c.loop-place.place c.loop-place-test.true c.said_at-said.result c.said_at-said.ensures

pub loop-place-init : goal.loop-place-init
loop-place-init c k y i l e = absurd (omega (arith, i, l))

pub returns-then-not-met : goal.returns-then-not-met
returns-then-not-met c = (
  λ t. absurd (false_true t),
  λ all. true_false (sym (c.is_met-met.ensures.1 (all c.loop-place.place c.said_at-said.result c.loop-place.auto.place c.loop-place-test.true
      (said_is c.args.store.now c.args.held.now c.requires.taken c.loop-place.place c.loop-place-test.true c.said_at-said.result c.said_at-said.ensures))) ∙ c.if-not-met.true),
)

pub loop-place-preserved : goal.loop-place-preserved
loop-place-preserved c k y i l e =
    below_next c.args.held.now (IsMet c.args.store.now c.args.held.now) c.args.from c.loop-place.place c.said_at-said.result c.said_at-said.ensures
    (c.is_met-met.ensures.0 c.if-not-met.false) c.loop-place.invariant k y i l e

pub returns : goal.returns
returns c = (λ t k y i l e. c.loop-place.invariant k y i (omega (arith, l, c.loop-place-test.false)) e, λ all. refl)
