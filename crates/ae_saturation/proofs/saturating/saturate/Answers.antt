use Rattle.std.specs.Prelude.{Ok}
use Rattle.std.proofs.Common.{refl}
use Rattle.ae_base.proofs.Tests.{not_both}
use Rattle.ae_theory.specs.declared.theory.Outcome.{Outcome}
use Rattle.ae_theory.specs.declared.theory.Outcome.TheVariants.{Complete}
use Rattle.ae_turns.proofs.Budgets.{within_still}
use Rattle.ae_turns.proofs.Steps.{staying_leads}
use Rattle.ae_saturation.proofs.saturating.saturate.Goals as goal

pub returns-then-lasting-clause-leads : goal.returns-then-lasting-clause-leads
returns-then-lasting-clause-leads c = staying_leads c.args.store.now c.args.held.now c.args.journal.now c.requires.fits

pub returns-then-lasting-clause-taken : goal.returns-then-lasting-clause-taken
returns-then-lasting-clause-taken c = c.has_lasted-lasting.ensures.taken c.if-lasting.true

pub returns-then-lasting-clause-step : goal.returns-then-lasting-clause-step
returns-then-lasting-clause-step c = c.requires.step

pub returns-then-lasting-clause-complete : goal.returns-then-lasting-clause-complete
returns-then-lasting-clause-complete c e = c.has_lasted-lasting.ensures.complete c.if-lasting.true

pub returns-then-lasting-clause-conflict : goal.returns-then-lasting-clause-conflict
returns-then-lasting-clause-conflict c k e = absurd (cc e)

pub returns-then-lasting-clause-steps : goal.returns-then-lasting-clause-steps
returns-then-lasting-clause-steps c e = absurd (cc e)

pub returns-then-lasting-clause-number : goal.returns-then-lasting-clause-number
returns-then-lasting-clause-number c wide e = absurd (cc e)

pub returns-then-lasting-clause-budget : goal.returns-then-lasting-clause-budget
returns-then-lasting-clause-budget c =
    let ls = c.args.journal.now.lines in
    within_still c.args.store.now c.args.held.now c.args.held.now ls ls refl Outcome (Ok Complete) (λ n h. h) (λ e. cc e)

pub returns-then-lasting-clause-lasts : goal.returns-then-lasting-clause-lasts
returns-then-lasting-clause-lasts c count known taken met = (refl, refl, refl)

pub returns-clause-leads : goal.returns-clause-leads
returns-clause-leads c = c.settle.ensures.leads

pub returns-clause-taken : goal.returns-clause-taken
returns-clause-taken c = c.settle.ensures.taken

pub returns-clause-step : goal.returns-clause-step
returns-clause-step c = c.settle.ensures.step

pub returns-clause-complete : goal.returns-clause-complete
returns-clause-complete c e = c.settle.ensures.complete e

pub returns-clause-conflict : goal.returns-clause-conflict
returns-clause-conflict c k e = c.settle.ensures.conflict k e

pub returns-clause-steps : goal.returns-clause-steps
returns-clause-steps c e = c.settle.ensures.steps e

pub returns-clause-number : goal.returns-clause-number
returns-clause-number c wide e = c.settle.ensures.number wide e

pub returns-clause-budget : goal.returns-clause-budget
returns-clause-budget c = c.settle.ensures.budget

pub returns-clause-lasts : goal.returns-clause-lasts
returns-clause-lasts c count known taken met = not_both c.has_lasted-lasting.result (c.has_lasted-lasting.ensures.lasts count known taken met) c.if-lasting.false
