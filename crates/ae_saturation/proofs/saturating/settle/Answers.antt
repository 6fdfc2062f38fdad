use Rattle.std.specs.Prelude.{Result, Err}
use Rattle.std.proofs.Common.{refl, sym, ap, ◌∙◌, subst}
use Rattle.std.proofs.lemmas.Result.{err_from_is_err_and}
use Rattle.ae_theory.specs.declared.theory.Fail.{Fail}
use Rattle.ae_theory.specs.declared.theory.Outcome.{Outcome}
use Rattle.ae_turns.proofs.Budgets.{spends_nothing}
use Rattle.ae_turns.proofs.Steps.{staying_leads}
use Rattle.ae_saturation.specs.Inner.Saturated.{IsSaturated}
use Rattle.ae_saturation.proofs.Sequels.{then_saturated, no_memory_saturated, refused_first}
use Rattle.ae_saturation.proofs.saturating.settle.Goals as goal

pub returns-in_err-constants : goal.returns-in_err-constants
returns-in_err-constants c =
    let s = c.args.store.now in
    let o = c.args.held.now in
    let j = c.args.journal.now in
    let p = err_from_is_err_and c.from_residual.result c.from_residual.ensures.1 in
    subst (λ (r : Result Outcome Fail). IsSaturated s o j r o j) (sym (p.1 ∙ ap (λ (f : Fail). Err f) p.2)) (no_memory_saturated s o o j j (staying_leads s o j c.requires.fits) refl c.in_err-constants.field-0.0)

pub returns-in_err-take_new : goal.returns-in_err-take_new
returns-in_err-take_new c =
    let s = c.args.store.now in
    let o = c.args.held.now in
    let j = c.args.journal.now in
    let u = c.take_new.ensures in
    let p = err_from_is_err_and c.from_residual-in_err-take_new.result c.from_residual-in_err-take_new.ensures.1 in
    subst (λ (r : Result Outcome Fail). IsSaturated s o j r c.take_new.new.held j) (sym (p.1 ∙ ap (λ (f : Fail). Err f) p.2))
    (refused_first s o c.take_new.new.held j c.in_err-take_new.field-0.0 (u.leads j) (λ h. u.steps (c.in_err-take_new.was ∙ ap (λ (f : Fail). Err f) h))
    (λ wide h. u.number wide j.lines (c.in_err-take_new.was ∙ ap (λ (f : Fail). Err f) h) c.requires.step))

pub returns : goal.returns
returns c =
    then_saturated c.args.store.now c.args.held.now c.take_new.new.held c.args.journal.now c.args.journal.now (c.take_new.ensures.leads c.args.journal.now)
    (spends_nothing c.args.store.now c.args.held.now c.take_new.new.held c.args.journal.now.lines c.args.journal.now.lines refl c.in_ok-take_new.ensures.budget) c.turns.result c.turns.new.held c.turns.new.journal c.turns.ensures
