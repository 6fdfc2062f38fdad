use Rattle.std.specs.Prelude.{Result, Err}
use Rattle.std.proofs.Common.{refl, sym, ap, ◌∙◌, subst}
use Rattle.std.proofs.lemmas.Result.{err_from_is_err_and}
use Rattle.ae_theory.specs.declared.theory.Fail.{Fail}
use Rattle.ae_turns.specs.declared.found.Found.{Found}
use Rattle.ae_turns.specs.Representing.{AreRepresentatives}
use Rattle.ae_turns.proofs.Budgets.{spends_nothing}
use Rattle.ae_turns.proofs.Steps.{staying_leads}
use Rattle.ae_saturation.specs.Inner.Turned.{IsTurned}
use Rattle.ae_saturation.proofs.Sequels.{then_turned, no_memory_turned}
use Rattle.ae_saturation.proofs.turning.turn.Goals as goal

pub returns-in_err-reps-clause-turned : goal.returns-in_err-reps-clause-turned
returns-in_err-reps-clause-turned c =
    let s = c.args.store.now in
    let o = c.args.held.now in
    let j = c.args.journal.now in
    let p = err_from_is_err_and c.from_residual.result c.from_residual.ensures.1 in
    subst (λ (r : Result Found Fail). IsTurned s o j r o j) (sym (p.1 ∙ ap (λ (f : Fail). Err f) p.2)) (no_memory_turned s o o j j (staying_leads s o j (c.requires.taken).fits) refl c.in_err-reps.field-0.0)

pub keep_up-requires-clause-reps : goal.keep_up-requires-clause-reps
keep_up-requires-clause-reps c =
    subst (AreRepresentatives c.args.held.now) (sym c.as_slice.ensures.value) (record { one_each = c.in_ok-reps.ensures.one_each; least = c.in_ok-reps.ensures.least })

pub returns-in_err-keep_up-clause-turned : goal.returns-in_err-keep_up-clause-turned
returns-in_err-keep_up-clause-turned c =
    let s = c.args.store.now in
    let p = err_from_is_err_and c.from_residual-in_err-keep_up.result c.from_residual-in_err-keep_up.ensures.1 in
    subst (λ (r : Result Found Fail). IsTurned s c.args.held.now c.args.journal.now r c.keep_up.new.held c.keep_up.new.journal) (sym (p.1 ∙ ap (λ (f : Fail). Err f) p.2))
    (no_memory_turned s c.args.held.now c.keep_up.new.held c.args.journal.now c.keep_up.new.journal c.keep_up.ensures.leads c.keep_up.ensures.counted c.in_err-keep_up.field-0.0)

pub returns-clause-turned : goal.returns-clause-turned
returns-clause-turned c =
    then_turned c.args.store.now c.args.held.now c.keep_up.new.held c.args.journal.now c.keep_up.new.journal c.keep_up.ensures.leads
    (spends_nothing c.args.store.now c.args.held.now c.keep_up.new.held c.args.journal.now.lines c.keep_up.new.journal.lines c.keep_up.ensures.counted c.keep_up.ensures.budget) c.take_up.result c.take_up.new.held c.take_up.new.journal c.take_up.ensures.turned
