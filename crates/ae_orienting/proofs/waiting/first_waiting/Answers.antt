use Rattle.std.specs.Prelude.{◌≡◌, Ok, Err}
use Rattle.std.proofs.Common.{ap}
use Rattle.std.proofs.lemmas.Result.{err_from_is_err_and}
use Rattle.ae_theory.specs.declared.theory.Fail.TheVariants.{Number}
use Rattle.ae_orienting.proofs.Taking.{giving_none, giving_rights, giving_leads, giving_wide, giving_more}
use Rattle.ae_orienting.proofs.waiting.first_waiting.Goals as goal

pub turns-init : goal.turns-init
turns-init c = giving_none c.args.store.now c.args.reps.now c.args.held.now c.args.journal.now c.requires.taken c.requires.step c.requires.reps

pub take_up_first-requires-clause-rights : goal.take_up_first-requires-clause-rights
take_up_first-requires-clause-rights c = giving_rights c.args.store.now c.args.reps.now c.args.held.now c.turns.held c.args.journal.now c.turns.journal c.turns.invariant c.requires.rights

-- ---- a refusal
pub returns-in_err-take_up_first-clause-leads : goal.returns-in_err-take_up_first-clause-leads
returns-in_err-take_up_first-clause-leads c =
    giving_leads c.args.store.now c.args.reps.now c.args.held.now c.turns.held c.args.journal.now c.turns.journal c.turns.invariant c.take_up_first.new.held c.take_up_first.new.journal c.take_up_first.ensures.leads

pub returns-in_err-take_up_first-clause-number : goal.returns-in_err-take_up_first-clause-number
returns-in_err-take_up_first-clause-number c = λ wide e.
    let p = err_from_is_err_and c.from_residual.result c.from_residual.ensures.1 in
    let failed : c.in_err-take_up_first.field-0.0 ≡ Number wide = (let a = p.1 in let b = p.2 in cc) in
    giving_wide c.args.store.now c.args.reps.now c.args.held.now c.turns.held c.args.journal.now c.turns.journal c.turns.invariant c.take_up_first.new.held c.take_up_first.new.journal c.take_up_first.ensures.leads wide
    (c.in_err-take_up_first.ensures.number wide (ap Err failed))

-- ---- one that is given up
pub turns-preserved : goal.turns-preserved
turns-preserved c =
    let ok = c.in_ok-take_up_first.ensures in
    giving_more c.args.store.now c.args.reps.now c.args.held.now c.turns.held c.args.journal.now c.turns.journal c.turns.invariant c.take_up_first.new.held c.take_up_first.new.journal c.take_up_first.ensures.leads ok.taken ok.step
    (ok.stays (ap Ok c.in-Nothing.is)) (ok.rules (ap Ok c.in-Nothing.is)) (ok.pairs (ap Ok c.in-Nothing.is)) (ok.lines (ap Ok c.in-Nothing.is))
    (ok.given_up (ap Ok c.in-Nothing.is))

-- ---- one that isn't given up
pub returns-in-Advanced-clause-leads : goal.returns-in-Advanced-clause-leads
returns-in-Advanced-clause-leads c =
    giving_leads c.args.store.now c.args.reps.now c.args.held.now c.turns.held c.args.journal.now c.turns.journal c.turns.invariant c.take_up_first.new.held c.take_up_first.new.journal c.take_up_first.ensures.leads

pub returns-in-Conflict-clause-leads : goal.returns-in-Conflict-clause-leads
returns-in-Conflict-clause-leads c =
    giving_leads c.args.store.now c.args.reps.now c.args.held.now c.turns.held c.args.journal.now c.turns.journal c.turns.invariant c.take_up_first.new.held c.take_up_first.new.journal c.take_up_first.ensures.leads

-- ---- none is taken up where none waits
pub returns-in_err-take_up_first-clause-idle : goal.returns-in_err-take_up_first-clause-idle
returns-in_err-take_up_first-clause-idle c = λ none. absurd (c.waits.ensures.yes c.turns-test.true (c.turns.invariant.idle none))

pub returns-in-Advanced-clause-idle : goal.returns-in-Advanced-clause-idle
returns-in-Advanced-clause-idle c = λ none. absurd (c.waits.ensures.yes c.turns-test.true (c.turns.invariant.idle none))

pub returns-in-Conflict-clause-idle : goal.returns-in-Conflict-clause-idle
returns-in-Conflict-clause-idle c = λ none. absurd (c.waits.ensures.yes c.turns-test.true (c.turns.invariant.idle none))
