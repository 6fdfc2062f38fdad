use Rattle.std.specs.Prelude.{Ok}
use Rattle.std.proofs.Common.{refl}
use Rattle.ae_sweeps.proofs.Bridges.{from_none}
use Rattle.ae_turns.specs.declared.found.Found.{Found}
use Rattle.ae_turns.specs.declared.found.Found.TheVariants.{Nothing}
use Rattle.ae_turns.proofs.Budgets.{within_still, within_memory}
use Rattle.ae_turns.proofs.Steps.{staying_leads}
use Rattle.ae_gaps.proofs.gaps.take_up_gap.Goals as goal

pub returns-in_err-opening-clause-leads : goal.returns-in_err-opening-clause-leads
returns-in_err-opening-clause-leads c = staying_leads c.args.store.now c.args.held.now c.args.journal.now (c.requires.taken).fits

pub returns-in_default-clause-leads : goal.returns-in_default-clause-leads
returns-in_default-clause-leads c = staying_leads c.args.store.now c.args.held.now c.args.journal.now (c.requires.taken).fits

pub returns-in_default-clause-swept : goal.returns-in_default-clause-swept
returns-in_default-clause-swept c = λ e. from_none c.in_ok-opening.field-0 c.in_default.not-Some c.in_ok-opening.ensures.swept

pub take_up_opening-requires-clause-open : goal.take_up_opening-requires-clause-open
take_up_opening-requires-clause-open c = rw c.in-Some.is at c.in_ok-opening.ensures.open

pub returns-clause-stays : goal.returns-clause-stays
returns-clause-stays c = λ e. absurd (c.take_up_opening.ensures.never e)

pub returns-clause-lines : goal.returns-clause-lines
returns-clause-lines c = λ e. absurd (c.take_up_opening.ensures.never e)

pub returns-clause-swept : goal.returns-clause-swept
returns-clause-swept c = λ e. absurd (c.take_up_opening.ensures.never e)

-- ---- how many lines may be noted
pub returns-in_err-opening-clause-budget : goal.returns-in_err-opening-clause-budget
returns-in_err-opening-clause-budget c =
    let ls = c.args.journal.now.lines in
    within_memory c.args.store.now c.args.held.now _ ls ls refl Found c.from_residual.result _ c.from_residual.ensures.1

pub returns-in_default-clause-budget : goal.returns-in_default-clause-budget
returns-in_default-clause-budget c =
    let ls = c.args.journal.now.lines in
    within_still c.args.store.now c.args.held.now c.args.held.now ls ls refl Found (Ok Nothing) (λ n h. h) (λ e. cc e)
