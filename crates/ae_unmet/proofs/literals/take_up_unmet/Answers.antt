use Rattle.std.proofs.Common.{refl}
use Rattle.ae_turns.specs.declared.found.Found.{Found}
use Rattle.ae_turns.proofs.Budgets.{within_memory}
use Rattle.ae_turns.proofs.Steps.{staying_leads}
use Rattle.ae_unmet.proofs.NamedLiterals.{met_by}
use Rattle.ae_unmet.proofs.literals.take_up_unmet.Goals as goal

pub returns-in_err-unmet-clause-leads : goal.returns-in_err-unmet-clause-leads
returns-in_err-unmet-clause-leads c = staying_leads c.args.store.now c.args.held.now c.args.journal.now c.requires.taken.fits

pub take_up-requires-clause-found : goal.take_up-requires-clause-found
take_up-requires-clause-found c = c.in_ok-unmet.ensures.some

pub returns-clause-leads : goal.returns-clause-leads
returns-clause-leads c = c.take_up.ensures.leads

pub returns-clause-taken : goal.returns-clause-taken
returns-clause-taken c = c.take_up.ensures.taken

pub returns-clause-step : goal.returns-clause-step
returns-clause-step c = c.take_up.ensures.step

pub returns-clause-steps : goal.returns-clause-steps
returns-clause-steps c = c.take_up.ensures.steps

pub returns-clause-number : goal.returns-clause-number
returns-clause-number c = c.take_up.ensures.number

pub returns-clause-advanced : goal.returns-clause-advanced
returns-clause-advanced c = c.take_up.ensures.advanced

pub returns-clause-conflict : goal.returns-clause-conflict
returns-clause-conflict c = c.take_up.ensures.conflict

pub returns-clause-stays : goal.returns-clause-stays
returns-clause-stays c = c.take_up.ensures.stays

pub returns-clause-lines : goal.returns-clause-lines
returns-clause-lines c = c.take_up.ensures.lines

pub returns-clause-met : goal.returns-clause-met
returns-clause-met c =
    λ e well. met_by c.literals_of_which_none_is_unmet_are_met.ensures c.values_of_integers_are_whole.ensures c.args.store.now c.args.held.now c.args.reps.now c.requires.taken c.in_ok-unmet.unmet c.in_ok-unmet.ensures.none
    (c.take_up.ensures.reason e) well

-- ---- how many lines may be noted
pub returns-in_err-unmet-clause-budget : goal.returns-in_err-unmet-clause-budget
returns-in_err-unmet-clause-budget c =
    let ls = c.args.journal.now.lines in
    within_memory c.args.store.now c.args.held.now _ ls ls refl Found c.from_residual.result _ c.from_residual.ensures.1

pub returns-clause-budget : goal.returns-clause-budget
returns-clause-budget c = c.take_up.ensures.budget
