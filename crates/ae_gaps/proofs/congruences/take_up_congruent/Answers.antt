use Rattle.std.proofs.Common.{refl}
use Rattle.ae_representatives.proofs.MoreSteps.{with_steps, rests_by_values, step_more, taken_more, steps_lead}
use Rattle.ae_representatives.proofs.Taken.{fits_all, said_all, patterns}
use Rattle.ae_theory.specs.Names.{terms_in}
use Rattle.ae_turns.specs.declared.found.Found.{Found}
use Rattle.ae_turns.proofs.Budgets.{within_memory}
use Rattle.ae_turns.proofs.Representatives.{valued}
use Rattle.ae_turns.proofs.Steps.{going_on_leads}
use Rattle.ae_gaps.proofs.ArgumentSteps.{unequal_congruent, first_within, second_within, unequal_apart, stated_sorted}
use Rattle.ae_gaps.proofs.congruences.take_up_congruent.Goals as goal

pub congruent_step-requires-clause-held : goal.congruent_step-requires-clause-held
congruent_step-requires-clause-held c =
    let o = c.args.held.now in
    let s = c.args.store.now in
    let t = c.requires.taken in
    record { store = t.store; fits = fits_all o s t; patterns = patterns o s t c.entries_of_all_names_fit.ensures; values = valued o s t; said = said_all o s t }

pub congruent_step-requires-clause-congruent : goal.congruent_step-requires-clause-congruent
congruent_step-requires-clause-congruent c = unequal_congruent c.args.held.now c.args.store.now c.requires.taken c.args.reps.now c.requires.reps c.args.left c.args.right c.requires.unequal

pub returns-in_err-step-clause-leads : goal.returns-in_err-step-clause-leads
returns-in_err-step-clause-leads c =
    steps_lead c.args.held.now c.congruent_step.new.justs c.congruent_step.ensures.front c.args.store.now c.requires.taken c.congruent_step.ensures.fits c.args.journal.now

pub name_equation-requires : goal.name_equation-requires
name_equation-requires c =
    let o = c.args.held.now in
    let s = c.args.store.now in
    let t = c.requires.taken in
    let js = c.congruent_step.new.justs in
    let id = c.in_ok-step.step in
    let u = c.requires.unequal in
    let reps = c.args.reps.now in
    record {
      taken = taken_more o js c.congruent_step.ensures.front s t c.congruent_step.ensures.fits;
      step = step_more o js _ c.requires.step;
      within = (first_within o s t reps c.requires.reps c.args.left c.args.right u, second_within o s t reps c.requires.reps c.args.left c.args.right u);
      sorted = stated_sorted s.signature (terms_in s) js id c.args.left c.args.right c.congruent_step.ensures.fits c.in_ok-step.ensures.states;
      states = c.in_ok-step.ensures.states;
      rests = rests_by_values o js (t.fits).right id c.in_ok-step.ensures.rests;
      apart = unequal_apart o s t reps c.requires.reps c.args.left c.args.right u;
    }

pub returns-clause-leads : goal.returns-clause-leads
returns-clause-leads c =
    let o = c.args.held.now in
    let s = c.args.store.now in
    let js = c.congruent_step.new.justs in
    going_on_leads s o (with_steps o js) c.name_equation.new.held c.args.journal.now c.args.journal.now c.name_equation.new.journal
    (steps_lead o js c.congruent_step.ensures.front s c.requires.taken c.congruent_step.ensures.fits c.args.journal.now) c.name_equation.ensures.leads

-- ---- how many lines may be noted
pub returns-in_err-step-clause-budget : goal.returns-in_err-step-clause-budget
returns-in_err-step-clause-budget c =
    let ls = c.args.journal.now.lines in
    within_memory c.args.store.now c.args.held.now _ ls ls refl Found c.from_residual.result _ c.from_residual.ensures.1

pub returns-clause-budget : goal.returns-clause-budget
returns-clause-budget c = let b = c.name_equation.ensures.budget in record { most = b.most; left = b.left; fewer = b.fewer }
