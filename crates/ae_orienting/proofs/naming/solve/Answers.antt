use Rattle.std.specs.Prelude.{ℕ, List, slice_index_or}
use Rattle.std.proofs.Common.{ap}
use Rattle.ae_turns.proofs.Steps.{going_on_leads}
use Rattle.ae_representatives.proofs.MoreSteps.{with_steps, taken_more, steps_lead}
use Rattle.ae_representatives.proofs.Taken.{fits_all}
use Rattle.ae_orienting.proofs.Apart.{names_stated, names_sorted, names_within, names_apart, names_rest_on}
use Rattle.ae_orienting.proofs.naming.solve.Goals as goal

pub state_names-requires-clause-fits : goal.state_names-requires-clause-fits
state_names-requires-clause-fits c = fits_all c.args.held.now c.args.store.now c.requires.taken

pub state_names-requires-clause-states : goal.state_names-requires-clause-states
state_names-requires-clause-states c =
    names_stated c.args.held.now c.args.store.now c.requires.taken c.args.reps.now c.requires.reps c.args.equation.now c.requires.first c.requires.falls c.requires.single (slice_index_or c.as_slice.result.now 0 0)
    (slice_index_or c.as_slice-2.result.now 0 0) (ap (λ (xs : List ℕ). slice_index_or xs 0 0) c.as_slice.ensures) (ap (λ (xs : List ℕ). slice_index_or xs 0 0) c.as_slice-2.ensures)

pub returns-in_err-step-clause-leads : goal.returns-in_err-step-clause-leads
returns-in_err-step-clause-leads c =
    steps_lead c.args.held.now c.state_names.new.justs c.state_names.ensures.kept c.args.store.now c.requires.taken c.state_names.ensures.fits c.args.journal.now

pub name_equation-requires-clause-taken : goal.name_equation-requires-clause-taken
name_equation-requires-clause-taken c = taken_more c.args.held.now c.state_names.new.justs c.state_names.ensures.kept c.args.store.now c.requires.taken c.state_names.ensures.fits

pub name_equation-requires-clause-within : goal.name_equation-requires-clause-within
name_equation-requires-clause-within c =
    names_within c.args.held.now c.args.store.now c.requires.taken c.args.reps.now c.requires.reps c.args.equation.now c.requires.first c.requires.falls c.requires.single (slice_index_or c.as_slice.result.now 0 0)
    (slice_index_or c.as_slice-2.result.now 0 0) (ap (λ (xs : List ℕ). slice_index_or xs 0 0) c.as_slice.ensures) (ap (λ (xs : List ℕ). slice_index_or xs 0 0) c.as_slice-2.ensures)

pub name_equation-requires-clause-sorted : goal.name_equation-requires-clause-sorted
name_equation-requires-clause-sorted c =
    names_sorted c.args.held.now c.args.store.now c.requires.taken c.args.reps.now c.requires.reps c.args.equation.now c.requires.first c.requires.falls c.requires.single (slice_index_or c.as_slice.result.now 0 0)
    (slice_index_or c.as_slice-2.result.now 0 0) (ap (λ (xs : List ℕ). slice_index_or xs 0 0) c.as_slice.ensures) (ap (λ (xs : List ℕ). slice_index_or xs 0 0) c.as_slice-2.ensures)

pub name_equation-requires-clause-rests : goal.name_equation-requires-clause-rests
name_equation-requires-clause-rests c =
    names_rest_on c.args.held.now c.args.store.now c.args.reps.now c.args.equation.now c.requires.first c.state_names.new.justs c.in_ok-step.step c.in_ok-step.ensures.rests

pub name_equation-requires-clause-apart : goal.name_equation-requires-clause-apart
name_equation-requires-clause-apart c =
    names_apart c.args.held.now c.args.store.now c.requires.taken c.args.reps.now c.requires.reps c.args.equation.now c.requires.first c.requires.falls c.requires.single (slice_index_or c.as_slice.result.now 0 0)
    (slice_index_or c.as_slice-2.result.now 0 0) (ap (λ (xs : List ℕ). slice_index_or xs 0 0) c.as_slice.ensures) (ap (λ (xs : List ℕ). slice_index_or xs 0 0) c.as_slice-2.ensures)

pub returns-clause-leads : goal.returns-clause-leads
returns-clause-leads c =
    let j = c.args.journal.now in
    going_on_leads c.args.store.now c.args.held.now (with_steps c.args.held.now c.state_names.new.justs) c.name_equation.new.held j j c.name_equation.new.journal
    (steps_lead c.args.held.now c.state_names.new.justs c.state_names.ensures.kept c.args.store.now c.requires.taken c.state_names.ensures.fits j) c.name_equation.ensures.leads
