use Rattle.ae_value_turns.proofs.RenewedValues.{more_steps, taken_after}
use Rattle.ae_value_turns.proofs.SolveLines.{step_same}
use Rattle.ae_value_turns.proofs.TakenNames.{patterns_are, values_are, steps_are, said_are, over_store, over_held}
use Rattle.ae_journal.specs.Journals.{live}
use Rattle.ae_pmap.specs.Forest.{present}
use Rattle.ae_solving.proofs.TakenUp.{taken_later, steps_refused}
use Rattle.ae_solving.proofs.equations.name_equation.Goals as goal

pub plain_names-requires-clause-held : goal.plain_names-requires-clause-held
plain_names-requires-clause-held c =
    let o = c.args.held.now in
    let s = c.args.store.now in
    let t = c.requires.taken in
    record { store = t.store; fits = steps_are o s t; patterns = patterns_are o s t; values = values_are o s t; said = said_are o s t }

pub take_up-requires-clause-taken : goal.take_up-requires-clause-taken
take_up-requires-clause-taken c =
    let o = c.args.held.now in
    let s = c.args.store.now in
    let t = c.requires.taken in
    taken_after o s t o.values c.plain_names.new.justs (more_steps o s t c.plain_names.new.justs c.plain_names.ensures.front c.plain_names.ensures.fits)

pub take_up-requires-clause-step : goal.take_up-requires-clause-step
take_up-requires-clause-step c =
    let o = c.args.held.now in
    let s = c.args.store.now in
    let t = c.requires.taken in
    step_same o s t c.plain_names.new.justs (more_steps o s t c.plain_names.new.justs c.plain_names.ensures.front c.plain_names.ensures.fits) (live c.args.journal.now.lines) c.requires.step

pub take_up-requires-clause-rests : goal.take_up-requires-clause-rests
take_up-requires-clause-rests c =
    let o = c.args.held.now in
    let s = c.args.store.now in
    let t = c.requires.taken in
    over_held o s t c.plain_names.new.justs c.in_ok-plain.plain.step (c.in_ok-plain.ensures.rests (present o.assumed) (over_store o s t o.justs c.args.step c.requires.rests))

pub returns-in_err-plain-clause-leads : goal.returns-in_err-plain-clause-leads
returns-in_err-plain-clause-leads c =
    (steps_refused c.args.held.now c.args.store.now c.requires.taken c.plain_names.new.justs c.plain_names.ensures.front c.plain_names.ensures.fits c.args.journal.now
    c.from_residual.result _ c.from_residual.ensures.1).leads

pub returns-in_err-plain-clause-taken : goal.returns-in_err-plain-clause-taken
returns-in_err-plain-clause-taken c =
    (steps_refused c.args.held.now c.args.store.now c.requires.taken c.plain_names.new.justs c.plain_names.ensures.front c.plain_names.ensures.fits c.args.journal.now
    c.from_residual.result _ c.from_residual.ensures.1).taken

pub returns-in_err-plain-clause-step : goal.returns-in_err-plain-clause-step
returns-in_err-plain-clause-step c =
    (steps_refused c.args.held.now c.args.store.now c.requires.taken c.plain_names.new.justs c.plain_names.ensures.front c.plain_names.ensures.fits c.args.journal.now
    c.from_residual.result _ c.from_residual.ensures.1).step

pub returns-in_err-plain-clause-steps : goal.returns-in_err-plain-clause-steps
returns-in_err-plain-clause-steps c =
    (steps_refused c.args.held.now c.args.store.now c.requires.taken c.plain_names.new.justs c.plain_names.ensures.front c.plain_names.ensures.fits c.args.journal.now
    c.from_residual.result _ c.from_residual.ensures.1).steps

pub returns-in_err-plain-clause-number : goal.returns-in_err-plain-clause-number
returns-in_err-plain-clause-number c =
    (steps_refused c.args.held.now c.args.store.now c.requires.taken c.plain_names.new.justs c.plain_names.ensures.front c.plain_names.ensures.fits c.args.journal.now
    c.from_residual.result _ c.from_residual.ensures.1).number

pub returns-in_err-plain-clause-advanced : goal.returns-in_err-plain-clause-advanced
returns-in_err-plain-clause-advanced c =
    (steps_refused c.args.held.now c.args.store.now c.requires.taken c.plain_names.new.justs c.plain_names.ensures.front c.plain_names.ensures.fits c.args.journal.now
    c.from_residual.result _ c.from_residual.ensures.1).advanced

pub returns-in_err-plain-clause-conflict : goal.returns-in_err-plain-clause-conflict
returns-in_err-plain-clause-conflict c =
    (steps_refused c.args.held.now c.args.store.now c.requires.taken c.plain_names.new.justs c.plain_names.ensures.front c.plain_names.ensures.fits c.args.journal.now
    c.from_residual.result _ c.from_residual.ensures.1).conflict

pub returns-in_err-plain-clause-never : goal.returns-in_err-plain-clause-never
returns-in_err-plain-clause-never c =
    (steps_refused c.args.held.now c.args.store.now c.requires.taken c.plain_names.new.justs c.plain_names.ensures.front c.plain_names.ensures.fits c.args.journal.now
    c.from_residual.result _ c.from_residual.ensures.1).never

pub returns-in_err-plain-clause-others : goal.returns-in_err-plain-clause-others
returns-in_err-plain-clause-others c =
    (steps_refused c.args.held.now c.args.store.now c.requires.taken c.plain_names.new.justs c.plain_names.ensures.front c.plain_names.ensures.fits c.args.journal.now
    c.from_residual.result _ c.from_residual.ensures.1).others

pub returns-clause-leads : goal.returns-clause-leads
returns-clause-leads c =
    (taken_later c.args.held.now c.args.store.now c.requires.taken c.plain_names.new.justs c.plain_names.ensures.front c.plain_names.ensures.fits c.args.journal.now c.take_up.new.held c.take_up.new.journal c.take_up.result
    c.take_up.ensures).leads

pub returns-clause-taken : goal.returns-clause-taken
returns-clause-taken c =
    (taken_later c.args.held.now c.args.store.now c.requires.taken c.plain_names.new.justs c.plain_names.ensures.front c.plain_names.ensures.fits c.args.journal.now c.take_up.new.held c.take_up.new.journal c.take_up.result
    c.take_up.ensures).taken

pub returns-clause-step : goal.returns-clause-step
returns-clause-step c =
    (taken_later c.args.held.now c.args.store.now c.requires.taken c.plain_names.new.justs c.plain_names.ensures.front c.plain_names.ensures.fits c.args.journal.now c.take_up.new.held c.take_up.new.journal c.take_up.result
    c.take_up.ensures).step

pub returns-clause-steps : goal.returns-clause-steps
returns-clause-steps c =
    (taken_later c.args.held.now c.args.store.now c.requires.taken c.plain_names.new.justs c.plain_names.ensures.front c.plain_names.ensures.fits c.args.journal.now c.take_up.new.held c.take_up.new.journal c.take_up.result
    c.take_up.ensures).steps

pub returns-clause-number : goal.returns-clause-number
returns-clause-number c =
    (taken_later c.args.held.now c.args.store.now c.requires.taken c.plain_names.new.justs c.plain_names.ensures.front c.plain_names.ensures.fits c.args.journal.now c.take_up.new.held c.take_up.new.journal c.take_up.result
    c.take_up.ensures).number

pub returns-clause-advanced : goal.returns-clause-advanced
returns-clause-advanced c =
    (taken_later c.args.held.now c.args.store.now c.requires.taken c.plain_names.new.justs c.plain_names.ensures.front c.plain_names.ensures.fits c.args.journal.now c.take_up.new.held c.take_up.new.journal c.take_up.result
    c.take_up.ensures).advanced

pub returns-clause-conflict : goal.returns-clause-conflict
returns-clause-conflict c =
    (taken_later c.args.held.now c.args.store.now c.requires.taken c.plain_names.new.justs c.plain_names.ensures.front c.plain_names.ensures.fits c.args.journal.now c.take_up.new.held c.take_up.new.journal c.take_up.result
    c.take_up.ensures).conflict

pub returns-clause-never : goal.returns-clause-never
returns-clause-never c =
    (taken_later c.args.held.now c.args.store.now c.requires.taken c.plain_names.new.justs c.plain_names.ensures.front c.plain_names.ensures.fits c.args.journal.now c.take_up.new.held c.take_up.new.journal c.take_up.result
    c.take_up.ensures).never

pub returns-clause-others : goal.returns-clause-others
returns-clause-others c =
    (taken_later c.args.held.now c.args.store.now c.requires.taken c.plain_names.new.justs c.plain_names.ensures.front c.plain_names.ensures.fits c.args.journal.now c.take_up.new.held c.take_up.new.journal c.take_up.result
    c.take_up.ensures).others

pub returns-in_err-plain-clause-budget : goal.returns-in_err-plain-clause-budget
returns-in_err-plain-clause-budget c =
    (steps_refused c.args.held.now c.args.store.now c.requires.taken c.plain_names.new.justs c.plain_names.ensures.front c.plain_names.ensures.fits c.args.journal.now
    c.from_residual.result _ c.from_residual.ensures.1).budget

pub returns-clause-budget : goal.returns-clause-budget
returns-clause-budget c =
    (taken_later c.args.held.now c.args.store.now c.requires.taken c.plain_names.new.justs c.plain_names.ensures.front c.plain_names.ensures.fits c.args.journal.now c.take_up.new.held c.take_up.new.journal c.take_up.result
    c.take_up.ensures).budget
