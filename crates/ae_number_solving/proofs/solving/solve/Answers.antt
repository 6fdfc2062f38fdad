use Rattle.std.specs.Prelude.{Ok, Err}
use Rattle.std.proofs.Common.{refl, sym, ap, subst, arith}
use Rattle.ae_num.specs.declared.forms.Value.{Number}
use Rattle.ae_journal.specs.Journals.{live, counted_in}
use Rattle.ae_journal.specs.Noted.{Noted}
use Rattle.ae_state.specs.Stepping.{IsInStep}
use Rattle.ae_state.specs.declared.holding.Holding.{Holding}
use Rattle.ae_turns.specs.declared.found.Found.{Found}
use Rattle.ae_turns.specs.declared.found.Found.TheVariants.{Advanced}
use Rattle.ae_turns.specs.Leading.{Leads}
use Rattle.ae_turns.proofs.Budgets.{within_memory, within_refused, within_one}
use Rattle.ae_turns.proofs.Steps.{going_on_leads}
use Rattle.ae_values.specs.Widths.{IsPutWide}
use Rattle.ae_value_turns.proofs.TakenNames.{steps_are}
use Rattle.ae_value_turns.proofs.SolveLines.{solve_one, solve_counted, solve_live}
use Rattle.ae_number_solving.proofs.SumWidths.{number_is}
use Rattle.ae_number_solving.proofs.Joining.{solution_unsolved, solution_written, solution_may_be_put}
use Rattle.ae_number_solving.proofs.Puts.{put_licensed}
use Rattle.ae_number_solving.proofs.SolvedLines.{front_of, line_of, stepped, stepped_leads, stepped_in_step, solved_leads}
use Rattle.ae_number_solving.proofs.solving.solve.Goals as goal

-- ---- the step that states the solution
pub state_solved-requires-clause-fits : goal.state_solved-requires-clause-fits
state_solved-requires-clause-fits c = steps_are c.args.held.now c.args.store.now c.requires.difference.equated.taken

pub state_solved-requires-clause-written : goal.state_solved-requires-clause-written
state_solved-requires-clause-written c =
    let q = c.requires.difference in
    solution_written c.args.store.now c.args.held.now c.args.real q.left q.right q.equal q.equated c.args.difference.now.form c.args.difference.now.zero q.difference c.args.name c.args.number c.requires.solves

pub state_solved-requires-clause-form : goal.state_solved-requires-clause-form
state_solved-requires-clause-form c = c.requires.difference.difference.over

pub state_solved-requires-clause-zero : goal.state_solved-requires-clause-zero
state_solved-requires-clause-zero c = c.requires.difference.difference.states

pub state_solved-requires-clause-free : goal.state_solved-requires-clause-free
state_solved-requires-clause-free c = c.requires.solves.smaller c.args.name (omega arith)

pub state_solved-requires-clause-solved : goal.state_solved-requires-clause-solved
state_solved-requires-clause-solved c = (c.requires.solves.times, c.requires.solves.nonzero, c.requires.solves.equation)

-- ---- refusals before the line is noted
pub returns-in_err-just-clause-leads : goal.returns-in_err-just-clause-leads
returns-in_err-just-clause-leads c =
    let s = c.args.store.now in
    let o = c.args.held.now in
    let steps = c.state_solved.new.justs in
    let front = front_of o.justs steps c.args.real c.args.name c.args.number c.args.difference.now.zero c.state_solved.result c.state_solved.ensures.added c.state_solved.ensures.err in
    stepped_leads o s c.requires.difference.equated.taken steps front c.state_solved.ensures.fits c.args.journal.now

pub returns-in_err-copy-clause-leads : goal.returns-in_err-copy-clause-leads
returns-in_err-copy-clause-leads c =
    let s = c.args.store.now in
    let o = c.args.held.now in
    let steps = c.state_solved.new.justs in
    let front = front_of o.justs steps c.args.real c.args.name c.args.number c.args.difference.now.zero c.state_solved.result c.state_solved.ensures.added c.state_solved.ensures.err in
    stepped_leads o s c.requires.difference.equated.taken steps front c.state_solved.ensures.fits c.args.journal.now

pub returns-in_err-note_solution-clause-leads : goal.returns-in_err-note_solution-clause-leads
returns-in_err-note_solution-clause-leads c =
    let s = c.args.store.now in
    let o = c.args.held.now in
    let steps = c.state_solved.new.justs in
    let front = front_of o.justs steps c.args.real c.args.name c.args.number c.args.difference.now.zero c.state_solved.result c.state_solved.ensures.added c.state_solved.ensures.err in
    let taken = c.requires.difference.equated.taken in
    subst (λ (k : Noted). Leads s o c.args.journal.now (stepped o s taken steps front c.state_solved.ensures.fits) k) (sym c.in_err-note_solution.ensures.err)
    (stepped_leads o s taken steps front c.state_solved.ensures.fits c.args.journal.now)

-- ---- the number is put
pub put-requires : goal.put-requires
put-requires c =
    let s = c.args.store.now in
    let o = c.args.held.now in
    let q = c.requires.difference in
    let d = c.args.difference.now in
    let steps = c.state_solved.new.justs in
    let front = front_of o.justs steps c.args.real c.args.name c.args.number d.zero c.state_solved.result c.state_solved.ensures.added c.state_solved.ensures.err in
    record {
      may =
          solution_may_be_put s o c.args.real q.left q.right q.equal q.equated d.form d.zero q.difference c.args.name c.args.number c.requires.solves steps c.in_ok-just.just front c.state_solved.ensures.fits
          c.in_ok-just.ensures.added;
    }

pub returns-in-Ok-clause-leads : goal.returns-in-Ok-clause-leads
returns-in-Ok-clause-leads c =
    let s = c.args.store.now in
    let o = c.args.held.now in
    let q = c.requires.difference in
    let d = c.args.difference.now in
    let j = c.args.journal.now in
    let k = c.note_solution.new.journal in
    let steps = c.state_solved.new.justs in
    let front = front_of o.justs steps c.args.real c.args.name c.args.number d.zero c.state_solved.result c.state_solved.ensures.added c.state_solved.ensures.err in
    going_on_leads s o (stepped o s q.equated.taken steps front c.state_solved.ensures.fits) c.put.new.held j k k
    (solved_leads s o c.args.real q.left q.right q.equal q.equated d.form d.zero q.difference c.args.name c.args.number c.requires.solves steps front c.state_solved.ensures.fits c.stores_are_in_step.ensures
    c.solve_lines_are_legal.ensures.numbers j k c.requires.step (line_of j k c.args.name c.in_ok-copy.copy c.args.number c.in_ok-copy.ensures c.in_ok-note_solution.ensures.ok))
    (c.put.ensures.leads k)

pub returns-in-Ok-clause-step : goal.returns-in-Ok-clause-step
returns-in-Ok-clause-step c =
    let s = c.args.store.now in
    let o = c.args.held.now in
    let q = c.requires.difference in
    let j = c.args.journal.now in
    let k = c.note_solution.new.journal in
    let steps = c.state_solved.new.justs in
    let front = front_of o.justs steps c.args.real c.args.name c.args.number c.args.difference.now.zero c.state_solved.result c.state_solved.ensures.added c.state_solved.ensures.err in
    let line = line_of j k c.args.name c.in_ok-copy.copy c.args.number c.in_ok-copy.ensures c.in_ok-note_solution.ensures.ok in
    subst (IsInStep c.put.new.held) (sym (solve_live j k c.args.name (Number c.args.number) line))
    (c.in-Ok.ensures.step (live j.lines) (stepped_in_step o s q.equated.taken steps front c.state_solved.ensures.fits (live j.lines) c.requires.step))

pub returns-in-Ok-clause-counted : goal.returns-in-Ok-clause-counted
returns-in-Ok-clause-counted c =
    let j = c.args.journal.now in
    let k = c.note_solution.new.journal in
    solve_counted j k c.args.name (Number c.args.number) (line_of j k c.args.name c.in_ok-copy.copy c.args.number c.in_ok-copy.ensures c.in_ok-note_solution.ensures.ok)

pub returns-in-Ok-clause-others : goal.returns-in-Ok-clause-others
returns-in-Ok-clause-others c = c.put.ensures.others

-- ---- the values leave the limits, or memory is refused
pub returns-in-Err-clause-leads : goal.returns-in-Err-clause-leads
returns-in-Err-clause-leads c =
    let s = c.args.store.now in
    let o = c.args.held.now in
    let q = c.requires.difference in
    let d = c.args.difference.now in
    let j = c.args.journal.now in
    let k = c.note_solution.new.journal in
    let steps = c.state_solved.new.justs in
    let front = front_of o.justs steps c.args.real c.args.name c.args.number d.zero c.state_solved.result c.state_solved.ensures.added c.state_solved.ensures.err in
    going_on_leads s o (stepped o s q.equated.taken steps front c.state_solved.ensures.fits) c.put.new.held j k k
    (solved_leads s o c.args.real q.left q.right q.equal q.equated d.form d.zero q.difference c.args.name c.args.number c.requires.solves steps front c.state_solved.ensures.fits c.stores_are_in_step.ensures
    c.solve_lines_are_legal.ensures.numbers j k c.requires.step (line_of j k c.args.name c.in_ok-copy.copy c.args.number c.in_ok-copy.ensures c.in_ok-note_solution.ensures.ok))
    (c.put.ensures.leads k)

pub returns-in-Err-clause-steps : goal.returns-in-Err-clause-steps
returns-in-Err-clause-steps c = λ e. absurd (c.failed.ensures.steps (cc e))

pub returns-in-Err-clause-number : goal.returns-in-Err-clause-number
returns-in-Err-clause-number c = λ wide e.
    let o = c.args.held.now in
    let q = c.requires.difference in
    let j = c.args.journal.now in
    let k = c.note_solution.new.journal in
    let refused = c.failed.ensures.number wide (cc e) in
    let put : IsPutWide o.values c.args.name c.args.number wide = number_is (λ w. IsPutWide o.values c.args.name c.args.number w) c.in-Err.refused wide c.in-Err.ensures.wide refused in
    put_licensed c.args.store.now o q.equated.taken c.stores_are_in_step.ensures c.widths_of_puts_are_licensed.ensures j.lines k.lines c.args.name c.args.number wide c.requires.step c.requires.solves.normal
    (ap (λ (z : Noted). z.lines) (line_of j k c.args.name c.in_ok-copy.copy c.args.number c.in_ok-copy.ensures c.in_ok-note_solution.ensures.ok)) put

pub returns-in-Err-clause-others : goal.returns-in-Err-clause-others
returns-in-Err-clause-others c = c.put.ensures.others

-- ---- how many lines may be noted
pub returns-in_err-just-clause-budget : goal.returns-in_err-just-clause-budget
returns-in_err-just-clause-budget c =
    let ls = c.args.journal.now.lines in
    within_memory c.args.store.now c.args.held.now _ ls ls refl Found c.from_residual.result _ c.from_residual.ensures.1

pub returns-in_err-copy-clause-budget : goal.returns-in_err-copy-clause-budget
returns-in_err-copy-clause-budget c =
    let ls = c.args.journal.now.lines in
    within_memory c.args.store.now c.args.held.now _ ls ls refl Found c.from_residual-in_err-copy.result _ c.from_residual-in_err-copy.ensures.1

pub returns-in_err-note_solution-clause-budget : goal.returns-in_err-note_solution-clause-budget
returns-in_err-note_solution-clause-budget c =
    let s = c.args.store.now in
    let o = c.args.held.now in
    let q = c.requires.difference in
    let d = c.args.difference.now in
    let j = c.args.journal.now in
    let k = c.note_solution.new.journal in
    let there = solution_unsolved s o c.args.real q.left q.right q.equal q.equated d.form d.zero q.difference c.args.name c.args.number c.requires.solves in
    within_refused s o _ j.lines k.lines (ap (λ (z : Noted). counted_in z.lines) c.in_err-note_solution.ensures.err) Found c.args.name there c.from_residual-in_err-note_solution.result _
    c.from_residual-in_err-note_solution.ensures.1

pub returns-in-Ok-clause-budget : goal.returns-in-Ok-clause-budget
returns-in-Ok-clause-budget c =
    let s = c.args.store.now in
    let o = c.args.held.now in
    let q = c.requires.difference in
    let d = c.args.difference.now in
    let j = c.args.journal.now in
    let k = c.note_solution.new.journal in
    let there = solution_unsolved s o c.args.real q.left q.right q.equal q.equated d.form d.zero q.difference c.args.name c.args.number c.requires.solves in
    let one = solve_one j k c.args.name (Number c.args.number) (line_of j k c.args.name c.in_ok-copy.copy c.args.number c.in_ok-copy.ensures c.in_ok-note_solution.ensures.ok) in
    within_one s o c.put.new.held j.lines k.lines one c.args.name there Found (Ok Advanced) (c.in-Ok.ensures.solved, ap (λ (h : Holding). h.equations) c.put.ensures.others) (λ e. cc e)

pub returns-in-Err-clause-budget : goal.returns-in-Err-clause-budget
returns-in-Err-clause-budget c =
    let s = c.args.store.now in
    let o = c.args.held.now in
    let q = c.requires.difference in
    let d = c.args.difference.now in
    let j = c.args.journal.now in
    let k = c.note_solution.new.journal in
    let there = solution_unsolved s o c.args.real q.left q.right q.equal q.equated d.form d.zero q.difference c.args.name c.args.number c.requires.solves in
    let one = solve_one j k c.args.name (Number c.args.number) (line_of j k c.args.name c.in_ok-copy.copy c.args.number c.in_ok-copy.ensures c.in_ok-note_solution.ensures.ok) in
    within_one s o c.put.new.held j.lines k.lines one c.args.name there Found (Err c.failed.result) tt (λ e. c.failed.ensures.steps (cc e))
