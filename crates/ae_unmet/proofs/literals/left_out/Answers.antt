use Rattle.std.specs.Prelude.{ℕ, List, false, ◌≡◌}
use Rattle.std.proofs.Common.{sym, ap, subst}
use Rattle.ae_core.specs.declared.terms.Term.{Term}
use Rattle.ae_journal.specs.Journals.{live}
use Rattle.ae_pmap.specs.Forest.{present}
use Rattle.ae_value_table.specs.Alike.{alike}
use Rattle.ae_conflicts.specs.declared.assumed.Assumed.{Assumed}
use Rattle.ae_conflicts.specs.Saying.{RestsOnAssumed}
use Rattle.ae_state.specs.declared.holding.Holding.{Holding}
use Rattle.ae_unmet.proofs.Growth.{taken_grown, step_grown}
use Rattle.ae_unmet.proofs.OwnConflicts.{left_out_there, left_out_read, one_sort}
use Rattle.ae_unmet.proofs.TakenNames.{all_is}
use Rattle.ae_unmet.proofs.TakingUp.{refused, solved}
use Rattle.ae_unmet.proofs.literals.left_out.Goals as goal

pub state_literal-requires-clause-said : goal.state_literal-requires-clause-said
state_literal-requires-clause-said c =
    ((left_out_read c.args.store.now c.args.held.now c.requires.taken c.args.place c.requires.found _ c.in-Equal.left c.in-Equal.right c.in-Equal.ensures).said).there

pub name_equation-requires-clause-taken : goal.name_equation-requires-clause-taken
name_equation-requires-clause-taken c = taken_grown c.args.store.now c.args.held.now c.state_literal.new.held c.requires.taken c.state_literal.ensures.grown

pub name_equation-requires-clause-step : goal.name_equation-requires-clause-step
name_equation-requires-clause-step c = step_grown c.args.store.now c.args.held.now c.state_literal.new.held c.requires.taken c.state_literal.ensures.grown (live c.args.journal.now.lines) c.requires.step

pub name_equation-requires-clause-within : goal.name_equation-requires-clause-within
name_equation-requires-clause-within c =
    let w = left_out_read c.args.store.now c.args.held.now c.requires.taken c.args.place c.requires.found _ c.in-Equal.left c.in-Equal.right c.in-Equal.ensures in
    ((w.left).below, (w.right).below)

pub name_equation-requires-clause-sorted : goal.name_equation-requires-clause-sorted
name_equation-requires-clause-sorted c =
    one_sort c.args.store.now c.args.held.now c.requires.taken c.args.place c.in-Equal.left c.in-Equal.right
    (left_out_read c.args.store.now c.args.held.now c.requires.taken c.args.place c.requires.found _ c.in-Equal.left c.in-Equal.right c.in-Equal.ensures)

pub name_equation-requires-clause-states : goal.name_equation-requires-clause-states
name_equation-requires-clause-states c = c.in_ok-step-in-Equal.ensures.states

pub name_equation-requires-clause-rests : goal.name_equation-requires-clause-rests
name_equation-requires-clause-rests c =
    let s = c.args.store.now in
    let o = c.args.held.now in
    let p = c.state_literal.new.held in
    let g = c.state_literal.ensures.grown in
    let all = all_is p s (taken_grown s o p c.requires.taken g) in
    subst (λ (x : List Term × List (ℕ × Assumed)). RestsOnAssumed x.0 p.justs x.1 c.in_ok-step-in-Equal.step) (λ i. (sym all i, sym (ap (λ (h : Holding). present h.assumed) g.others) i)) c.in_ok-step-in-Equal.ensures.rests

pub name_equation-requires-clause-apart : goal.name_equation-requires-clause-apart
name_equation-requires-clause-apart c =
    subst (λ (x : Holding). alike x.values c.in-Equal.left c.in-Equal.right ≡ false) (sym c.state_literal.ensures.grown.others)
    (left_out_read c.args.store.now c.args.held.now c.requires.taken c.args.place c.requires.found _ c.in-Equal.left c.in-Equal.right c.in-Equal.ensures).apart

pub returns : goal.returns
returns c =
    let e = c.name_equation.ensures in
    solved c.args.store.now c.args.held.now c.requires.taken c.args.journal.now c.requires.step _ c.state_literal.new.held c.name_equation.new.held c.state_literal.ensures.grown c.name_equation.new.journal c.name_equation.result
    e.leads e.taken e.step e.steps e.number e.advanced e.conflict e.never e.budget

pub unreachable-requires : goal.unreachable-requires
unreachable-requires c =
    let w = (left_out_there c.args.store.now c.args.held.now c.requires.taken c.args.place c.requires.found).said in
    let z = c.in-Atom.ensures _ w.there in
    cc z

pub unreachable-requires-in-Other : goal.unreachable-requires-in-Other
unreachable-requires-in-Other c =
    let w = (left_out_there c.args.store.now c.args.held.now c.requires.taken c.args.place c.requires.found).said in
    let z = c.in-Other.ensures _ w.there in
    cc z

pub returns-in_err-step-in-Equal : goal.returns-in_err-step-in-Equal
returns-in_err-step-in-Equal c =
    refused c.args.store.now c.args.held.now c.requires.taken c.args.journal.now c.requires.step _ c.state_literal.new.held c.state_literal.ensures.grown c.from_residual.result c.in_err-step-in-Equal.field-0.0
    c.from_residual.ensures.1
