use Rattle.std.proofs.lemmas.Option.{slice_get_within}
use Rattle.ae_journal.specs.Journals.{live}
use Rattle.ae_theory.specs.Names.{terms_in}
use Rattle.ae_value_fitting.specs.Fitting.{held_by}
use Rattle.ae_value_table.specs.Table.{Contents, values as values_of}
use Rattle.ae_turns.specs.Budget.{a_leaf, own_leaf}
use Rattle.ae_turns.proofs.Unsolved.{leaf_solved}
use Rattle.std.specs.Prelude.{Err}
use Rattle.std.proofs.Common.{ap, ◌∙◌, arith}
use Rattle.ae_solving.proofs.Joining.{leaf_legal, put_renewed, put_taken, put_refused, line_refused}
use Rattle.ae_value_turns.proofs.TakenNames.{patterns_are, values_are, steps_are, said_are, closed_are, lines_are}
use Rattle.ae_solving.proofs.leaves.put_joined.Goals as goal

pub put_leaf-requires-clause-fits : goal.put_leaf-requires-clause-fits
put_leaf-requires-clause-fits c = steps_are c.args.held.now c.args.store.now c.requires.taken

pub put_leaf-requires-clause-patterns : goal.put_leaf-requires-clause-patterns
put_leaf-requires-clause-patterns c = patterns_are c.args.held.now c.args.store.now c.requires.taken

pub put_leaf-requires-clause-values : goal.put_leaf-requires-clause-values
put_leaf-requires-clause-values c = values_are c.args.held.now c.args.store.now c.requires.taken

pub put_leaf-requires-clause-said : goal.put_leaf-requires-clause-said
put_leaf-requires-clause-said c = said_are c.args.held.now c.args.store.now c.requires.taken

pub put_leaf-requires-clause-own : goal.put_leaf-requires-clause-own
put_leaf-requires-clause-own c = c.requires.own

pub put_leaf-requires-clause-differ : goal.put_leaf-requires-clause-differ
put_leaf-requires-clause-differ c = λ e. let l = c.requires.order in omega (arith, l, e)

pub returns-in_err-note_solution : goal.returns-in_err-note_solution
returns-in_err-note_solution c =
    line_refused c.args.held.now c.args.store.now c.requires.taken c.args.join.name (a_leaf (own_leaf (c.requires.own).0 (c.requires.own).1)) c.args.journal.now c.note_solution.new.journal c.in_err-note_solution.ensures.err c.from_residual.result _
    c.from_residual.ensures.1 (λ e. c.note_solution.ensures.steps (c.in_err-note_solution.was ∙ ap Err e)) (λ wide e. c.note_solution.ensures.number wide (c.in_err-note_solution.was ∙ ap Err e))

pub returns-in_err-put_leaf : goal.returns-in_err-put_leaf
returns-in_err-put_leaf c =
    let o = c.args.held.now in
    let s = c.args.store.now in
    let t = c.requires.taken in
    let j = c.args.journal.now in
    let name = c.args.join.name in
    let leaf = c.args.join.leaf in
    let id = c.args.join.step in
    let own = c.requires.own in
    let v = c.put_leaf.new.values in
    let steps = c.put_leaf.new.justs in
    let put = c.put_leaf.ensures in
    let n = put_renewed o s t v steps id c.requires.rests put.front put.fits put.others put.values put.said put.sources put.lasts in
    put_refused o s t j c.note_solution.new.journal name leaf c.in_ok-note_solution.ensures.ok
    (λ x named may.
    leaf_legal c.stores_are_in_step.ensures c.solve_lines_are_legal.ensures.turned o s t j.lines c.requires.step own.0 name leaf id own.1 own.2 c.requires.states c.requires.rests x named may c.requires.order)
    v steps n (a_leaf (own_leaf own.0 own.1)) c.from_residual-in_err-put_leaf.result _ c.from_residual-in_err-put_leaf.ensures.1

pub returns : goal.returns
returns c =
    let o = c.args.held.now in
    let s = c.args.store.now in
    let t = c.requires.taken in
    let j = c.args.journal.now in
    let name = c.args.join.name in
    let leaf = c.args.join.leaf in
    let id = c.args.join.step in
    let own = c.requires.own in
    let v = c.put_leaf.new.values in
    let steps = c.put_leaf.new.justs in
    let put = c.put_leaf.ensures in
    let n = put_renewed o s t v steps id c.requires.rests put.front put.fits put.others put.values put.said put.sources put.lasts in
    let lines = c.put_values_are_in_step.ensures.leaves (held_by s.signature s.nodes o.values) own.0 name leaf (values_of v) (live j.lines) (closed_are o s t) (values_are o s t) put.values
    (c.in_ok-put_leaf.ensures.put own.0 own.1) (lines_are o s t (live j.lines) c.requires.step) in
    put_taken o s t j c.note_solution.new.journal name leaf c.in_ok-note_solution.ensures.ok
    (λ x named may.
    leaf_legal c.stores_are_in_step.ensures c.solve_lines_are_legal.ensures.turned o s t j.lines c.requires.step own.0 name leaf id own.1 own.2 c.requires.states c.requires.rests x named may c.requires.order)
    v steps n (a_leaf (own_leaf own.0 own.1)) c.requires.step (slice_get_within (terms_in s) name (own.1).term (own.1).is) lines
    (leaf_solved s o.values v (values_are o s t) put.values (ap (λ (x : Contents). x.taken) put.others) own.0 name leaf (c.in_ok-put_leaf.ensures.put own.0 own.1))
