use Rattle.std.proofs.Common.{ap}
use Rattle.ae_base.specs.Options.{known}
use Rattle.ae_pmap.specs.Forest.{present}
use Rattle.ae_theory.specs.Names.{terms_in}
use Rattle.ae_value_fitting.specs.Fitting.{system_in}
use Rattle.ae_value_table.specs.Table.{leaf_at}
use Rattle.ae_value_turns.proofs.RenewedValues.{more_steps, taken_after}
use Rattle.ae_value_turns.proofs.SolveLines.{step_same}
use Rattle.ae_value_turns.proofs.TakenNames.{patterns_are, values_are, steps_are, said_are, over_store, over_held, grounded_are}
use Rattle.ae_journal.specs.Journals.{live}
use Rattle.ae_solving.proofs.Joining.{own_both}
use Rattle.ae_solving.proofs.PlainLeaves.{own_leaf, leaves_differ}
use Rattle.ae_solving.proofs.TakenUp.{taken_later, steps_refused}
use Rattle.ae_solving.proofs.leaves.leaf_equation.Goals as goal

pub join_leaves-requires-clause-fits : goal.join_leaves-requires-clause-fits
join_leaves-requires-clause-fits c = steps_are c.args.held.now c.args.store.now c.requires.taken

pub join_leaves-requires-clause-said : goal.join_leaves-requires-clause-said
join_leaves-requires-clause-said c = said_are c.args.held.now c.args.store.now c.requires.taken

pub join_leaves-requires-clause-left_sorted : goal.join_leaves-requires-clause-left_sorted
join_leaves-requires-clause-left_sorted c = ap known (c.requires.sorted).1

pub join_leaves-requires-clause-right_sorted : goal.join_leaves-requires-clause-right_sorted
join_leaves-requires-clause-right_sorted c = ap known (c.requires.sorted).2

pub join_leaves-requires-clause-differ : goal.join_leaves-requires-clause-differ
join_leaves-requires-clause-differ c =
    let o = c.args.held.now in
    let s = c.args.store.now in
    let t = c.requires.taken in
    let w = c.requires.sorted in
    leaves_differ s.signature (terms_in s) o.values (patterns_are o s t) (values_are o s t) w.0 c.args.left c.args.right (record { within = (c.requires.within).0; sorted = w.1; other = w.3; plain = w.4 })
    (record { within = (c.requires.within).1; sorted = w.2; other = w.3; plain = w.4 }) c.requires.apart

pub put_joined-requires-clause-taken : goal.put_joined-requires-clause-taken
put_joined-requires-clause-taken c =
    let o = c.args.held.now in
    let s = c.args.store.now in
    let t = c.requires.taken in
    taken_after o s t o.values c.join_leaves.new.justs (more_steps o s t c.join_leaves.new.justs c.join_leaves.ensures.front c.join_leaves.ensures.fits)

pub put_joined-requires-clause-step : goal.put_joined-requires-clause-step
put_joined-requires-clause-step c =
    let o = c.args.held.now in
    let s = c.args.store.now in
    let t = c.requires.taken in
    step_same o s t c.join_leaves.new.justs (more_steps o s t c.join_leaves.new.justs c.join_leaves.ensures.front c.join_leaves.ensures.fits) (live c.args.journal.now.lines) c.requires.step

pub put_joined-requires-clause-own : goal.put_joined-requires-clause-own
put_joined-requires-clause-own c =
    let o = c.args.held.now in
    let s = c.args.store.now in
    let t = c.requires.taken in
    let w = c.requires.sorted in
    let y = system_in (terms_in s) o.values in
    let own = own_leaf s.signature (terms_in s) o.values (patterns_are o s t) (values_are o s t) w.0 in
    let both = own_both s.signature y w.0 (leaf_at o.values c.args.left) (leaf_at o.values c.args.right) c.in_ok-join.join
    (own c.args.left (record { within = (c.requires.within).0; sorted = w.1; other = w.3; plain = w.4 })) (own c.args.right (record { within = (c.requires.within).1; sorted = w.2; other = w.3; plain = w.4 }))
    c.in_ok-join.ensures.both in
    (w.0, both.0, both.1)

pub put_joined-requires-clause-rests : goal.put_joined-requires-clause-rests
put_joined-requires-clause-rests c =
    let o = c.args.held.now in
    let s = c.args.store.now in
    let t = c.requires.taken in
    over_held o s t c.join_leaves.new.justs c.in_ok-join.join.step (c.in_ok-join.ensures.rests (present o.assumed) (grounded_are o s t) (over_store o s t o.justs c.args.step c.requires.rests))

pub returns-in_err-join : goal.returns-in_err-join
returns-in_err-join c =
    steps_refused c.args.held.now c.args.store.now c.requires.taken c.join_leaves.new.justs c.join_leaves.ensures.front c.join_leaves.ensures.fits c.args.journal.now
    c.from_residual.result _ c.from_residual.ensures.1

pub returns : goal.returns
returns c =
    taken_later c.args.held.now c.args.store.now c.requires.taken c.join_leaves.new.justs c.join_leaves.ensures.front c.join_leaves.ensures.fits c.args.journal.now c.put_joined.new.held c.put_joined.new.journal c.put_joined.result
    c.put_joined.ensures
