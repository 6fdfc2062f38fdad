use Rattle.std.specs.Prelude.{◌≡◌, List, [], length, Some}
use Rattle.std.specs.List.{AllByRecursion, Contains}
use Rattle.std.proofs.Common.{refl, sym, ap, ◌∙◌, subst, append-nil}
use Rattle.ae_explain.specs.declared.trail.Assigned.{Assigned}
use Rattle.ae_inequalities.specs.declared.rows.Row.{Row}
use Rattle.ae_journal.specs.Standing.{Setting}
use Rattle.ae_kept_orders.specs.Orders.{AreOrdersOf}
use Rattle.ae_kept_orders.specs.Rows.{AreInStepWith, AreKeptAt, AreRowsFor, IsTold, StandBeside, literals_from}
use Rattle.ae_opaque_numbers.specs.Opaque.{AreOpaqueNumbers}
use Rattle.ae_propagation.specs.Settled.{last_level}
use Rattle.ae_sat.specs.Marked.{atoms}
use Rattle.ae_solved_orders.proofs.Combined.{all_three, grown, open_after, orders_after, point_after, with_journal}
use Rattle.ae_solved_orders.proofs.Standing.{are_opaque, is_told, marks_long, stands}
use Rattle.ae_solved_orders.proofs.Trails.{listed}
use Rattle.ae_state.specs.Fitting.{FitsStore}
use Rattle.ae_state.specs.Names.{system_now, terms_now}
use Rattle.ae_state.specs.declared.holding.Holding.{Holding}
use Rattle.ae_theory.specs.Names.{terms_in}
use Rattle.ae_theory.specs.Noting.{IsBlockOf}
use Rattle.ae_solved_orders.proofs.solving.solve_orders.Goals as goal

-- ---- what the rows rest on
pub solve_rows-requires-clause-fits : goal.solve_rows-requires-clause-fits
solve_rows-requires-clause-fits v c = subst (λ (h : Holding). FitsStore h c.args.search.now.store) (sym c.theory.ensures) c.requires.between.searching.alive.fits_store

pub solve_rows-requires-clause-taken : goal.solve_rows-requires-clause-taken
solve_rows-requires-clause-taken v c = subst (λ (h : Holding). terms_now h ≡ terms_in c.args.search.now.store) (sym c.theory.ensures) c.requires.is_open.complete.1

pub solve_rows-requires-clause-opaque : goal.solve_rows-requires-clause-opaque
solve_rows-requires-clause-opaque v c =
    let k = c.args.task in
    let o = c.args.search.now in
    subst (λ (h : Holding). AreOpaqueNumbers o.store.signature (system_now h)) (sym c.theory.ensures)
    (are_opaque k.problem.now k.goal k.generations o c.requires.between c.requires.is_open c.opaque_numbers_are_leaves.ensures)

pub solve_rows-requires-clause-told : goal.solve_rows-requires-clause-told
solve_rows-requires-clause-told v c =
    let k = c.args.task in
    let o = c.args.search.now in
    subst (λ (z : Holding × List Assigned). IsTold z.0 o.store z.1) (λ i. (sym c.theory.ensures i, sym (c.as_slice.ensures.value ∙ c.trail.ensures) i))
    (is_told k.problem.now k.goal k.generations o c.requires.between c.requires.is_open)

pub solve_rows-requires-clause-marks : goal.solve_rows-requires-clause-marks
solve_rows-requires-clause-marks v c =
    let k = c.args.task in
    let o = c.args.search.now in
    let b = c.requires.between in
    ap length c.as_slice-2.ensures ∙ marks_long k.problem.now k.goal k.generations o b c.requires.is_open _
    (λ x told. c.in_ok-marks.ensures k.generations (last_level o.solver.propagation.trail) o.store o.blocks.opened o.lines.items c.requires.between.searching c.requires.is_open.all_true x told)
    ∙ sym (ap length (c.as_slice.ensures.value ∙ c.trail.ensures))

pub solve_rows-requires-clause-kept : goal.solve_rows-requires-clause-kept
solve_rows-requires-clause-kept v c =
    subst (λ (t : List Assigned). AreKeptAt c.args.search.now.store t (length c.args.search.now.journal.lines) c.args.kept) (sym (c.as_slice.ensures.value ∙ c.trail.ensures)) c.requires.orders.kept

-- ---- nothing was noted
pub returns-in_err-marks-clause-same : goal.returns-in_err-marks-clause-same
returns-in_err-marks-clause-same v c =
    record { store = refl; solver = refl; lines = refl; blocks = refl; ages = refl; known = refl; looked = refl; owners = refl; instances = refl }

pub returns-in_err-marks-clause-combines : goal.returns-in_err-marks-clause-combines
returns-in_err-marks-clause-combines v c = ([], sym (append-nil c.args.search.now.journal.lines), tt)

-- ---- the rows were solved
pub returns-clause-between : goal.returns-clause-between
returns-clause-between v c =
    let k = c.args.task in
    let o = c.args.search.now in
    let e = c.solve_rows.ensures.combines in
    let trail_is = c.as_slice.ensures.value ∙ c.trail.ensures in
    let stand =
    stands k.problem.now k.goal k.generations o c.requires.between c.requires.is_open c.args.kept c.requires.orders _
    (λ x told. c.in_ok-marks.ensures k.generations (last_level o.solver.propagation.trail) o.store o.blocks.opened o.lines.items c.requires.between.searching c.requires.is_open.all_true x told)
    (λ x told. c.trail_stands.ensures.may k.problem.now k.goal k.generations (last_level o.solver.propagation.trail) o.store o.blocks.opened o.lines.items o.journal.lines c.requires.between.searching x told)
    (λ x told. c.trail_stands.ensures.surely k.problem.now k.goal k.generations (last_level o.solver.propagation.trail) o.store o.blocks.opened o.lines.items o.journal.lines c.requires.between.searching c.requires.is_open.all_true x told)
    c.theory.result.now c.as_slice.result.now c.as_slice-2.result.now c.theory.ensures trail_is c.as_slice-2.ensures in
    grown k.problem.now k.goal k.generations o c.requires.between c.solve_rows.new.journal e.0 e.1 e.2 (λ x told. c.solve_rows.ensures.legal x k.generations (stand x told))
    (c.combinations_grow.ensures k.problem.now k.goal k.generations (last_level o.solver.propagation.trail) o.store o.blocks.opened o.lines.items o.journal.lines e.0 e.2)

pub returns-clause-is_open : goal.returns-clause-is_open
returns-clause-is_open v c =
    let k = c.args.task in
    let o = c.args.search.now in
    let e = c.solve_rows.ensures.combines in
    let trail_is = c.as_slice.ensures.value ∙ c.trail.ensures in
    let stand =
    stands k.problem.now k.goal k.generations o c.requires.between c.requires.is_open c.args.kept c.requires.orders _
    (λ x told. c.in_ok-marks.ensures k.generations (last_level o.solver.propagation.trail) o.store o.blocks.opened o.lines.items c.requires.between.searching c.requires.is_open.all_true x told)
    (λ x told. c.trail_stands.ensures.may k.problem.now k.goal k.generations (last_level o.solver.propagation.trail) o.store o.blocks.opened o.lines.items o.journal.lines c.requires.between.searching x told)
    (λ x told. c.trail_stands.ensures.surely k.problem.now k.goal k.generations (last_level o.solver.propagation.trail) o.store o.blocks.opened o.lines.items o.journal.lines c.requires.between.searching c.requires.is_open.all_true x told)
    c.theory.result.now c.as_slice.result.now c.as_slice-2.result.now c.theory.ensures trail_is c.as_slice-2.ensures in
    let after =
    grown k.problem.now k.goal k.generations o c.requires.between c.solve_rows.new.journal e.0 e.1 e.2 (λ x told. c.solve_rows.ensures.legal x k.generations (stand x told))
    (c.combinations_grow.ensures k.problem.now k.goal k.generations (last_level o.solver.propagation.trail) o.store o.blocks.opened o.lines.items o.journal.lines e.0 e.2) in
    open_after k.problem.now k.goal k.generations o c.requires.between c.solve_rows.new.journal e.0 e.1 e.2 after c.requires.is_open

pub returns-clause-same : goal.returns-clause-same
returns-clause-same v c = record { store = refl; solver = refl; lines = refl; blocks = refl; ages = refl; known = refl; looked = refl; owners = refl; instances = refl }

pub returns-clause-lines : goal.returns-clause-lines
returns-clause-lines v c = c.solve_rows.ensures.lines

pub returns-clause-orders : goal.returns-clause-orders
returns-clause-orders v c =
    let k = c.args.task in
    let o = c.args.search.now in
    let e = c.solve_rows.ensures.combines in
    let trail_is = c.as_slice.ensures.value ∙ c.trail.ensures in
    let stand =
    stands k.problem.now k.goal k.generations o c.requires.between c.requires.is_open c.args.kept c.requires.orders _
    (λ x told. c.in_ok-marks.ensures k.generations (last_level o.solver.propagation.trail) o.store o.blocks.opened o.lines.items c.requires.between.searching c.requires.is_open.all_true x told)
    (λ x told. c.trail_stands.ensures.may k.problem.now k.goal k.generations (last_level o.solver.propagation.trail) o.store o.blocks.opened o.lines.items o.journal.lines c.requires.between.searching x told)
    (λ x told. c.trail_stands.ensures.surely k.problem.now k.goal k.generations (last_level o.solver.propagation.trail) o.store o.blocks.opened o.lines.items o.journal.lines c.requires.between.searching c.requires.is_open.all_true x told)
    c.theory.result.now c.as_slice.result.now c.as_slice-2.result.now c.theory.ensures trail_is c.as_slice-2.ensures in
    all_three c.solve_rows.result (λ r. AreRowsFor o.store c.as_slice.result.now r.kept) (λ r. r.kept.lines ≡ length c.solve_rows.new.journal.lines)
    (λ r. (x : Setting) → StandBeside x o.journal.lines o.store c.theory.result.now c.as_slice.result.now c.as_slice-2.result.now c.args.kept → AreInStepWith x c.solve_rows.new.journal.lines c.as_slice.result.now r.kept)
    (λ r. AreOrdersOf k.problem.now k.goal (with_journal o c.solve_rows.new.journal) (Some r.kept))
    (λ r rows long step.
    orders_after k.problem.now k.goal k.generations o c.requires.between c.solve_rows.new.journal e.0 e.1 e.2 r.kept long
    (subst (λ (t : List Assigned). AreRowsFor o.store t r.kept) trail_is rows)
    (λ x told. subst (λ (t : List Assigned). AreInStepWith x c.solve_rows.new.journal.lines t r.kept) trail_is (step x (stand x told))))
    c.solve_rows.ensures.kept c.solve_rows.ensures.lines c.solve_rows.ensures.agreed

pub returns-clause-point : goal.returns-clause-point
returns-clause-point v c r made is found =
    let k = c.args.task in
    let o = c.args.search.now in
    let e = c.solve_rows.ensures.combines in
    let trail_is = c.as_slice.ensures.value ∙ c.trail.ensures in
    let stand =
    stands k.problem.now k.goal k.generations o c.requires.between c.requires.is_open c.args.kept c.requires.orders _
    (λ x told. c.in_ok-marks.ensures k.generations (last_level o.solver.propagation.trail) o.store o.blocks.opened o.lines.items c.requires.between.searching c.requires.is_open.all_true x told)
    (λ x told. c.trail_stands.ensures.may k.problem.now k.goal k.generations (last_level o.solver.propagation.trail) o.store o.blocks.opened o.lines.items o.journal.lines c.requires.between.searching x told)
    (λ x told. c.trail_stands.ensures.surely k.problem.now k.goal k.generations (last_level o.solver.propagation.trail) o.store o.blocks.opened o.lines.items o.journal.lines c.requires.between.searching c.requires.is_open.all_true x told)
    c.theory.result.now c.as_slice.result.now c.as_slice-2.result.now c.theory.ensures trail_is c.as_slice-2.ensures in
    let after =
    grown k.problem.now k.goal k.generations o c.requires.between c.solve_rows.new.journal e.0 e.1 e.2 (λ x told. c.solve_rows.ensures.legal x k.generations (stand x told))
    (c.combinations_grow.ensures k.problem.now k.goal k.generations (last_level o.solver.propagation.trail) o.store o.blocks.opened o.lines.items o.journal.lines e.0 e.2) in
    point_after k.problem.now k.goal k.generations o c.requires.between c.solve_rows.new.journal e.0 e.1 e.2 after c.requires.is_open made
    (λ x told l u w strict there.
    c.solve_rows.ensures.point r made is found x (stand x told) l u w strict (subst (λ (t : List Assigned). Contains (literals_from t 0) l) (sym trail_is) there))

pub returns-clause-stand : goal.returns-clause-stand
returns-clause-stand v c = c.solve_rows.ensures.stand

pub returns-clause-contradiction : goal.returns-clause-contradiction
returns-clause-contradiction v c r e is found =
    let w = c.solve_rows.ensures.contradiction r e is found in
    (w.0, subst (λ (t : List Assigned). IsBlockOf (atoms t) e.block.deriv.hyps e.tags) (c.as_slice.ensures.value ∙ c.trail.ensures) w.1)

pub returns-clause-tight : goal.returns-clause-tight
returns-clause-tight v c r rows is found =
    let w = c.solve_rows.ensures.tight r rows is found in
    (w.0, subst (λ (t : List Assigned). AllByRecursion (λ (row : Row). IsBlockOf (atoms t) row.from.deriv.hyps row.from.tags) rows) (c.as_slice.ensures.value ∙ c.trail.ensures) w.1)

pub returns-clause-number : goal.returns-clause-number
returns-clause-number v c wide is x told =
    let k = c.args.task in
    let o = c.args.search.now in
    let e = c.solve_rows.ensures.combines in
    let trail_is = c.as_slice.ensures.value ∙ c.trail.ensures in
    let stand =
    stands k.problem.now k.goal k.generations o c.requires.between c.requires.is_open c.args.kept c.requires.orders _
    (λ x told. c.in_ok-marks.ensures k.generations (last_level o.solver.propagation.trail) o.store o.blocks.opened o.lines.items c.requires.between.searching c.requires.is_open.all_true x told)
    (λ x told. c.trail_stands.ensures.may k.problem.now k.goal k.generations (last_level o.solver.propagation.trail) o.store o.blocks.opened o.lines.items o.journal.lines c.requires.between.searching x told)
    (λ x told. c.trail_stands.ensures.surely k.problem.now k.goal k.generations (last_level o.solver.propagation.trail) o.store o.blocks.opened o.lines.items o.journal.lines c.requires.between.searching c.requires.is_open.all_true x told)
    c.theory.result.now c.as_slice.result.now c.as_slice-2.result.now c.theory.ensures trail_is c.as_slice-2.ensures in
    let after =
    grown k.problem.now k.goal k.generations o c.requires.between c.solve_rows.new.journal e.0 e.1 e.2 (λ x told. c.solve_rows.ensures.legal x k.generations (stand x told))
    (c.combinations_grow.ensures k.problem.now k.goal k.generations (last_level o.solver.propagation.trail) o.store o.blocks.opened o.lines.items o.journal.lines e.0 e.2) in
    let still = open_after k.problem.now k.goal k.generations o c.requires.between c.solve_rows.new.journal e.0 e.1 e.2 after c.requires.is_open in
    c.solve_rows.ensures.number wide is x (stand x told)
    (λ l u w strict may inequal.
    subst (λ (t : List Assigned). Contains (literals_from t 0) l) (sym trail_is)
    (listed o.solver.propagation.trail l
    (c.open_trails_are_filled.ensures.inequalities k.problem.now k.goal k.generations (with_journal o c.solve_rows.new.journal) after still c.requires.served c.requires.ordered x told l u w strict may inequal)))
