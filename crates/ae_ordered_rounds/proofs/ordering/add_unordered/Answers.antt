use Rattle.std.specs.Prelude.{List, Option, IfSome}
use Rattle.std.specs.List.{Contains}
use Rattle.std.proofs.Common.{subst}
use Rattle.ae_explain.specs.declared.trail.Assigned.{Assigned}
use Rattle.ae_inequalities.specs.declared.rows.Row.{Row}
use Rattle.ae_journal.proofs.Splits.{all_contained}
use Rattle.ae_order_counts.specs.Counts.{IsOrderOpen}
use Rattle.ae_ordered_rounds.proofs.Steps.{passed_on}
use Rattle.ae_ordered_rounds.specs.Inner.Orderable.{IsOrderable}
use Rattle.ae_theory.specs.Names.{terms_in}
use Rattle.ae_theory.specs.declared.theory.Fail.TheVariants.{Memory}
use Rattle.ae_tight_sides.specs.Sides.{AreSidesOf}
use Rattle.ae_tight_sides.specs.declared.sides.Sides.{Sides}
use Rattle.ae_ordered_rounds.proofs.ordering.add_unordered.Goals as goal

pub unordered_sides-requires : goal.unordered_sides-requires
unordered_sides-requires v c = record { fine = c.requires.rows.fine }

pub returns-in_err-found-clause-comes : goal.returns-in_err-found-clause-comes
returns-in_err-found-clause-comes v c = λ k h. passed_on c.args.task.problem.now c.args.task.goal c.args.task.generations c.args.search.now c.args.search.now k c.from_residual.result
    (Memory c.in_err-found.field-0.0) c.from_residual.ensures.1 tt

pub add_inequality-requires-clause-between : goal.add_inequality-requires-clause-between
add_inequality-requires-clause-between v c = c.requires.between

pub add_inequality-requires-clause-is_open : goal.add_inequality-requires-clause-is_open
add_inequality-requires-clause-is_open v c = c.requires.is_open

pub returns-in-None-clause-comes : goal.returns-in-None-clause-comes
returns-in-None-clause-comes v c k h = c.add_inequality.ensures.comes k h

pub add_sides-requires-clause-between : goal.add_sides-requires-clause-between
add_sides-requires-clause-between v c = c.requires.between

pub add_sides-requires-clause-orderable : goal.add_sides-requires-clause-orderable
add_sides-requires-clause-orderable v c =
    let p = c.args.task.problem.now in
    let g = c.args.task.goal in
    let o = c.args.search.now in
    let w =
    (subst (λ (found : Option Sides). IfSome found (λ both. ((row : Row) × Contains c.args.rows.now row × AreSidesOf (terms_in o.store) row both) × IsOrderOpen c.trail.result.now.assigned both.left both.right)) c.in-Some.is c.in_ok-found.ensures).0 in
    all_contained (λ (r : Row). (both : Sides) → AreSidesOf (terms_in o.store) r both → IsOrderable p g o both.left both.right) c.args.rows.now w.0 c.requires.rows.sides w.1 c.in-Some.both w.2

pub add_sides-requires-clause-order_open : goal.add_sides-requires-clause-order_open
add_sides-requires-clause-order_open v c =
    let both = c.in-Some.both in
    let w =
    (subst (λ (found : Option Sides). IfSome found (λ both. ((row : Row) × Contains c.args.rows.now row × AreSidesOf (terms_in c.args.search.now.store) row both) × IsOrderOpen c.trail.result.now.assigned both.left both.right)) c.in-Some.is c.in_ok-found.ensures).1 in
    subst (λ (t : List Assigned). IsOrderOpen t both.left both.right) c.trail.ensures w

pub returns-in-Some-clause-comes : goal.returns-in-Some-clause-comes
returns-in-Some-clause-comes v c k h = c.add_sides.ensures.comes k h
