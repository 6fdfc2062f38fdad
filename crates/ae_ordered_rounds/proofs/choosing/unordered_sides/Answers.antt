use Rattle.std.specs.Prelude.{Option, IfSome}
use Rattle.std.proofs.Common.{sym, subst}
use Rattle.ae_journal.proofs.Splits.{all_contained}
use Rattle.ae_order_counts.specs.Counts.{IsOrderOpen}
use Rattle.ae_ordered_rounds.specs.Inner.Orderable.{IsFineRow}
use Rattle.ae_theory.specs.Names.{terms_in}
use Rattle.ae_tight_sides.specs.Sides.{AreSidesOf}
use Rattle.ae_tight_sides.specs.declared.sides.Sides.{Sides}
use Rattle.ae_ordered_rounds.proofs.choosing.unordered_sides.Goals as goal

pub open_sides-requires : goal.open_sides-requires
open_sides-requires c = record {
  fine = all_contained (IsFineRow c.args.store.now) c.args.rows.now c.row-item.result c.requires.fine (c.loop-row.row-index, c.loop-row-test.true, sym c.row-item.is);
}

pub returns-in-Some : goal.returns-in-Some
returns-in-Some c =
    let row = c.row-item.result in
    let w = subst (λ (o : Option Sides). IfSome o (λ both. AreSidesOf (terms_in c.args.store.now) row both × IsOrderOpen c.args.trail.now.assigned both.left both.right)) c.in-Some.is c.in_ok-found.ensures in
    ((row, (c.loop-row.row-index, c.loop-row-test.true, sym c.row-item.is), w.0), w.1)
