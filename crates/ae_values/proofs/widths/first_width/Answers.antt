use Rattle.std.specs.Prelude.{ℕ}
use Rattle.std.proofs.Common.{refl, arith, below_more}
use Rattle.ae_linear.specs.Rows.{row_at, FitsAt}
use Rattle.ae_values.proofs.WidthLaws.{none_leaves, none_wide}
use Rattle.ae_values.proofs.widths.first_width.Goals as goal

pub unreachable-requires : goal.unreachable-requires
unreachable-requires c =
    let w = c.requires.wide in
    let inside = c.requires.within (w.1).at (w.1).leaves.row (w.1).leaves.there in
    none_wide (λ n. row_at c.args.values.now.rows n) c.args.name c.args.number c.loop-of.of c.loop-of.invariant w.0 w.1 (omega (arith, inside, c.loop-of-test.false, c.len-of-end.ensures.len))

pub returns-in-Some : goal.returns-in-Some
returns-in-Some c = record { step = refl; key = refl; right = refl; of = c.loop-of.of; leaving = rw c.in-Some.is at c.in_ok-found.ensures.some; before = c.loop-of.invariant }

pub loop-of-preserved : goal.loop-of-preserved
loop-of-preserved c =
    let fits : FitsAt (row_at c.args.values.now.rows c.loop-of.of) c.args.name c.args.number = none_leaves c.in_ok-found.field-0 (row_at c.args.values.now.rows c.loop-of.of) c.args.name c.args.number c.in_default.not-Some c.in_ok-found.ensures.none in
    λ n l. below_more (λ (m : ℕ). FitsAt (row_at c.args.values.now.rows m) c.args.name c.args.number) c.loop-of.of c.loop-of.invariant fits n l
