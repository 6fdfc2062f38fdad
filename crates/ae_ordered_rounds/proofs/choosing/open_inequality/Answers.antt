use Rattle.std.specs.Prelude.{ℕ, ◌<◌, Option, IfSome}
use Rattle.std.proofs.Common.{sym, subst}
use Rattle.ae_order_counts.specs.Counts.{IsOrderOpen}
use Rattle.ae_ordered_rounds.specs.Inner.Orderable.{IsInequality}
use Rattle.ae_tight_sides.specs.declared.sides.Sides.{Sides}
use Rattle.ae_ordered_rounds.proofs.choosing.open_inequality.Goals as goal

pub returns-in-Some : goal.returns-in-Some
returns-in-Some c =
    let t = c.args.trail.now.assigned in
    let l = c.lit_at.result.now in
    let within = subst (λ (n : ℕ). c.loop-place.place < n) c.len-place-end.ensures c.loop-place-test.true in
    let w = subst (λ (o : Option Sides). IfSome o (λ both. IsInequality l both × IsOrderOpen t both.left both.right)) c.in-Some.is c.in_ok-found.ensures in
    (record { literal = l; strict = w.0.0; holds = (c.loop-place.place, within, sym c.lit_at.ensures); is = w.0.1 }, w.1)
