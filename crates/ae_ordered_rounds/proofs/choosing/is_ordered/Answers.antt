use Rattle.ae_core.specs.declared.formulas.Formula.{Eq, Lt}
use Rattle.ae_ordered_rounds.proofs.Asking.{order_known, where_false, where_true}
use Rattle.ae_propagation.specs.Settled.{Holds}
use Rattle.ae_rules.specs.Clauses.{is_true}
use Rattle.ae_ordered_rounds.proofs.choosing.is_ordered.Goals as goal

pub returns-then-rising : goal.returns-then-rising
returns-then-rising c = λ o. o.below (where_true _ _ c.in_ok-rising.rising c.if-rising.true c.in_ok-rising.ensures)

pub returns-then-falling : goal.returns-then-falling
returns-then-falling c = λ o. o.above (where_true _ _ c.in_ok-falling.falling c.if-falling.true c.in_ok-falling.ensures)

pub returns-then-same : goal.returns-then-same
returns-then-same c = λ o. o.equal (where_true _ _ c.in_ok-same.same c.if-same.true c.in_ok-same.ensures)

pub returns : goal.returns
returns c =
    let t = c.args.trail.now.assigned in
    let s = c.args.left.now in
    let u = c.args.right.now in
    order_known t s u c.in_ok-turned.turned (where_false (Holds t (is_true (Lt s u))) _ c.in_ok-rising.rising c.if-rising.false c.in_ok-rising.ensures)
    (where_false (Holds t (is_true (Lt u s))) _ c.in_ok-falling.falling c.if-falling.false c.in_ok-falling.ensures)
    (where_false (Holds t (is_true (Eq s u))) _ c.in_ok-same.same c.if-same.false c.in_ok-same.ensures) c.in_ok-turned.ensures
