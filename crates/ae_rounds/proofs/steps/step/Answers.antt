use Rattle.std.specs.Prelude.{Bool, Ok, Result, length}
use Rattle.std.proofs.Common.{sym, ap, ◌∙◌, subst, arith}
use Rattle.ae_between_rounds.specs.Between.{IsBetweenRounds}
use Rattle.ae_between_rounds.specs.Finished.{IsOpenSearch}
use Rattle.ae_between_rounds.specs.declared.search.Search.{Search}
use Rattle.ae_journal.specs.Journals.{counted_in}
use Rattle.ae_journal.specs.Noted.{Noted}
use Rattle.ae_opening.specs.Asking.{AllServed}
use Rattle.ae_ordered_rounds.specs.Comes.{HasOrdered}
use Rattle.ae_ordered_rounds.specs.Orders.{AreOrdersOf}
use Rattle.ae_ordered_rounds.specs.declared.ordering.Ordered.{Ordered}
use Rattle.ae_rounds.proofs.Failing.{failed_ordered, passed_on}
use Rattle.ae_rounds.proofs.Stepping.{added_by, finished_later, served_still}
use Rattle.ae_rounds.specs.Ended.{HasOpened}
use Rattle.ae_rounds.specs.Turns.{HasStepped, IsStep}
use Rattle.ae_rounds.specs.declared.progress.Progress.{Progress}
use Rattle.ae_theory.specs.declared.theory.Fail.{Fail}
use Rattle.ae_rounds.proofs.steps.step.Goals as goal

pub open_some-requires : goal.open_some-requires
open_some-requires g c = record { between = c.requires.turns.between }

pub returns-in_err-open_some : goal.returns-in_err-open_some
returns-in_err-open_some g c = record {
  stepped = passed_on (λ (r : Result Progress Fail). HasStepped c.args.task.problem.now c.args.task.goal c.args.task.generations c.args.search.now c.open_some.new.search c.args.orders.now r)
      c.from_residual.result c.in_err-open_some.field-0.0 c.from_residual.ensures.1
      (subst (λ (r : Result Bool Fail). HasOpened c.args.task.problem.now c.args.task.goal c.args.task.generations c.args.search.now c.open_some.new.search r) c.in_err-open_some.was c.open_some.ensures.opened);
  limit = c.open_some.ensures.limit;
}

pub returns-then-branch : goal.returns-then-branch
returns-then-branch g c =
    let p = c.args.task.problem.now in
    let k = c.args.task.goal in
    let b = c.args.task.generations in
    let w = subst (λ (r : Result Bool Fail). HasOpened p k b c.args.search.now c.open_some.new.search r) (c.in_ok-open_some.was ∙ ap (λ (x : Bool). Ok x) c.if-branch.true) c.open_some.ensures.opened in
    record {
      stepped = record {
        between = w.between;
        orders = c.orders_stay.ensures p k c.args.search.now c.open_some.new.search c.args.orders.now w.passes c.requires.turns.orders;
        lines = w.lines;
        added = (ap (λ (j : Noted). counted_in j.lines) w.journal, w.falls);
      };
      limit = c.open_some.ensures.limit;
    }

pub order_round-requires : goal.order_round-requires
order_round-requires g c =
    let p = c.args.task.problem.now in
    let k = c.args.task.goal in
    let b = c.args.task.generations in
    let w = subst (λ (r : Result Bool Fail). HasOpened p k b c.args.search.now c.open_some.new.search r) (c.in_ok-open_some.was ∙ ap (λ (x : Bool). Ok x) c.if-branch.false) c.open_some.ensures.opened in
    record {
      between = subst (IsBetweenRounds p k b) (sym w.0) c.requires.turns.between;
      is_open = subst IsOpenSearch (sym w.0) c.requires.turns.is_open;
      served = subst (λ (o : Search). AllServed o.solver.propagation.trail o.blocks.opened) (sym w.0) w.1;
      orders = subst (λ (o : Search). AreOrdersOf p k o c.args.orders.now) (sym w.0) c.requires.turns.orders;
    }

pub returns-in_err-order_round : goal.returns-in_err-order_round
returns-in_err-order_round g c =
    let p = c.args.task.problem.now in
    let k = c.args.task.goal in
    let b = c.args.task.generations in
    let e = c.order_round.ensures in
    let new = c.order_round.new.search in
    record {
      stepped = passed_on (λ (r : Result Progress Fail). HasStepped p k b c.args.search.now new c.order_round.new.orders r) c.from_residual-in_err-order_round.result c.in_err-order_round.field-0.0
          c.from_residual-in_err-order_round.ensures.1
          (failed_ordered p k b c.open_some.new.search new c.order_round.new.orders c.in_err-order_round.field-0.0
          (subst (λ (r : Result Ordered Fail). HasOrdered p k b c.open_some.new.search new c.order_round.new.orders r) c.in_err-order_round.was e.comes));
      limit = e.limit ∙ c.open_some.ensures.limit;
    }

pub returns-in-Refuted : goal.returns-in-Refuted
returns-in-Refuted g c = record {
  stepped = subst (λ (r : Result Ordered Fail). HasOrdered c.args.task.problem.now c.args.task.goal c.args.task.generations c.open_some.new.search c.order_round.new.search c.order_round.new.orders r)
      (c.in_ok-order_round.was ∙ ap (λ (x : Ordered). Ok x) c.in-Refuted.is) c.order_round.ensures.comes;
  limit = c.order_round.ensures.limit ∙ c.open_some.ensures.limit;
}

pub returns-in-Added : goal.returns-in-Added
returns-in-Added g c =
    let p = c.args.task.problem.now in
    let k = c.args.task.goal in
    let b = c.args.task.generations in
    let w = subst (λ (r : Result Bool Fail). HasOpened p k b c.args.search.now c.open_some.new.search r) (c.in_ok-open_some.was ∙ ap (λ (x : Bool). Ok x) c.if-branch.false) c.open_some.ensures.opened in
    let h = subst (λ (r : Result Ordered Fail). HasOrdered p k b c.open_some.new.search c.order_round.new.search c.order_round.new.orders r)
    (c.in_ok-order_round.was ∙ ap (λ (x : Ordered). Ok x) c.in-Added.is) c.order_round.ensures.comes in
    record {
      stepped = subst (λ (o : Search). IsStep p k b c.added_since-added.result o c.order_round.new.search c.order_round.new.orders) w.0 record {
        between = h.0;
        orders = h.2;
        lines = h.1;
        added = added_by p k b c.open_some.new.search c.order_round.new.search c.counted-before.result c.added_since-added.result c.counted-before.ensures.count c.added_since-added.ensures.lines
            c.added_since-added.ensures.same h.3;
      };
      limit = c.order_round.ensures.limit ∙ c.open_some.ensures.limit;
    }

pub finish-requires : goal.finish-requires
finish-requires g c =
    let p = c.args.task.problem.now in
    let k = c.args.task.goal in
    let b = c.args.task.generations in
    let w = subst (λ (r : Result Bool Fail). HasOpened p k b c.args.search.now c.open_some.new.search r) (c.in_ok-open_some.was ∙ ap (λ (x : Bool). Ok x) c.if-branch.false) c.open_some.ensures.opened in
    let found = subst (λ (r : Result Ordered Fail). HasOrdered p k b c.open_some.new.search c.order_round.new.search c.order_round.new.orders r)
    (c.in_ok-order_round.was ∙ ap (λ (x : Ordered). Ok x) c.in-Point.is) c.order_round.ensures.comes in
    let served : AllServed c.open_some.new.search.solver.propagation.trail c.open_some.new.search.blocks.opened = subst (λ (o : Search). AllServed o.solver.propagation.trail o.blocks.opened) (sym w.0) w.1 in
    record {
      lawful = c.requires.lawful;
      between = found.between;
      limit = c.order_round.ensures.limit ∙ c.open_some.ensures.limit ∙ c.requires.limit;
      is_open = found.is_open;
      served = served_still c.open_some.new.search c.order_round.new.search found.same.solver found.same.blocks served;
      point = found.point;
      written = found.written;
    }

pub returns-in-Point : goal.returns-in-Point
returns-in-Point g c =
    let p = c.args.task.problem.now in
    let k = c.args.task.goal in
    let b = c.args.task.generations in
    let w = subst (λ (r : Result Bool Fail). HasOpened p k b c.args.search.now c.open_some.new.search r) (c.in_ok-open_some.was ∙ ap (λ (x : Bool). Ok x) c.if-branch.false) c.open_some.ensures.opened in
    let found = subst (λ (r : Result Ordered Fail). HasOrdered p k b c.open_some.new.search c.order_round.new.search c.order_round.new.orders r)
    (c.in_ok-order_round.was ∙ ap (λ (x : Ordered). Ok x) c.in-Point.is) c.order_round.ensures.comes in
    record {
      stepped = finished_later p k b c.args.search.now c.order_round.new.search c.finish.new.search c.order_round.new.orders c.finish.result
          (omega (arith, ap (λ (o : Search). length o.lines.items) w.0, ap (λ v. length v.items) found.same.lines))
          (omega (arith, ap (λ (o : Search). counted_in o.journal.lines) w.0, found.counted)) (c.finish.ensures.finished c.order_round.new.orders found.orders);
      limit = c.finish.ensures.limit ∙ c.order_round.ensures.limit ∙ c.open_some.ensures.limit;
    }
