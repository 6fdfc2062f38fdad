use Rattle.std.proofs.Common.{ap, inr}
use Rattle.ae_journal.specs.Journals.{counted_in}
use Rattle.ae_journal.specs.Noted.{Noted}
use Rattle.ae_ordered_rounds.proofs.ordering.add_sides.Goals as goal

pub add_order-requires-clause-between : goal.add_order-requires-clause-between
add_order-requires-clause-between v c = c.requires.between

pub add_order-requires-clause-may : goal.add_order-requires-clause-may
add_order-requires-clause-may v c = c.requires.orderable.may

pub add_order-requires-clause-numbers : goal.add_order-requires-clause-numbers
add_order-requires-clause-numbers v c = c.requires.orderable.numbers

pub returns-in-Ok-clause-comes : goal.returns-in-Ok-clause-comes
returns-in-Ok-clause-comes v c k h =
    let numbers = c.requires.orderable.numbers in (
      c.in-Ok.ensures.between,
      c.in-Ok.ensures.lines,
      c.orders_stay.ensures c.args.task.problem.now c.args.task.goal c.args.search.now c.add_order.new.search k c.in-Ok.ensures.passes h,
      inr (
        ap (λ (n : Noted). counted_in n.lines) c.add_order.ensures.journal,
        record {
          left = c.args.left.now;
          right = c.args.right.now;
          clause = numbers.0;
          is = numbers.1;
          clauses = c.in-Ok.ensures.clauses numbers.0 numbers.1;
          trail = c.add_order.ensures.trail;
          blocks = c.add_order.ensures.blocks;
          is_open = c.requires.order_open;
        },
      ),
    )

pub returns-in-Ok-clause-limit : goal.returns-in-Ok-clause-limit
returns-in-Ok-clause-limit v c = ap (λ (n : Noted). n.limit) c.add_order.ensures.journal

pub returns-in-Err-clause-comes : goal.returns-in-Err-clause-comes
returns-in-Err-clause-comes v c k h = tt

pub returns-in-Err-clause-limit : goal.returns-in-Err-clause-limit
returns-in-Err-clause-limit v c = ap (λ (n : Noted). n.limit) c.add_order.ensures.journal
