use Rattle.std.proofs.Common.{sym, subst}
use Rattle.ae_ordered_rounds.proofs.Steps.{passed_on}
use Rattle.ae_ordered_rounds.specs.Orders.{AreOrdersOf}
use Rattle.ae_theory.specs.declared.theory.Fail.TheVariants.{Memory}
use Rattle.ae_ordered_rounds.proofs.ordering.remember_tight.Goals as goal

pub all_sides-requires : goal.all_sides-requires
all_sides-requires v c = record { fine = c.requires.rows.fine }

pub returns-in_err-sides-clause-comes : goal.returns-in_err-sides-clause-comes
returns-in_err-sides-clause-comes v c = passed_on c.args.task.problem.now c.args.task.goal c.args.task.generations c.args.search.now c.args.search.now c.args.orders.now c.from_residual.result
    (Memory c.in_err-sides.field-0.0) c.from_residual.ensures.1 tt

pub go_on_tight-requires-clause-between : goal.go_on_tight-requires-clause-between
go_on_tight-requires-clause-between v c = c.requires.between

pub go_on_tight-requires-clause-is_open : goal.go_on_tight-requires-clause-is_open
go_on_tight-requires-clause-is_open v c = c.requires.is_open

pub go_on_tight-requires-clause-rows : goal.go_on_tight-requires-clause-rows
go_on_tight-requires-clause-rows v c = c.requires.rows

pub returns-clause-comes : goal.returns-clause-comes
returns-clause-comes v c =
    let k = c.args.task in
    c.go_on_tight.ensures.comes c.remember.new.self (subst (AreOrdersOf k.problem.now k.goal c.args.search.now) (sym c.remember.ensures) c.requires.orders)
