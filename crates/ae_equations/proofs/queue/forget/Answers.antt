use Rattle.std.proofs.Common.{refl}
use Rattle.ae_pmap.specs.Forest.{present}
use Rattle.ae_equations.proofs.QueueLaws.{on_err_always, placed_as, waiting_as, placed_fewer, waiting_fewer, none_fewer}
use Rattle.ae_equations.proofs.queue.forget.Goals as goal

pub returns-in_default-clause-ok : goal.returns-in_default-clause-ok
returns-in_default-clause-ok c = none_fewer (present c.args.queue.now.places) c.in_default.ensures

pub returns-in_err-remove-clause-placed : goal.returns-in_err-remove-clause-placed
returns-in_err-remove-clause-placed c = placed_as c.args.queue.now (record { places = c.remove.new.self; next = c.args.queue.now.next }) c.requires.placed c.in_err-remove.ensures.err refl

pub returns-in_err-remove-clause-err : goal.returns-in_err-remove-clause-err
returns-in_err-remove-clause-err c = on_err_always c.from_residual.result (waiting_as c.args.queue.now (record { places = c.remove.new.self; next = c.args.queue.now.next }) c.in_err-remove.ensures.err)

pub returns-clause-placed : goal.returns-clause-placed
returns-clause-placed c =
    placed_fewer c.args.queue.now (record { places = c.remove.new.self; next = c.args.queue.now.next }) c.in-Some.place c.in-Some.ensures c.in_ok-remove.ensures.ok c.requires.placed refl

pub returns-clause-ok : goal.returns-clause-ok
returns-clause-ok c = waiting_fewer c.args.queue.now (record { places = c.remove.new.self; next = c.args.queue.now.next }) c.in-Some.place c.in-Some.ensures c.in_ok-remove.ensures.ok
