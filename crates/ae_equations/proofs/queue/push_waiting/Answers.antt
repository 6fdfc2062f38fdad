use Rattle.std.proofs.Common.{refl}
use Rattle.ae_equations.proofs.QueueLaws.{on_err_always, placed_as, waiting_as, placed_more, waiting_more}
use Rattle.ae_equations.proofs.queue.push_waiting.Goals as goal

pub returns-in_err-insert-clause-placed : goal.returns-in_err-insert-clause-placed
returns-in_err-insert-clause-placed c = placed_as c.args.queue.now (record { places = c.insert.new.self; next = c.args.queue.now.next }) c.requires.placed c.in_err-insert.ensures.err refl

pub returns-in_err-insert-clause-err : goal.returns-in_err-insert-clause-err
returns-in_err-insert-clause-err c = on_err_always c.from_residual.result (waiting_as c.args.queue.now (record { places = c.insert.new.self; next = c.args.queue.now.next }) c.in_err-insert.ensures.err)

pub returns-clause-placed : goal.returns-clause-placed
returns-clause-placed c =
    placed_more c.args.queue.now (record { places = c.insert.new.self; next = c.in-Some.next }) c.args.equation c.requires.placed c.in_ok-insert.ensures.ok c.in-Some.ensures.1

pub returns-clause-ok : goal.returns-clause-ok
returns-clause-ok c = waiting_more c.args.queue.now (record { places = c.insert.new.self; next = c.in-Some.next }) c.args.equation c.requires.placed c.in_ok-insert.ensures.ok
