use Rattle.std.proofs.Common.{ap, ◌∙◌}
use Rattle.std.proofs.lemmas.Result.{IfOk-from_err}
use Rattle.ae_ordered_rounds.specs.declared.orders.Orders.{Orders}
use Rattle.ae_rounds.proofs.proving.prove.Goals as goal

pub begin-requires : goal.begin-requires
begin-requires g c = record { lawful = c.requires.lawful; goal = c.requires.goal }

pub returns-in_err-search : goal.returns-in_err-search
returns-in_err-search g c = record { answer = IfOk-from_err c.from_residual.result _ c.from_residual.ensures.0; written = λ low. IfOk-from_err c.from_residual.result _ c.from_residual.ensures.0 }

pub run_rounds-end-requires : goal.run_rounds-end-requires
run_rounds-end-requires g c = record { lawful = c.requires.lawful; between = c.in_ok-search.ensures.between; limit = c.in_ok-search.ensures.none.1; orders = c.orders_begin.ensures c.args.problem.now c.args.goal c.in_ok-search.search c.new-orders.result c.in_ok-search.ensures.none.0 (ap (λ (k : Orders). k.kept) c.new-orders.ensures) }

pub answer_of-answer-requires : goal.answer_of-answer-requires
answer_of-answer-requires g c = record { lawful = c.requires.lawful; ended = c.run_rounds-end.ensures.ended; limit = c.run_rounds-end.ensures.limit ∙ c.in_ok-search.ensures.none.1 }

pub returns : goal.returns
returns g c = record { answer = c.answer_of-answer.ensures.answer; written = c.answer_of-answer.ensures.written }
