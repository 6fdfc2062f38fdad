use Rattle.std.specs.Prelude.{Result}
use Rattle.std.proofs.Common.{subst}
use Rattle.ae_rounds.specs.Ended.{HasEnded}
use Rattle.ae_rounds.specs.declared.progress.End.{End}
use Rattle.ae_theory.specs.declared.theory.Fail.{Fail}
use Rattle.ae_rounds.proofs.answering.answer_of.Goals as goal

pub ended_answer-requires : goal.ended_answer-requires
ended_answer-requires g c = record {
  ended = subst (λ (r : Result End Fail). HasEnded c.args.task.problem.now c.args.task.goal c.args.task.generations c.args.search.now r) c.in-Ok.is c.requires.ended;
}

pub returns-in-Ok : goal.returns-in-Ok
returns-in-Ok g c = record { answer = c.ended_answer.ensures.answer; written = c.ended_answer.ensures.written }

pub stopped_answer-requires : goal.stopped_answer-requires
stopped_answer-requires g c = record {
  lawful = c.requires.lawful;
  failed = subst (λ (r : Result End Fail). HasEnded c.args.task.problem.now c.args.task.goal c.args.task.generations c.args.search.now r) c.in-Err.is c.requires.ended;
  limit = c.requires.limit;
}

pub returns-in-Err : goal.returns-in-Err
returns-in-Err g c = record { answer = c.stopped_answer.ensures.answer; written = c.stopped_answer.ensures.written }
