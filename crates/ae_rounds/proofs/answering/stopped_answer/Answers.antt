use Rattle.std.proofs.Common.{subst}
use Rattle.ae_rounds.specs.Ended.{HasFailed}
use Rattle.ae_theory.specs.declared.theory.Fail.{Fail}
use Rattle.ae_rounds.proofs.answering.stopped_answer.Goals as goal

pub full_answer-requires : goal.full_answer-requires
full_answer-requires g c = record {
  lawful = c.requires.lawful;
  full = subst (λ (x : Fail). HasFailed c.args.task.problem.now c.args.task.goal c.args.task.generations c.args.search.now x) c.in-Steps.is c.requires.failed;
  limit = c.requires.limit;
}

pub returns-in-Steps : goal.returns-in-Steps
returns-in-Steps g c = record { answer = c.full_answer.ensures.answer; written = c.full_answer.ensures.written }

pub wide_answer-requires : goal.wide_answer-requires
wide_answer-requires g c = record {
  lawful = c.requires.lawful;
  wide = subst (λ (x : Fail). HasFailed c.args.task.problem.now c.args.task.goal c.args.task.generations c.args.search.now x) c.in-Number.is c.requires.failed;
  limit = c.requires.limit;
}

pub returns-in-Number : goal.returns-in-Number
returns-in-Number g c = record { answer = c.wide_answer.ensures.answer; written = c.wide_answer.ensures.written }

pub returns-in-Memory : goal.returns-in-Memory
returns-in-Memory g c = record { answer = tt; written = λ low. tt }
