use Rattle.std.specs.Prelude.{Ok}
use Rattle.std.proofs.Common.{subst}
use Rattle.ae_rounds.specs.Ended.{HasEnded}
use Rattle.ae_rounds.specs.declared.progress.End.{End}
use Rattle.ae_rounds.proofs.answering.ended_answer.Goals as goal

pub refuted_answer-requires : goal.refuted_answer-requires
refuted_answer-requires g c = record { refuted = subst (λ (x : End). HasEnded c.args.task.problem.now c.args.task.goal c.args.task.generations c.args.search.now (Ok x)) c.in-Refuted.is c.requires.ended }

pub returns-in-Refuted : goal.returns-in-Refuted
returns-in-Refuted g c = record { answer = c.refuted_answer.ensures.answer; written = c.refuted_answer.ensures.written }

pub open_answer-requires : goal.open_answer-requires
open_answer-requires g c = record {
  settled = subst (λ (x : End). HasEnded c.args.task.problem.now c.args.task.goal c.args.task.generations c.args.search.now (Ok x)) c.in-Open.is c.requires.ended;
}

pub returns-in-Open : goal.returns-in-Open
returns-in-Open g c = record { answer = c.open_answer.ensures.answer; written = c.open_answer.ensures.written }
