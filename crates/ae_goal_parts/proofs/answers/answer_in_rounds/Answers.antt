use Rattle.std.proofs.lemmas.Result.{IfOk-weaker}
use Rattle.ae_journal.specs.Answers.{IsAnswer}
use Rattle.ae_search.specs.Promises.{IsRightAnswer}
use Rattle.ae_goal_parts.proofs.Outside.{outside_right}
use Rattle.ae_goal_parts.proofs.answers.answer_in_rounds.Goals as goal

pub returns-clause-right : goal.returns-clause-right
returns-clause-right g c =
    let p = c.args.problem.now in
    let limits = c.args.limits.now in
    IfOk-weaker c.prove.result (IsAnswer p c.args.goal limits.steps limits.generations) (IsRightAnswer p c.args.goal limits)
    (λ a h. outside_right p c.args.goal c.requires.lawful c.requires.outside limits a h)
    c.prove.ensures.answer
