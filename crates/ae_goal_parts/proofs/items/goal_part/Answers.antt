use Rattle.std.proofs.lemmas.Result.{IfOk-weaker}
use Rattle.ae_goal_parts.specs.Parts.{IsPart}
use Rattle.ae_goal_parts.specs.Inner.Shown.{IsShown}
use Rattle.ae_goal_parts.proofs.GoalItems.{body_of}
use Rattle.ae_goal_parts.proofs.Shown.{may_be_shown, part_is}
use Rattle.ae_goal_parts.proofs.items.goal_part.Goals as goal

pub goal_answer-requires-clause-goal : goal.goal_answer-requires-clause-goal
goal_answer-requires-clause-goal g c = let n = c.requires.named in (n.body, body_of c.args.problem.now c.args.goal c.args.name.now n.vars n.body n.is_goal)

pub answer_part-requires-clause-may_be : goal.answer_part-requires-clause-may_be
answer_part-requires-clause-may_be g c =
    may_be_shown c.args.problem.now c.args.goal c.args.limits.now c.in_ok-answer.answer c.requires.least c.requires.most (c.in_ok-answer.ensures.right).answer
    (c.in_ok-answer.ensures.written c.requires.lowest)

pub returns-clause-part : goal.returns-clause-part
returns-clause-part g c =
    let p = c.args.problem.now in
    let name = c.args.name.now in
    let answer = c.in_ok-answer.answer in
    IfOk-weaker c.answer_part.result (λ part. IsShown p.signature name answer part.items) (λ part. IsPart p c.args.goal c.args.limits.now part.items)
    (λ part s. part_is p c.args.goal c.args.limits.now name answer part.items c.requires.named c.in_ok-answer.ensures.right s)
    c.answer_part.ensures.shown
