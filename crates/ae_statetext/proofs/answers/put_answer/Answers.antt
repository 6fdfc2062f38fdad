use Rattle.std.proofs.Common.{codes, ap}
use Rattle.std.proofs.lemmas.Result.{on_ok_weaker}
use Rattle.ae_prooftext.proofs.Pieces.{closed}
use Rattle.ae_stategrammar.specs.StateTexts.{number_text}
use Rattle.ae_statetext.specs.AnswerTexts.{answer_text, goal_line}
use Rattle.ae_statetext.proofs.answers.put_answer.Goals as goal

pub returns-in_ok-put_goal-in-Number : goal.returns-in_ok-put_goal-in-Number
unfolding answer_text
returns-in_ok-put_goal-in-Number c = record {
  text = on_ok_weaker c.put_number.result (λ e. closed c.args.out.now.items _ _ (goal_line c.args.name.now (codes " Limit number")) (number_text c.args.signature.now c.in-Number.story c.in-Number.at) _
      c.in_ok-put_goal-in-Number.ensures (ap (answer_text c.args.signature.now c.args.name.now) c.in-Number.is) e) c.put_number.ensures.text;
}
