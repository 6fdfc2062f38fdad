use Rattle.std.specs.Prelude.{◌≡◌}
use Rattle.std.proofs.lemmas.Result.{IfOk-weaker}
use Rattle.ae_printed.specs.ReadBack.{IsReadBack}
use Rattle.ae_statetext.specs.AnswerTexts.{answer_text}
use Rattle.ae_goal_parts.proofs.Shown.{found_read_back, may_be_writable}
use Rattle.ae_goal_parts.proofs.found.found_part.Goals as goal

pub returns-clause-read_back : goal.returns-clause-read_back
returns-clause-read_back c =
    let p = c.args.problem.now in
    let name = c.args.name.now in
    let answer = c.args.answer.now in
    IfOk-weaker c.answer_text.result (λ part. part.items ≡ answer_text p.signature name answer) (λ part. IsReadBack p c.args.goal part.items)
    (λ part e. found_read_back p c.args.goal name answer part.items c.requires.lawful c.requires.named c.requires.no_proof c.requires.may_be
    (c.answer_counts.ensures p.signature (may_be_writable p c.args.goal answer c.requires.no_proof c.requires.may_be)) e)
    c.answer_text.ensures.text
