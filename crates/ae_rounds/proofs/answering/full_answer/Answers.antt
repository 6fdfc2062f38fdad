use Rattle.std.proofs.Common.{sym, ◌∙◌, subst}
use Rattle.std.proofs.lemmas.Result.{IfOk-from_err}
use Rattle.ae_journal.specs.Answers.{IsAnswer}
use Rattle.ae_journal.specs.declared.answers.Answer.TheVariants.{Steps}
use Rattle.ae_journal.specs.declared.lines.Story.{Story}
use Rattle.ae_rounds.proofs.answering.full_answer.Goals as goal

pub returns-in_err-story : goal.returns-in_err-story
returns-in_err-story g c = record { answer = IfOk-from_err c.from_residual.result _ c.from_residual.ensures.0; written = λ low. IfOk-from_err c.from_residual.result _ c.from_residual.ensures.0 }

pub returns : goal.returns
returns g c =
    let p = c.args.task.problem.now in
    let k = c.args.task.goal in
    let b = c.args.task.generations in
    let o = c.args.search.now in
    let w = c.requires.full in
    let answer = subst (λ (y : Story). IsAnswer p k c.args.task.steps b (Steps y)) (sym c.in_ok-story.ensures)
    (c.searches_are_told.ensures.steps p k c.args.task.steps b o.blocks.next o.store o.blocks.opened o.lines.items o.journal.lines w.0.store w.0.apart w.0.lawful (w.1 ∙ c.requires.limit)) in
    record { answer = answer; written = λ low. c.legal_journals_are_writable.ensures p k b c.in_ok-story.story c.requires.lawful low answer.0 }
