use Rattle.ae_journal_checks.proofs.AnswerExamples.{empty_proof_is_refused}
use Rattle.ae_journal_checks.proofs.laws.empty_proofs_do_not_answer.Goals as goal

pub returns : goal.returns
returns c = empty_proof_is_refused
