use Rattle.ae_journal_checks.proofs.AnswerExamples.{steps_answer, other_limit_is_refused, repetition_is_refused, omission_is_refused}
use Rattle.ae_journal_checks.proofs.laws.journals_answer.Goals as goal

pub returns-clause-accepted : goal.returns-clause-accepted
returns-clause-accepted c = steps_answer

pub returns-clause-other_limit : goal.returns-clause-other_limit
returns-clause-other_limit c = other_limit_is_refused

pub returns-clause-repetition : goal.returns-clause-repetition
returns-clause-repetition c = repetition_is_refused

pub returns-clause-omission : goal.returns-clause-omission
returns-clause-omission c = omission_is_refused
