use Rattle.ae_journal_checks.proofs.OwnForms.{own_forms_are_refused}
use Rattle.ae_journal_checks.proofs.AnswerExamples.{width_answers, no_width_is_refused, nameless_combination_is_refused}
use Rattle.ae_journal_checks.proofs.laws.widths_answer.Goals as goal

pub returns-clause-accepted : goal.returns-clause-accepted
returns-clause-accepted c = width_answers

pub returns-clause-within : goal.returns-clause-within
returns-clause-within c = no_width_is_refused

pub returns-clause-nameless : goal.returns-clause-nameless
returns-clause-nameless c = nameless_combination_is_refused

pub returns-clause-own_forms : goal.returns-clause-own_forms
returns-clause-own_forms c = own_forms_are_refused
