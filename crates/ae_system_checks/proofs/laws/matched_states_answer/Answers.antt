use Rattle.ae_journal.specs.States.{all_taken}
use Rattle.ae_system_checks.proofs.Quantified.{saturated_by, has_match, no_instance_is_refused}
use Rattle.ae_system_checks.proofs.laws.matched_states_answer.Goals as goal

pub returns-clause-accepted : goal.returns-clause-accepted
returns-clause-accepted c = λ limit bound. (all_taken, saturated_by bound)

pub returns-clause-matches : goal.returns-clause-matches
returns-clause-matches c = has_match

pub returns-clause-no_instance : goal.returns-clause-no_instance
returns-clause-no_instance c = no_instance_is_refused
