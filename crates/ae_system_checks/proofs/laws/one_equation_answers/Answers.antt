use Rattle.ae_journal.specs.States.{all_taken}
use Rattle.ae_system_checks.proofs.OneEquation.{saturated_by}
use Rattle.ae_system_checks.proofs.laws.one_equation_answers.Goals as goal

pub returns : goal.returns
returns c = λ limit bound. (all_taken, saturated_by bound)
