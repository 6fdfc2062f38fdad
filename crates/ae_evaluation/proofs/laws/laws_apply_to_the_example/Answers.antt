use Rattle.ae_journal.specs.States.{all_taken}
use Rattle.ae_evaluation.proofs.ExampleState.{ground, lawful_problem, makes_true, saturated_by}
use Rattle.ae_evaluation.proofs.ExampleSystem.{completed}
use Rattle.ae_evaluation.proofs.laws.laws_apply_to_the_example.Goals as goal

pub returns-clause-lawful : goal.returns-clause-lawful
returns-clause-lawful c = lawful_problem

pub returns-clause-completed : goal.returns-clause-completed
returns-clause-completed c = completed

pub returns-clause-makes_true : goal.returns-clause-makes_true
returns-clause-makes_true c = makes_true

pub returns-clause-saturated : goal.returns-clause-saturated
returns-clause-saturated c = λ bound. (all_taken, saturated_by bound)

pub returns-clause-in_fragment : goal.returns-clause-in_fragment
returns-clause-in_fragment c = ground
