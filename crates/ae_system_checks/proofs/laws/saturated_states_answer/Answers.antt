use Rattle.std.specs.Prelude.{[]}
use Rattle.std.specs.List.{Contains}
use mathlib.Core.Path.{refl}
use native.Mathlib.Omega.{arith}
use Rattle.ae_rules.specs.Clauses.{no_of}
use Rattle.ae_journal.specs.States.IsFirst.{of_goal}
use Rattle.ae_journal.specs.States.{all_taken}
use Rattle.ae_evaluation.proofs.ExampleState.{saturated_by}
use Rattle.ae_evaluation.specs.Examples as example
use Rattle.ae_system_checks.proofs.TwoEquations.{saturated_by as two_equations_saturated}
use Rattle.ae_system_checks.proofs.laws.saturated_states_answer.Goals as goal

pub returns-clause-accepted : goal.returns-clause-accepted
returns-clause-accepted c = λ limit bound. (all_taken, saturated_by bound)

pub returns-clause-two_equations : goal.returns-clause-two_equations
returns-clause-two_equations c = λ limit bound. (all_taken, two_equations_saturated bound)

pub returns-clause-no_literals : goal.returns-clause-no_literals
returns-clause-no_literals c = λ limit bound (takes, s). nothing (s.firsts (no_of example.goal) (of_goal example.goal refl))
  where
    nothing : Contains [] (no_of example.goal) → ⊥
    nothing h = omega (arith, h.1)
