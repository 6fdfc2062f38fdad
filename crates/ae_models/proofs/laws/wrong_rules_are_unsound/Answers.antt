use Rattle.ae_models.proofs.WrongRules.{lin_with_factor_zero, sum_with_negative_factor, gcd_of_reals, fresh_of_used_constant, exhaustion_without_the_last, ac_of_another_symbol, axiom_after_the_goal}
use Rattle.ae_models.proofs.laws.wrong_rules_are_unsound.Goals as goal

pub returns-clause-lin_with_factor_zero : goal.returns-clause-lin_with_factor_zero
returns-clause-lin_with_factor_zero c = lin_with_factor_zero

pub returns-clause-sum_with_negative_factor : goal.returns-clause-sum_with_negative_factor
returns-clause-sum_with_negative_factor c = sum_with_negative_factor

pub returns-clause-gcd_of_reals : goal.returns-clause-gcd_of_reals
returns-clause-gcd_of_reals c = gcd_of_reals

pub returns-clause-fresh_of_used_constant : goal.returns-clause-fresh_of_used_constant
returns-clause-fresh_of_used_constant c = fresh_of_used_constant

pub returns-clause-exhaustion_without_the_last : goal.returns-clause-exhaustion_without_the_last
returns-clause-exhaustion_without_the_last c = exhaustion_without_the_last

pub returns-clause-ac_of_another_symbol : goal.returns-clause-ac_of_another_symbol
returns-clause-ac_of_another_symbol c = ac_of_another_symbol

pub returns-clause-axiom_after_the_goal : goal.returns-clause-axiom_after_the_goal
returns-clause-axiom_after_the_goal c = axiom_after_the_goal
