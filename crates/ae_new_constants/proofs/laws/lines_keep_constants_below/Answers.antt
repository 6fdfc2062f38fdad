use Rattle.ae_new_constants.proofs.Lines.{hypothesis_line, goal_line, row_line, instance_line, choice_line, order_line, block_line, derived_line}
use Rattle.ae_new_constants.proofs.laws.lines_keep_constants_below.Goals as goal

pub returns-clause-hypothesis : goal.returns-clause-hypothesis
returns-clause-hypothesis c = λ p g n k ss lawful. hypothesis_line n p g k ss lawful

pub returns-clause-goal : goal.returns-clause-goal
returns-clause-goal c = λ p g n lawful. goal_line n p g lawful

pub returns-clause-row : goal.returns-clause-row
returns-clause-row c = λ p g n r f a. row_line n p g r f a

pub returns-clause-instance : goal.returns-clause-instance
returns-clause-instance c = λ p g n f ts a all. instance_line n p g f ts a all

pub returns-clause-choice : goal.returns-clause-choice
returns-clause-choice c = λ p g n t a. choice_line n p g t a

pub returns-clause-order : goal.returns-clause-order
returns-clause-order c = λ p g n s t a b. order_line n p g s t a b

pub returns-clause-block : goal.returns-clause-block
returns-clause-block c = λ p g n b a all. block_line n p g b a all

pub returns-clause-derived : goal.returns-clause-derived
returns-clause-derived c = λ p g n d hints a. derived_line n p g d hints a
