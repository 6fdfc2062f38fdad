use Rattle.ae_sorted_items.proofs.Items.{hypothesis_ok, goal_ok}
use Rattle.ae_sorted_items.proofs.laws.items_are_sorted.Goals as goal

pub returns-clause-hypothesis : goal.returns-clause-hypothesis
returns-clause-hypothesis c = λ p g k f lawful e. hypothesis_ok p lawful g k f e

pub returns-clause-goal : goal.returns-clause-goal
returns-clause-goal c = λ p g f lawful e. goal_ok p lawful g f e
