use Rattle.ae_system_checks.proofs.Completed.{second_leaf_completed, leaf_of_other}
use Rattle.ae_system_checks.proofs.laws.a_smaller_name_may_represent_a_leaf.Goals as goal

pub returns-clause-completed : goal.returns-clause-completed
returns-clause-completed c = second_leaf_completed

pub returns-clause-leaf : goal.returns-clause-leaf
returns-clause-leaf c = leaf_of_other
