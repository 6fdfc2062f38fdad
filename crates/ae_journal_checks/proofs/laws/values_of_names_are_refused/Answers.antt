use Rattle.ae_journal_checks.proofs.RefusedLines.{no_larger_leaf, no_sum_with_itself, no_record_is_solved}
use Rattle.ae_journal_checks.proofs.laws.values_of_names_are_refused.Goals as goal

pub returns-clause-larger_leaf : goal.returns-clause-larger_leaf
returns-clause-larger_leaf c = no_larger_leaf

pub returns-clause-itself_in_sum : goal.returns-clause-itself_in_sum
returns-clause-itself_in_sum c = no_sum_with_itself

pub returns-clause-records : goal.returns-clause-records
returns-clause-records c = no_record_is_solved
