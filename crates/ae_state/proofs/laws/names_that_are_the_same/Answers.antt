use Rattle.ae_value_table.proofs.Least.{alike_itself}
use Rattle.ae_state.proofs.Alikeness.{alike_turned, alike_through, alike_sorted}
use Rattle.ae_state.proofs.laws.names_that_are_the_same.Goals as goal

pub returns-clause-reflexive : goal.returns-clause-reflexive
returns-clause-reflexive c values n = alike_itself values n

pub returns-clause-symmetric : goal.returns-clause-symmetric
returns-clause-symmetric c = alike_turned

pub returns-clause-transitive : goal.returns-clause-transitive
returns-clause-transitive c = alike_through

pub returns-clause-sorted : goal.returns-clause-sorted
returns-clause-sorted c = alike_sorted
