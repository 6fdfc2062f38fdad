use Rattle.ae_core.proofs.OrderLaws.{sort_total, sort_exact}
use Rattle.ae_core.proofs.laws.sorts_are_ordered.Goals as goal

pub returns-clause-total : goal.returns-clause-total
returns-clause-total c = sort_total

pub returns-clause-exact : goal.returns-clause-exact
returns-clause-exact c = sort_exact
