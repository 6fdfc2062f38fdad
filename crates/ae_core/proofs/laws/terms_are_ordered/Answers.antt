use Rattle.ae_core.proofs.OrderLaws.{term_total, term_exact}
use Rattle.ae_core.proofs.laws.terms_are_ordered.Goals as goal

pub returns-clause-total : goal.returns-clause-total
returns-clause-total c = term_total

pub returns-clause-exact : goal.returns-clause-exact
returns-clause-exact c = term_exact
