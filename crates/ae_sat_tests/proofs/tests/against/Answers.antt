use Rattle.std.proofs.Common.{sym, subst}
use Rattle.ae_sat.specs.Search.{AllNamed}
use Rattle.ae_sat_tests.proofs.Named.{all_none}
use Rattle.ae_sat_tests.proofs.tests.against.Goals as goal

pub returns : goal.returns
returns c s h = c.in_ok-push_clause.ensures s (subst (AllNamed s) (sym c.new-clauses.ensures) (all_none s)) (c.in_ok-clause.ensures s h)
