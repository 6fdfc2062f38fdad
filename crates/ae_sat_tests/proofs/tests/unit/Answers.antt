use Rattle.std.proofs.Common.{sym, subst}
use Rattle.ae_sat_tests.proofs.Named.{named_none}
use Rattle.ae_sat_tests.specs.Names.{IsNamed}
use Rattle.ae_sat_tests.proofs.tests.unit.Goals as goal

pub returns : goal.returns
returns c s h = c.in_ok-push_lit.ensures s (subst (IsNamed s) (sym c.new-clause.ensures) (named_none s)) h
