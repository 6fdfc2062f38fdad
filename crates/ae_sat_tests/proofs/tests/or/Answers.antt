use Rattle.std.proofs.Common.{sym, subst}
use Rattle.ae_theory.specs.Names.{AreNamed}
use Rattle.ae_sat_tests.proofs.Named.{named_or}
use Rattle.ae_sat_tests.proofs.tests.or.Goals as goal

pub returns : goal.returns
returns c s h i = named_or s _ _ (subst (AreNamed s) (sym c.in_ok-left.ensures) h) (subst (AreNamed s) (sym c.in_ok-new.ensures) i)
