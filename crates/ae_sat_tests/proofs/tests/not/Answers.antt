use Rattle.std.proofs.Common.{sym, subst}
use Rattle.ae_theory.specs.Names.{AreNamed}
use Rattle.ae_sat_tests.proofs.Named.{named_not}
use Rattle.ae_sat_tests.proofs.tests.not.Goals as goal

pub returns : goal.returns
returns c s h = named_not s _ (subst (AreNamed s) (sym c.in_ok-new.ensures) h)
