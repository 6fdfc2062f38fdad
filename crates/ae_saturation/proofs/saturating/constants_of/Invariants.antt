use Rattle.ae_theory.specs.Names.{terms_in}
use Rattle.ae_saturation.proofs.Constants.{AreFirstConstants}
use Rattle.ae_saturation.proofs.saturating.constants_of.Given as goal

abbrev pub invariant-loop-name : goal.invariant-loop-name
invariant-loop-name l = AreFirstConstants (terms_in l.store) l.name l.constants
