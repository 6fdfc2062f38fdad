-- The form that a rule makes of two, before all its numbers are divided by one.
use Rattle.std.specs.Prelude.{◌*ℤ◌, List, ◌∷◌, ◌++◌}
use Rattle.ae_num.specs.declared.forms.Lin.{Lin}
use Rattle.ae_num.specs.declared.sums.Combination.{Combination}
use Rattle.ae_num.specs.Forms.{Step, Product}
use Rattle.ae_num.specs.Inner.Pairs.{pairs_of, combined, outcome_of, steps_of, all_steps}

abbrev pub whole_of : Combination → Lin → Lin → Lin
whole_of m p q = record { den = p.den *ℤ q.den; parts = combined (outcome_of m) (pairs_of p.parts q.parts); constant = outcome_of m p.constant q.constant }

abbrev pub whole_steps : Combination → Lin → Lin → List Step
whole_steps m p q = Product p.den q.den ∷ all_steps m (pairs_of p.parts q.parts) ++ steps_of m p.constant q.constant
