-- Which applications are computed by their linear forms, by their operations.
use Rattle.std.specs.Prelude.{Bool, true, false, ◌||◌, List, [], ◌∷◌}
use Rattle.ae_core.specs.declared.terms.Term.{Term}
use Rattle.ae_core.specs.declared.terms.Op.{Op}
use Rattle.ae_core.specs.declared.terms.Op.TheVariants as op
use Rattle.ae_rules.specs.Linear.{form, is_number}
use Rattle.ae_rules.specs.Matches.{is_divisor}

abbrev pub are_two : List Term → Bool
are_two (a ∷ b ∷ []) = true
are_two _ = false

abbrev pub is_one : List Term → Bool
is_one (a ∷ []) = true
is_one _ = false

abbrev pub has_number : Term → Term → Bool
has_number a b = is_number (form a) || is_number (form b)

abbrev pub is_multiple : List Term → Bool
is_multiple (a ∷ b ∷ []) = has_number a b
is_multiple _ = false

abbrev pub is_quotient : List Term → Bool
is_quotient (a ∷ b ∷ []) = is_divisor b
is_quotient _ = false

abbrev pub is_sum : Op → List Term → Bool
is_sum op.Add us = are_two us
is_sum op.Sub us = are_two us
is_sum op.Neg us = is_one us
is_sum op.Mul us = is_multiple us
is_sum op.Div us = false
is_sum op.Mod us = false
