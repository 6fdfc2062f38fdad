-- A test whether a written value is a sum of multiples of written values, number by number.
use Rattle.std.specs.Prelude.{Bool, true, false, ◌&&◌, List, [], ◌∷◌}
use Rattle.std.specs.List.{list_all}
use Rattle.ae_base.specs.Decided.{decided}
use Rattle.ae_math.specs.Fractions.{ℚ, zero_ℚ, ratio, ◌+ℚ◌, ◌*ℚ◌, ℚ_discrete}
use Rattle.ae_journal.specs.Values.{leaf_factor}
use Rattle.ae_num.specs.Forms.{meaning as form_of}
use Rattle.ae_num.specs.declared.forms.Lin.{Lin}
use Rattle.ae_num.specs.declared.forms.Value.{Value, Value-F, out-Value}
use Rattle.ae_num.specs.declared.forms.Value.TheOpen as layer
use Rattle.ae_naturals.specs.Fractions.{value_of}
use Rattle.ae_computing.specs.declared.values.Place.{Place}
use Rattle.ae_computing.specs.declared.values.Place.TheVariants.{Constant, Leaf}
use Rattle.ae_computing.specs.declared.values.Summand.{Summand}

abbrev pub summand : Summand → ℚ × Value
summand s = (value_of s.factor, s.value.now)

-- the number at a place of a form
abbrev pub number_in : Place → Lin → ℚ
number_in Constant f = ratio f.constant f.den
number_in (Leaf k) f = leaf_factor (form_of f).parts k

abbrev pub coefficient_by : Place → Value-F Value → ℚ
coefficient_by p (layer.Number f) = number_in p f
coefficient_by p _ = zero_ℚ

-- the number at a place of a value; 0 where that is no number
abbrev pub coefficient : Place → Value → ℚ
coefficient p v = coefficient_by p (out-Value v)

-- the number at a place of a sum
abbrev pub total : List (ℚ × Value) → Place → ℚ
total [] p = zero_ℚ
total (s ∷ ss) p = s.0 *ℚ coefficient p s.1 +ℚ total ss p

module _ (v : Value) (ss : List (ℚ × Value)) where
  abbrev pub agrees_at : Place → Bool
  agrees_at p = decided (ℚ_discrete (coefficient p v) (total ss p))

  abbrev pub agrees_over : Lin → Bool
  agrees_over f = list_all (λ q. agrees_at (Leaf q.key)) f.parts

  abbrev pub agrees_by : Value-F Value → Bool
  agrees_by (layer.Number f) = agrees_over f
  agrees_by _ = true

  -- at the leaves of a value
  abbrev pub agrees_on : Value → Bool
  agrees_on w = agrees_by (out-Value w)

  abbrev pub agrees_on_each : List (ℚ × Value) → Bool
  agrees_on_each ts = list_all (λ s. agrees_on s.1) ts

  abbrev pub agrees_on_summand : Summand → Bool
  agrees_on_summand s = agrees_on s.value.now

abbrev pub is_number_by : Value-F Value → Bool
is_number_by (layer.Number f) = true
is_number_by _ = false

abbrev pub is_number : Value → Bool
is_number v = is_number_by (out-Value v)

-- a number that has the sum's constant and, at the leaves of both, its factors
abbrev pub is_total : Value → List (ℚ × Value) → Bool
is_total v ss = is_number v && (agrees_at v ss Constant && (agrees_on v ss v && agrees_on_each v ss ss))
