-- The test of what is computed.
use Rattle.std.specs.Prelude.{ℤ, Bool, true, List, [], ◌∷◌, Option, Some, None}
use Rattle.std.specs.List.{list_all}
use Rattle.ae_math.specs.Fractions.{ℚ, one_ℚ, neg_ℚ}
use Rattle.ae_core.specs.declared.terms.Term.{Term, Term-F, out-Term}
use Rattle.ae_core.specs.declared.terms.Term.TheOpen as layer
use Rattle.ae_num.specs.declared.forms.Value.{Value, Number}
use Rattle.ae_journal.specs.declared.systems.System.{System}
use Rattle.ae_decide.specs.Values.{value_of}
use Rattle.ae_computing.specs.Inner.Operations.{operation_of, inverse_of, number_of}
use Rattle.ae_computing.specs.Inner.Totals.{is_total}
use Rattle.ae_computing.specs.declared.operations.Operation.{Operation}
use Rattle.ae_computing.specs.declared.operations.Operation.TheVariants.{Sum, Difference, Negation, Product, Quotient}

-- the sum of a value and of a multiple of another
abbrev pub is_sum : Value → Value → ℚ → Value → Bool
is_sum v w x u = is_total v ((one_ℚ, w) ∷ (x, u) ∷ [])

abbrev pub is_numeral : Value → ℤ → ℤ → Bool
is_numeral v a b = is_total v ((one_ℚ, Number (record { den = b; parts = []; constant = a })) ∷ [])

-- the multiple of a value by a number, if there is one
abbrev pub is_multiple_if : Value → Option ℚ → Value → Bool
is_multiple_if v (Some x) w = is_total v ((x, w) ∷ [])
is_multiple_if v None w = true

abbrev pub is_product_by : Value → Option ℚ → Option ℚ → Value → Value → Bool
is_product_by v (Some x) o w u = is_total v ((x, u) ∷ [])
is_product_by v None o w u = is_multiple_if v o w

abbrev pub is_product : Value → Term → Term → Value → Value → Bool
is_product v a b w u = is_product_by v (number_of a) (number_of b) w u

abbrev pub is_quotient : Value → Value → Term → Bool
is_quotient v w b = is_multiple_if v (inverse_of b) w

abbrev pub fits_two : Operation → Value → Term → Term → Value → Value → Bool
fits_two Sum v a b w u = is_sum v w one_ℚ u
fits_two Difference v a b w u = is_sum v w (neg_ℚ one_ℚ) u
fits_two Product v a b w u = is_product v a b w u
fits_two Quotient v a b w u = is_quotient v w b
fits_two _ v a b w u = true

abbrev pub fits_one : Operation → Value → Value → Bool
fits_one Negation v w = is_total v ((neg_ℚ one_ℚ, w) ∷ [])
fits_one _ v w = true

abbrev pub fits_one_if : Operation → Value → Option Value → Bool
fits_one_if o v (Some w) = fits_one o v w
fits_one_if o v None = true

abbrev pub fits_two_if : Operation → Value → Term → Term → Option Value → Option Value → Bool
fits_two_if o v a b (Some w) (Some u) = fits_two o v a b w u
fits_two_if o v a b _ _ = true

-- a value is what the operation makes of the values of these terms, if that is computed
abbrev pub fits : System → Operation → Value → List Term → Bool
fits y o v (a ∷ []) = fits_one_if o v (value_of y a)
fits y o v (a ∷ b ∷ []) = fits_two_if o v a b (value_of y a) (value_of y b)
fits y o v _ = true

abbrev pub is_right_by : System → Term-F Term → Value → Bool
is_right_by y (layer.Num a b real) v = is_numeral v a b
is_right_by y (layer.Apply h ss us) v = fits y (operation_of h) v us
is_right_by y _ v = true

-- a value is the one that a term states, if it states one
abbrev pub is_right : System → Term → Value → Bool
is_right y t v = is_right_by y (out-Term t) v

abbrev pub is_right_if : System → Term → Option Value → Bool
is_right_if y t (Some v) = is_right y t v
is_right_if y t None = true

abbrev pub has_right : System → Term → Bool
has_right y t = is_right_if y t (value_of y t)

abbrev pub all_right : System → Bool
all_right y = list_all (has_right y) y.names
