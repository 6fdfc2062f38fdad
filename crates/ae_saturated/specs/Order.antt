-- Tests of the inequalities of a state at its point.
use Rattle.std.specs.Prelude.{pos, Bool, true, not, ◌&&◌, ◌||◌, List, [], ◌∷◌, Option, Some, None}
use Rattle.std.specs.List.{list_all}
use Rattle.ae_math.specs.Fractions.{ℚ, zero_ℚ, one_ℚ, neg_ℚ, ◌+ℚ◌, is_positive, ratio}
use Rattle.ae_math.specs.Forms.{sum_of}
use Rattle.ae_core.specs.declared.formulas.Lit.{Lit}
use Rattle.ae_core.specs.declared.terms.Term.{Term}
use Rattle.ae_num.specs.Forms.{meaning as form_of}
use Rattle.ae_num.specs.declared.forms.Value.{Value, Value-F, Number, out-Value}
use Rattle.ae_num.specs.declared.forms.Value.TheOpen as layer
use Rattle.ae_journal.specs.States.{at_point, inequality}
use Rattle.ae_journal.specs.declared.systems.PointAt.{PointAt}
use Rattle.ae_journal.specs.declared.systems.System.{System}
use Rattle.ae_decide.specs.Values.{value_of}
use Rattle.ae_computing.specs.Inner.Totals.{is_total}

-- the number 0
abbrev pub nothing : Value
nothing = Number (record { den = pos 1; parts = []; constant = pos 0 })

-- the difference of two values is the zero sum
abbrev pub are_even : Value → Value → Bool
are_even v w = is_total nothing ((one_ℚ, v) ∷ (neg_ℚ one_ℚ, w) ∷ [])

-- the number that a value is at the point; what is no number counts as 0
abbrev pub number_by : List PointAt → Value-F Value → ℚ
number_by ps (layer.Number f) = sum_of (at_point ps) (form_of f).parts +ℚ ratio f.constant f.den
number_by ps _ = zero_ℚ

abbrev pub number_of : List PointAt → Value → ℚ
number_of ps v = number_by ps (out-Value v)

abbrev pub is_above : List PointAt → Value → Value → Bool
is_above ps v w = is_positive (number_of ps v +ℚ neg_ℚ (number_of ps w))

abbrev pub holds_at : List PointAt → Bool → Value → Value → Bool
holds_at ps strict v w = (not strict && are_even v w) || is_above ps v w

abbrev pub holds_if : List PointAt → Bool → Option Value → Option Value → Bool
holds_if ps strict (Some v) (Some w) = holds_at ps strict v w
holds_if ps strict _ _ = true

abbrev pub sides_hold : System → List PointAt → Option (Term × Term × Bool) → Bool
sides_hold y ps (Some z) = holds_if ps z.2 (value_of y z.0) (value_of y z.1)
sides_hold y ps None = true

-- a literal is no inequality, or one that holds
abbrev pub inequality_holds : System → List PointAt → Lit → Bool
inequality_holds y ps l = sides_hold y ps (inequality l)

abbrev pub inequalities_hold : System → List PointAt → List Lit → Bool
inequalities_hold y ps ls = list_all (inequality_holds y ps) ls
