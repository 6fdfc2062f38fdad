-- The linear form of a numeric term: its value as a sum of fractions times opaque subterms, and a fraction.
-- Sums, differences, negations, products with a constant factor, and quotients of `real` by a numeral other than 0 are computed; every other term is opaque.
use Rattle.std.specs.Prelude.{Bool, true, false, cond, ◌&&◌, ◌||◌, List, [], ◌∷◌, map}
use Rattle.std.specs.List.{list_all}
use Rattle.ae_math.specs.Fractions.{ℚ, one_ℚ, neg_ℚ, inverse_ℚ, ratio}
use Rattle.ae_math.specs.Forms.{Form, number, single, plus, scale, minus, is_zero, factor, is_constant, SameForm}
use Rattle.ae_core.specs.Decided.{Term_discrete}
use Rattle.ae_core.specs.declared.terms.Term.{Term, Term-F, Bound, Num, Fresh, Apply, para-Term}
use Rattle.ae_core.specs.declared.terms.Term.TheOpen as layer
use Rattle.ae_core.specs.declared.terms.Head.{Head}
use Rattle.ae_core.specs.declared.terms.Head.TheVariants as head
use Rattle.ae_core.specs.declared.terms.Op.TheVariants as op

-- a form whose keys are opaque terms
abbrev pub Linear : Type 0
Linear = Form Term

-- the factor of an opaque term, 0 where the form doesn't have it
abbrev pub factor_of : Linear → Term → ℚ
factor_of = factor Term_discrete

-- it has no opaque part
abbrev pub is_number : Linear → Bool
is_number = is_constant Term_discrete

-- the same factors and the same constant
abbrev pub IsSame : Linear → Linear → Type 0
IsSame = SameForm Term_discrete

-- a product is linear where a factor is constant
abbrev pub times : Term → Linear → Linear → Linear
times whole f g = cond (is_number f) (scale f.constant g) (cond (is_number g) (scale g.constant f) (single whole))

-- a quotient is linear where it is by a numeral other than 0
abbrev pub over : Term → Linear → Term → Linear
over whole f (Num a b real) = cond (is_zero (ratio a b)) (single whole) (scale (inverse_ℚ (ratio a b)) f)
over whole f _ = single whole

-- ---- the arithmetic that is computed: the one table, over arguments of any kind
-- how an application makes a number of its arguments; every other application is opaque
pub data Rule (A : Type 0) : Type 0 where
  opaque_term : Rule A
  sum_of : A → A → Rule A
  difference_of : A → A → Rule A
  negation_of : A → Rule A
  product_of : A → A → Rule A
  quotient_of : A → A → Rule A

-- the operations of both sorts, but the quotient of `real` alone
abbrev pub rule_of : {A : Type 0} → Head → List A → Rule A
rule_of (head.Int op.Add) (a ∷ b ∷ []) = sum_of a b
rule_of (head.Int op.Sub) (a ∷ b ∷ []) = difference_of a b
rule_of (head.Int op.Neg) (a ∷ []) = negation_of a
rule_of (head.Int op.Mul) (a ∷ b ∷ []) = product_of a b
rule_of (head.Real op.Add) (a ∷ b ∷ []) = sum_of a b
rule_of (head.Real op.Sub) (a ∷ b ∷ []) = difference_of a b
rule_of (head.Real op.Neg) (a ∷ []) = negation_of a
rule_of (head.Real op.Mul) (a ∷ b ∷ []) = product_of a b
rule_of (head.Real op.Div) (a ∷ b ∷ []) = quotient_of a b
rule_of _ _ = opaque_term

-- the form of an application, of arguments that each stand with their form
abbrev pub ruled : Term → Rule (Term × Linear) → Linear
ruled whole opaque_term = single whole
ruled whole (sum_of a b) = plus a.1 b.1
ruled whole (difference_of a b) = minus a.1 b.1
ruled whole (negation_of a) = scale (neg_ℚ one_ℚ) a.1
ruled whole (product_of a b) = times whole a.1 b.1
ruled whole (quotient_of a b) = over whole a.1 b.0

abbrev pub applied : Term → Head → List (Term × Linear) → Linear
applied whole h args = ruled whole (rule_of h args)

abbrev pub form_step : Term-F (Term × Linear) → Linear
form_step (layer.Bound n) = single (Bound n)
form_step (layer.Num a b real) = number (ratio a b)
form_step (layer.Fresh n s) = single (Fresh n s)
form_step (layer.Apply h ss args) = applied (Apply h ss (map (λ a. a.0) args)) h args

-- the linear form of a term
unfoldable pub form : Term → Linear
form = para-Term Linear form_step

-- ---- plain terms: each product has a constant factor, and each divisor on `real` is a numeral
abbrev pub is_numeral : Term → Bool
is_numeral (Num a b real) = true
is_numeral _ = false

abbrev pub is_plain_rule : Rule Term → Bool
is_plain_rule (product_of a b) = is_number (form a) || is_number (form b)
is_plain_rule (quotient_of a b) = is_numeral b
is_plain_rule _ = true

abbrev pub plain_here : Head → List Term → Bool
plain_here h us = is_plain_rule (rule_of h us)

abbrev pub plain_step : Term-F (Term × Bool) → Bool
plain_step (layer.Apply h ss us) = plain_here h (map (λ u. u.0) us) && list_all (λ u. u.1) us
plain_step _ = true

unfoldable pub is_plain : Term → Bool
is_plain = para-Term Bool plain_step
