-- Which heads are computed arithmetic, and the numbers that terms are.
use Rattle.std.specs.Prelude.{ℤ, cond, List, [], ◌∷◌, Option, Some, None}
use Rattle.ae_math.specs.Fractions.{ℚ, inverse_ℚ, ratio}
use Rattle.ae_math.specs.Forms.{is_zero}
use Rattle.ae_core.specs.declared.terms.Head.{Head}
use Rattle.ae_core.specs.declared.terms.Head.TheVariants as head
use Rattle.ae_core.specs.declared.terms.Op.TheVariants as op
use Rattle.ae_core.specs.declared.terms.Term.{Term, Num}
use Rattle.ae_rules.specs.Linear.{Rule, opaque_term, sum_of, difference_of, negation_of, product_of, quotient_of, form, is_number}
use Rattle.ae_naturals.specs.Fractions.{value_of}
use Rattle.ae_naturals.specs.declared.fractions.Fraction.{Fraction}
use Rattle.ae_computing.specs.declared.operations.Operation.{Operation}
use Rattle.ae_computing.specs.declared.operations.Operation.TheVariants.{Sum, Difference, Negation, Product, Quotient, Opaque}

abbrev pub operation_of : Head → Operation
operation_of (head.Int op.Add) = Sum
operation_of (head.Real op.Add) = Sum
operation_of (head.Int op.Sub) = Difference
operation_of (head.Real op.Sub) = Difference
operation_of (head.Int op.Neg) = Negation
operation_of (head.Real op.Neg) = Negation
operation_of (head.Int op.Mul) = Product
operation_of (head.Real op.Mul) = Product
operation_of (head.Real op.Div) = Quotient
operation_of _ = Opaque

-- the rule of an operation on arguments of any kind
abbrev pub ruled_by : {A : Type 0} → Operation → List A → Rule A
ruled_by Sum (a ∷ b ∷ []) = sum_of a b
ruled_by Difference (a ∷ b ∷ []) = difference_of a b
ruled_by Negation (a ∷ []) = negation_of a
ruled_by Product (a ∷ b ∷ []) = product_of a b
ruled_by Quotient (a ∷ b ∷ []) = quotient_of a b
ruled_by _ _ = opaque_term

abbrev pub value_if : Option Fraction → Option ℚ
value_if (Some x) = Some (value_of x)
value_if None = None

abbrev pub inverse_by : ℤ → ℤ → Option ℚ
inverse_by a b = cond (is_zero (ratio a b)) None (Some (inverse_ℚ (ratio a b)))

-- the inverse of a numeral other than 0
abbrev pub inverse_of : Term → Option ℚ
inverse_of (Num a b real) = inverse_by a b
inverse_of _ = None

-- the number that the linear form of a term is
abbrev pub number_of : Term → Option ℚ
number_of t = cond (is_number (form t)) (Some (form t).constant) None
