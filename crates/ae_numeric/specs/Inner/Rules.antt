-- How the form of an application is made from those of its arguments: it is opaque, a multiple, or made of two forms.
use Rattle.std.specs.Prelude.{ℕ, pos, neg_ℤ, ◌<ℤ◌, ◌≡◌, ◌<◌, cond, nat_eq, List, ◌++◌, length, None, Some, slice_index_or}
use Rattle.std.specs.Ordering.{int_eq}
use Rattle.ae_math.specs.Fractions.{ratio}
use Rattle.ae_math.specs.Forms.{single, plus, minus, scale}
use Rattle.ae_num.specs.Forms.{first_wide, IfWide}
use Rattle.ae_num.specs.declared.forms.Lin.{Lin}
use Rattle.ae_num.specs.declared.numbers.NumFail.{NumFail}
use Rattle.ae_rules.specs.Linear.{Linear, times}
use Rattle.ae_core.specs.declared.terms.Term.{Term, Bound, Num}
use Rattle.ae_core.specs.declared.terms.Head.{Head}
use Rattle.ae_core.specs.declared.terms.Head.TheVariants as head
use Rattle.ae_core.specs.declared.terms.Op.{Op}
use Rattle.ae_core.specs.declared.terms.Op.TheVariants as op
use Rattle.ae_numeric.specs.Stated.{Computation, opaque, added, scaled, subtracted, multiplied, inverse_top, inverse_bottom, numeral}
use Rattle.ae_numeric.specs.declared.forms.Rule.{Rule}
use Rattle.ae_numeric.specs.declared.forms.Rule.TheVariants.{Opaque, Scale, Pair}
use Rattle.ae_numeric.specs.declared.forms.Operation.{Operation}
use Rattle.ae_numeric.specs.declared.forms.Operation.TheVariants.{Sum, Difference, Product}

abbrev pub at : List Term → ℕ → Term
at ts i = slice_index_or ts i (Bound 0)

-- two computations of which an operation makes one
abbrev pub joined : Operation → Term → Computation → Computation → Computation
joined Sum whole a b = added a b
joined Difference whole a b = subtracted a b
joined Product whole a b = multiplied whole a b

abbrev pub joined_forms : Operation → Term → Linear → Linear → Linear
joined_forms Sum whole f g = plus f g
joined_forms Difference whole f g = minus f g
joined_forms Product whole f g = times whole f g

abbrev pub ruled : (Term → Computation) → Rule → Term → List Term → Computation
ruled f Opaque whole ts = opaque whole
ruled f (Scale top bottom) whole ts = scaled top bottom (f (at ts 0))
ruled f (Pair o) whole ts = joined o whole (f (at ts 0)) (f (at ts 1))

abbrev pub ruled_form : (Term → Linear) → Rule → Term → List Term → Linear
ruled_form f Opaque whole ts = single whole
ruled_form f (Scale top bottom) whole ts = scale (ratio top bottom) (f (at ts 0))
ruled_form f (Pair o) whole ts = joined_forms o whole (f (at ts 0)) (f (at ts 1))

-- there are as many arguments as the rule needs, and its denominator is positive
abbrev pub Fits : Rule → ℕ → Type 0
Fits Opaque n = Unit {0}
Fits (Scale top bottom) n = (0 < n) × (pos 0 <ℤ bottom)
Fits (Pair o) n = n ≡ 2

abbrev pub pair_rule : Operation → ℕ → Rule
pair_rule o n = cond (nat_eq n 2) (Pair o) Opaque

abbrev pub operation_rule : Op → ℕ → Rule
operation_rule op.Add n = pair_rule Sum n
operation_rule op.Sub n = pair_rule Difference n
operation_rule op.Neg n = cond (nat_eq n 1) (Scale (neg_ℤ (pos 1)) (pos 1)) Opaque
operation_rule op.Mul n = pair_rule Product n
operation_rule op.Div n = Opaque
operation_rule op.Mod n = Opaque

-- by a numeral
abbrev pub divisor_rule : Term → Rule
divisor_rule (Num n d real) = cond (int_eq n (pos 0)) Opaque (Scale (inverse_top (numeral n d)) (inverse_bottom (numeral n d)))
divisor_rule _ = Opaque

abbrev pub quotient_rule : List Term → Rule
quotient_rule ts = cond (nat_eq (length ts) 2) (divisor_rule (at ts 1)) Opaque

abbrev pub rule_of : Head → List Term → Rule
rule_of (head.Int o) ts = operation_rule o (length ts)
rule_of (head.Real op.Add) ts = operation_rule op.Add (length ts)
rule_of (head.Real op.Sub) ts = operation_rule op.Sub (length ts)
rule_of (head.Real op.Neg) ts = operation_rule op.Neg (length ts)
rule_of (head.Real op.Mul) ts = operation_rule op.Mul (length ts)
rule_of (head.Real op.Div) ts = quotient_rule ts
rule_of (head.Real op.Mod) ts = Opaque
rule_of _ ts = Opaque

-- the forms of two computations one after the other, and the keys after both
pub record AreResults (a b : Computation) (before after : List Term) (x y : Lin) : Type 0 where
  pub left : x ≡ (a before).form
  pub right : y ≡ (b (a before).keys).form
  pub keys : after ≡ (b (a before).keys).keys
  pub fits : first_wide ((a before).steps ++ (b (a before).keys).steps) ≡ None

-- the first product or sum of two computations that leaves the limits
abbrev pub IsWideInBoth : Computation → Computation → List Term → NumFail → Type 0
IsWideInBoth a b before fail = IfWide fail (λ w. first_wide ((a before).steps ++ (b (a before).keys).steps) ≡ Some w)
