-- Which terms are computed, at each operation.
use Rattle.std.specs.Prelude.{ℕ, ℤ, ◌≡◌, Bool, true, false, cond, not, List, [], ◌∷◌, Option, Some, None, is_some}
use Rattle.std.proofs.Common.{refl, ap, ◌∙◌}
use Rattle.ae_math.specs.Fractions.{ℚ, inverse_ℚ, ratio}
use Rattle.ae_math.specs.Forms.{is_zero}
use Rattle.ae_core.specs.declared.terms.Sort.{Sort}
use Rattle.ae_core.specs.declared.terms.Head.{Head}
use Rattle.ae_core.specs.declared.terms.Head.TheVariants as head
use Rattle.ae_core.specs.declared.terms.Op.{Op}
use Rattle.ae_core.specs.declared.terms.Op.TheVariants as op
use Rattle.ae_core.specs.declared.terms.Term.{Term, Bound, Num, Fresh, Apply}
use Rattle.ae_core.specs.declared.terms.Term.TheVariants.{outs-Apply, outs-Num, outs-Fresh, outs-Bound}
use Rattle.ae_rules.specs.Linear.{rule_of}
use Rattle.ae_rules.specs.Matches.{is_divisor, is_computed, is_arithmetic, is_arithmetic_layer}
use Rattle.ae_naturals.specs.declared.fractions.Fraction.{Fraction}
use Rattle.ae_computing.specs.Inner.Operations.{value_if, inverse_of}
use Rattle.ae_finding.specs.Computed.{is_sum, is_quotient}

-- ---- what is known of a number says whether there is one
some_value : (o : Option Fraction) (q : Option ℚ) → value_if o ≡ q → is_some o ≡ is_some q
some_value None q e = ap (λ o. is_some o) e
some_value (Some x) q e = ap (λ o. is_some o) e

pub number_some : (o : Option Fraction) (b : Bool) (x : ℚ) → value_if o ≡ cond b (Some x) None → is_some o ≡ b
number_some o b x e = some_value o (cond b (Some x) None) e ∙ by b
  where
    by : (b : Bool) → is_some (cond b (Some x) None) ≡ b
    by true = refl
    by false = refl

inverse_some : (t : Term) → is_some (inverse_of t) ≡ is_divisor t
inverse_some (Num a b real) = elim (is_zero (ratio a b)) as (λ z. is_some (cond z None (Some (inverse_ℚ (ratio a b)))) ≡ not z) [ true ↦ refl | false ↦ refl ]
inverse_some _ = refl

pub divisor_some : (o : Option Fraction) (t : Term) → value_if o ≡ inverse_of t → is_some o ≡ is_divisor t
divisor_some o t e = some_value o (inverse_of t) e ∙ inverse_some t

-- ---- operations
pub int_sum : (o : Op) (us : List Term) → is_computed (rule_of (head.Int o) us) ≡ is_sum o us
int_sum op.Add [] = refl
int_sum op.Add (a ∷ []) = refl
int_sum op.Add (a ∷ b ∷ []) = refl
int_sum op.Add (a ∷ b ∷ c ∷ us) = refl
int_sum op.Sub [] = refl
int_sum op.Sub (a ∷ []) = refl
int_sum op.Sub (a ∷ b ∷ []) = refl
int_sum op.Sub (a ∷ b ∷ c ∷ us) = refl
int_sum op.Neg [] = refl
int_sum op.Neg (a ∷ []) = refl
int_sum op.Neg (a ∷ b ∷ us) = refl
int_sum op.Mul [] = refl
int_sum op.Mul (a ∷ []) = refl
int_sum op.Mul (a ∷ b ∷ []) = refl
int_sum op.Mul (a ∷ b ∷ c ∷ us) = refl
int_sum op.Div us = refl
int_sum op.Mod us = refl

pub real_quotient : (us : List Term) → is_computed (rule_of (head.Real op.Div) us) ≡ is_quotient us
real_quotient [] = refl
real_quotient (a ∷ []) = refl
real_quotient (a ∷ b ∷ []) = refl
real_quotient (a ∷ b ∷ c ∷ us) = refl

pub real_add : (us : List Term) → is_computed (rule_of (head.Real op.Add) us) ≡ is_sum op.Add us
real_add [] = refl
real_add (a ∷ []) = refl
real_add (a ∷ b ∷ []) = refl
real_add (a ∷ b ∷ c ∷ us) = refl

pub real_sub : (us : List Term) → is_computed (rule_of (head.Real op.Sub) us) ≡ is_sum op.Sub us
real_sub [] = refl
real_sub (a ∷ []) = refl
real_sub (a ∷ b ∷ []) = refl
real_sub (a ∷ b ∷ c ∷ us) = refl

pub real_neg : (us : List Term) → is_computed (rule_of (head.Real op.Neg) us) ≡ is_sum op.Neg us
real_neg [] = refl
real_neg (a ∷ []) = refl
real_neg (a ∷ b ∷ us) = refl

pub real_mul : (us : List Term) → is_computed (rule_of (head.Real op.Mul) us) ≡ is_sum op.Mul us
real_mul [] = refl
real_mul (a ∷ []) = refl
real_mul (a ∷ b ∷ []) = refl
real_mul (a ∷ b ∷ c ∷ us) = refl

pub ruleset computed_rules = (int_sum, real_quotient, real_add, real_sub, real_neg, real_mul)

-- ---- terms
pub arithmetic_num : (a b : ℤ) (r : Bool) → is_arithmetic (Num a b r) ≡ true
unfolding is_arithmetic
arithmetic_num a b r = ap is_arithmetic_layer (outs-Num a b r)

pub arithmetic_bound : (i : ℕ) → is_arithmetic (Bound i) ≡ false
unfolding is_arithmetic
arithmetic_bound i = ap is_arithmetic_layer (outs-Bound i)

pub arithmetic_fresh : (k : ℕ) (s : Sort) → is_arithmetic (Fresh k s) ≡ false
unfolding is_arithmetic
arithmetic_fresh k s = ap is_arithmetic_layer (outs-Fresh k s)

pub arithmetic_apply : (h : Head) (ss : List Sort) (us : List Term) → is_arithmetic (Apply h ss us) ≡ is_computed (rule_of h us)
unfolding is_arithmetic
arithmetic_apply h ss us = ap is_arithmetic_layer (outs-Apply h ss us)

pub ruleset arithmetic_rules = (arithmetic_num, arithmetic_bound, arithmetic_fresh, arithmetic_apply)
