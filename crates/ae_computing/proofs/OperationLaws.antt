-- The table of the arithmetic that is computed, by operations: the rules of linear forms, and the values that are stated.
use Rattle.std.specs.Prelude.{true, false, cond, List, [], ◌∷◌, ◌≡◌, Option, Some, None}
use mathlib.Core.Path.{refl}
use Rattle.ae_math.specs.Fractions.{ℚ, one_ℚ, neg_ℚ, inverse_ℚ, ratio}
use Rattle.ae_math.specs.Forms.{single, scale, is_zero}
use Rattle.ae_core.specs.declared.terms.Head.{Head}
use Rattle.ae_core.specs.declared.terms.Head.TheVariants as head
use Rattle.ae_core.specs.declared.terms.Op.TheVariants as op
use Rattle.ae_core.specs.declared.terms.Term.{Term, Num}
use Rattle.ae_rules.specs.Linear.{Linear, rule_of, form, is_number, over}
use Rattle.ae_journal.specs.Values.{Val, plus_val, minus_val, scale_val}
use Rattle.ae_journal.specs.Systems.{linear, product, quotient}
use Rattle.ae_computing.specs.Inner.Operations.{operation_of, ruled_by, inverse_of, number_of}
use Rattle.ae_computing.specs.declared.operations.Operation.{Operation}
use Rattle.ae_computing.specs.declared.operations.Operation.TheVariants.{Sum, Difference, Negation, Product, Quotient, Opaque}

-- two functions that agree on lists of each length agree
by_length : {A B : Type 0} (f g : List A → B) → f [] ≡ g [] → ((a : A) → f (a ∷ []) ≡ g (a ∷ [])) → ((a b : A) → f (a ∷ b ∷ []) ≡ g (a ∷ b ∷ []))
    → ((a b c : A) (r : List A) → f (a ∷ b ∷ c ∷ r) ≡ g (a ∷ b ∷ c ∷ r)) → (xs : List A) → f xs ≡ g xs
by_length f g p q r s [] = p
by_length f g p q r s (a ∷ []) = q a
by_length f g p q r s (a ∷ b ∷ []) = r a b
by_length f g p q r s (a ∷ b ∷ c ∷ xs) = s a b c xs

pub rule_is : {A : Type 0} (h : Head) (xs : List A) → rule_of h xs ≡ ruled_by (operation_of h) xs
rule_is (head.Int op.Add) xs = by_length (rule_of (head.Int op.Add)) (ruled_by Sum) refl (λ a. refl) (λ a b. refl) (λ a b c r. refl) xs
rule_is (head.Int op.Sub) xs = by_length (rule_of (head.Int op.Sub)) (ruled_by Difference) refl (λ a. refl) (λ a b. refl) (λ a b c r. refl) xs
rule_is (head.Int op.Neg) xs = by_length (rule_of (head.Int op.Neg)) (ruled_by Negation) refl (λ a. refl) (λ a b. refl) (λ a b c r. refl) xs
rule_is (head.Int op.Mul) xs = by_length (rule_of (head.Int op.Mul)) (ruled_by Product) refl (λ a. refl) (λ a b. refl) (λ a b c r. refl) xs
rule_is (head.Int op.Div) xs = refl
rule_is (head.Int op.Mod) xs = refl
rule_is (head.Real op.Add) xs = by_length (rule_of (head.Real op.Add)) (ruled_by Sum) refl (λ a. refl) (λ a b. refl) (λ a b c r. refl) xs
rule_is (head.Real op.Sub) xs = by_length (rule_of (head.Real op.Sub)) (ruled_by Difference) refl (λ a. refl) (λ a b. refl) (λ a b c r. refl) xs
rule_is (head.Real op.Neg) xs = by_length (rule_of (head.Real op.Neg)) (ruled_by Negation) refl (λ a. refl) (λ a b. refl) (λ a b c r. refl) xs
rule_is (head.Real op.Mul) xs = by_length (rule_of (head.Real op.Mul)) (ruled_by Product) refl (λ a. refl) (λ a b. refl) (λ a b c r. refl) xs
rule_is (head.Real op.Div) xs = by_length (rule_of (head.Real op.Div)) (ruled_by Quotient) refl (λ a. refl) (λ a b. refl) (λ a b c r. refl) xs
rule_is (head.Real op.Mod) xs = refl
rule_is (head.Symbol n) xs = refl
rule_is (head.Build n) xs = refl
rule_is (head.Field n i) xs = refl
rule_is head.True xs = refl
rule_is head.False xs = refl
rule_is head.Void xs = refl

-- the value that an operation states
abbrev pub stated_by : Operation → List (Term × Val) → Option Val
stated_by Sum (a ∷ b ∷ []) = Some (plus_val a.1 b.1)
stated_by Difference (a ∷ b ∷ []) = Some (minus_val a.1 b.1)
stated_by Negation (a ∷ []) = Some (scale_val (neg_ℚ one_ℚ) a.1)
stated_by Product (a ∷ b ∷ []) = product a b
stated_by Quotient (a ∷ b ∷ []) = quotient a.1 b.0
stated_by _ _ = None

pub linear_is : (h : Head) (xs : List (Term × Val)) → linear h xs ≡ stated_by (operation_of h) xs
linear_is (head.Int op.Add) xs = by_length (linear (head.Int op.Add)) (stated_by Sum) refl (λ a. refl) (λ a b. refl) (λ a b c r. refl) xs
linear_is (head.Int op.Sub) xs = by_length (linear (head.Int op.Sub)) (stated_by Difference) refl (λ a. refl) (λ a b. refl) (λ a b c r. refl) xs
linear_is (head.Int op.Neg) xs = by_length (linear (head.Int op.Neg)) (stated_by Negation) refl (λ a. refl) (λ a b. refl) (λ a b c r. refl) xs
linear_is (head.Int op.Mul) xs = by_length (linear (head.Int op.Mul)) (stated_by Product) refl (λ a. refl) (λ a b. refl) (λ a b c r. refl) xs
linear_is (head.Int op.Div) xs = refl
linear_is (head.Int op.Mod) xs = refl
linear_is (head.Real op.Add) xs = by_length (linear (head.Real op.Add)) (stated_by Sum) refl (λ a. refl) (λ a b. refl) (λ a b c r. refl) xs
linear_is (head.Real op.Sub) xs = by_length (linear (head.Real op.Sub)) (stated_by Difference) refl (λ a. refl) (λ a b. refl) (λ a b c r. refl) xs
linear_is (head.Real op.Neg) xs = by_length (linear (head.Real op.Neg)) (stated_by Negation) refl (λ a. refl) (λ a b. refl) (λ a b c r. refl) xs
linear_is (head.Real op.Mul) xs = by_length (linear (head.Real op.Mul)) (stated_by Product) refl (λ a. refl) (λ a b. refl) (λ a b c r. refl) xs
linear_is (head.Real op.Div) xs = by_length (linear (head.Real op.Div)) (stated_by Quotient) refl (λ a. refl) (λ a b. refl) (λ a b c r. refl) xs
linear_is (head.Real op.Mod) xs = refl
linear_is (head.Symbol n) xs = refl
linear_is (head.Build n) xs = refl
linear_is (head.Field n i) xs = refl
linear_is head.True xs = refl
linear_is head.False xs = refl
linear_is head.Void xs = refl

-- no value of no argument, or of more than two
pub stated_none : (o : Operation) → stated_by o [] ≡ None
stated_none Sum = refl
stated_none Difference = refl
stated_none Negation = refl
stated_none Product = refl
stated_none Quotient = refl
stated_none Opaque = refl

pub stated_long : (o : Operation) (a b c : Term × Val) (xs : List (Term × Val)) → stated_by o (a ∷ b ∷ c ∷ xs) ≡ None
stated_long Sum a b c xs = refl
stated_long Difference a b c xs = refl
stated_long Negation a b c xs = refl
stated_long Product a b c xs = refl
stated_long Quotient a b c xs = refl
stated_long Opaque a b c xs = refl

-- ---- quotients and products by the numbers of terms
abbrev pub over_if : Term → Linear → Option ℚ → Linear
over_if whole f (Some x) = scale x f
over_if whole f None = single whole

pub over_is : (whole : Term) (f : Linear) (t : Term) → over whole f t ≡ over_if whole f (inverse_of t)
over_is whole f (Num a b real) =
    elim (is_zero (ratio a b)) as (λ z. cond z (single whole) (scale (inverse_ℚ (ratio a b)) f) ≡ over_if whole f (cond z None (Some (inverse_ℚ (ratio a b))))) [
      | true ↦ refl
      | false ↦ refl
    ]
over_is whole f _ = refl

abbrev pub scaled_if : Option ℚ → Val → Option Val
scaled_if (Some x) v = Some (scale_val x v)
scaled_if None v = None

pub quotient_is : (v : Val) (t : Term) → quotient v t ≡ scaled_if (inverse_of t) v
quotient_is v (Num a b real) =
    elim (is_zero (ratio a b)) as (λ z. cond z None (Some (scale_val (inverse_ℚ (ratio a b)) v)) ≡ scaled_if (cond z None (Some (inverse_ℚ (ratio a b)))) v) [
      | true ↦ refl
      | false ↦ refl
    ]
quotient_is v _ = refl

abbrev pub product_if : Option ℚ → Option ℚ → Val → Val → Option Val
product_if (Some x) o v w = Some (scale_val x w)
product_if None o v w = scaled_if o v

pub product_is : (a b : Term × Val) → product a b ≡ product_if (number_of a.0) (number_of b.0) a.1 b.1
product_is a b =
    elim (is_number (form a.0)) as (λ z. cond z (Some (scale_val (form a.0).constant b.1)) (cond (is_number (form b.0)) (Some (scale_val (form b.0).constant a.1)) None)
    ≡ product_if (cond z (Some (form a.0).constant) None) (number_of b.0) a.1 b.1) [
      | true ↦ refl
      | false ↦ elim (is_number (form b.0)) as (λ z. cond z (Some (scale_val (form b.0).constant a.1)) None ≡ scaled_if (cond z (Some (form b.0).constant) None) a.1) [
        | true ↦ refl
        | false ↦ refl
      ]
    ]
