-- The table of linear operations, on values and on forms.
use Rattle.std.specs.Prelude.{Bool, true, false, cond, List, [], ◌∷◌, ◌≡◌, map, Option, Some, None, ℕ}
use Rattle.std.proofs.Common.{refl, sym, ap, ◌∙◌, subst}
use Rattle.std.proofs.lemmas.Option.{same_Some, none-some}
use Rattle.ae_math.specs.Fractions.{ℚ, one_ℚ, neg_ℚ, inverse_ℚ, ratio}
use Rattle.ae_math.specs.Forms.{Form, plus, minus, scale, is_zero}
use Rattle.ae_core.specs.declared.terms.Term.{Term, Bound, Num, Fresh, Apply'}
use Rattle.ae_core.specs.declared.terms.Head.{Head}
use Rattle.ae_rules.specs.Linear.{form, is_number}
use Rattle.ae_num.specs.Forms.{meaning as form_of}
use Rattle.ae_num.specs.declared.forms.Lin.{Lin}
use Rattle.ae_journal.specs.Values.{Val, plus_val, minus_val, scale_val}
use Rattle.ae_journal.specs.Systems.{linear, quotient}
use Rattle.ae_computing.specs.Inner.Operations.{operation_of, ruled_by, inverse_of, number_of}
use Rattle.ae_computing.specs.declared.operations.Operation.{Operation}
use Rattle.ae_computing.specs.declared.operations.Operation.TheVariants.{Sum, Difference, Negation, Product, Quotient, Opaque}
use Rattle.ae_computing.proofs.OperationLaws.{rule_is, stated_by, linear_is, stated_none, stated_long, scaled_if, quotient_is, product_if, product_is}
use Rattle.ae_settled.specs.Valued.{linear_by, linear_form}
use Rattle.ae_settled.specs.Valued as valued
use Rattle.ae_name_lines.proofs.Spelled.{val_of, sum_val, multiple_val, difference_val}

-- ---- where no value is stated for some values of the arguments, none is for others
scaled_alike : (x : Option ℚ) (v w : Val) → scaled_if x v ≡ None → scaled_if x w ≡ None
scaled_alike (Some x) v w e = absurd (none-some (scale_val x v) (sym e))
scaled_alike None v w e = refl

product_alike : (x y : Option ℚ) (a b c d : Val) → product_if x y a b ≡ None → product_if x y c d ≡ None
product_alike (Some x) y a b c d e = absurd (none-some (scale_val x b) (sym e))
product_alike None y a b c d e = scaled_alike y a c e

module _ (f g : Term → Val) where
  one_alike : (o : Operation) (a : Term) → stated_by o ((a, f a) ∷ []) ≡ None → stated_by o ((a, g a) ∷ []) ≡ None
  one_alike Sum a e = refl
  one_alike Difference a e = refl
  one_alike Negation a e = absurd (none-some (scale_val (neg_ℚ one_ℚ) (f a)) (sym e))
  one_alike Product a e = refl
  one_alike Quotient a e = refl
  one_alike Opaque a e = refl

  two_alike : (o : Operation) (a b : Term) → stated_by o ((a, f a) ∷ (b, f b) ∷ []) ≡ None → stated_by o ((a, g a) ∷ (b, g b) ∷ []) ≡ None
  two_alike Sum a b e = absurd (none-some (plus_val (f a) (f b)) (sym e))
  two_alike Difference a b e = absurd (none-some (minus_val (f a) (f b)) (sym e))
  two_alike Negation a b e = refl
  two_alike Product a b e = product_is (a, g a) (b, g b) ∙ product_alike (number_of a) (number_of b) (f a) (f b) (g a) (g b) (sym (product_is (a, f a) (b, f b)) ∙ e)
  two_alike Quotient a b e = quotient_is (g a) b ∙ scaled_alike (inverse_of b) (f a) (g a) (sym (quotient_is (f a) b) ∙ e)
  two_alike Opaque a b e = refl

  all_alike : (o : Operation) (us : List Term) → stated_by o (map (λ u. (u, f u)) us) ≡ None → stated_by o (map (λ u. (u, g u)) us) ≡ None
  all_alike o [] e = stated_none o
  all_alike o (a ∷ []) e = one_alike o a e
  all_alike o (a ∷ b ∷ []) e = two_alike o a b e
  all_alike o (a ∷ b ∷ c ∷ us) e = stated_long o (a, g a) (b, g b) (c, g c) (map (λ u. (u, g u)) us)

  pub none_alike : (h : Head) (us : List Term) → linear h (map (λ u. (u, f u)) us) ≡ None → linear h (map (λ u. (u, g u)) us) ≡ None
  none_alike h us e = linear_is h (map (λ u. (u, g u)) us) ∙ all_alike (operation_of h) us (sym (linear_is h (map (λ u. (u, f u)) us)) ∙ e)

-- ---- what is stated of the values of forms is the value of a form
pub record IsMade (v : Val) (o : Option (Form ℕ)) : Type 0 where
  pub made : Form ℕ
  pub is : o ≡ Some made
  pub value : v ≡ val_of made

abbrev pub vals_of : List (Term × Lin) → List (Term × Val)
vals_of ps = map (λ p. (p.0, val_of (form_of p.1))) ps

abbrev pub forms_of : List (Term × Lin) → List (Term × Form ℕ)
forms_of ps = map (λ p. (p.0, form_of p.1)) ps

some_made : (w v : Val) (f : Form ℕ) → Some w ≡ Some v → w ≡ val_of f → IsMade v (Some f)
some_made w v f e h = record { made = f; is = refl; value = sym (same_Some w v e) ∙ h }

product_made : (p q : Bool) (y z : ℚ) (f g : Form ℕ) (v : Val) → cond p (Some (scale_val y (val_of g))) (cond q (Some (scale_val z (val_of f))) None) ≡ Some v
    → IsMade v (cond p (Some (scale y g)) (cond q (Some (scale z f)) None))
product_made true q y z f g v e = some_made (scale_val y (val_of g)) v (scale y g) e (multiple_val y g)
product_made false true y z f g v e = some_made (scale_val z (val_of f)) v (scale z f) e (multiple_val z f)
product_made false false y z f g v e = absurd (none-some v e)

inverse_made : (b : Bool) (z : ℚ) (f : Form ℕ) (v : Val) → cond b None (Some (scale_val z (val_of f))) ≡ Some v → IsMade v (cond b None (Some (scale z f)))
inverse_made true z f v e = absurd (none-some v e)
inverse_made false z f v e = some_made (scale_val z (val_of f)) v (scale z f) e (multiple_val z f)

quotient_made : (f : Form ℕ) (t : Term) (v : Val) → quotient (val_of f) t ≡ Some v → IsMade v (valued.quotient f t)
quotient_made f (Bound n) v e = absurd (none-some v e)
quotient_made f (Fresh n s) v e = absurd (none-some v e)
quotient_made f (Apply' h ss shape row) v e = absurd (none-some v e)
quotient_made f (Num a b r) v e = inverse_made (is_zero (ratio a b)) (inverse_ℚ (ratio a b)) f v e

one_made : (o : Operation) (a : Term × Lin) (v : Val) → stated_by o (vals_of (a ∷ [])) ≡ Some v → IsMade v (linear_by (ruled_by o (forms_of (a ∷ []))))
one_made Sum a v e = absurd (none-some v e)
one_made Difference a v e = absurd (none-some v e)
one_made Negation a v e = some_made (scale_val (neg_ℚ one_ℚ) (val_of (form_of a.1))) v (scale (neg_ℚ one_ℚ) (form_of a.1)) e (multiple_val (neg_ℚ one_ℚ) (form_of a.1))
one_made Product a v e = absurd (none-some v e)
one_made Quotient a v e = absurd (none-some v e)
one_made Opaque a v e = absurd (none-some v e)

two_made : (o : Operation) (a b : Term × Lin) (v : Val) → stated_by o (vals_of (a ∷ b ∷ [])) ≡ Some v → IsMade v (linear_by (ruled_by o (forms_of (a ∷ b ∷ []))))
two_made Sum a b v e = some_made (plus_val (val_of (form_of a.1)) (val_of (form_of b.1))) v (plus (form_of a.1) (form_of b.1)) e (sum_val (form_of a.1) (form_of b.1))
two_made Difference a b v e = some_made (minus_val (val_of (form_of a.1)) (val_of (form_of b.1))) v (minus (form_of a.1) (form_of b.1)) e (difference_val (form_of a.1) (form_of b.1))
two_made Negation a b v e = absurd (none-some v e)
two_made Product a b v e = product_made (is_number (form a.0)) (is_number (form b.0)) (form a.0).constant (form b.0).constant (form_of a.1) (form_of b.1) v e
two_made Quotient a b v e = quotient_made (form_of a.1) b.0 v e
two_made Opaque a b v e = absurd (none-some v e)

all_made : (o : Operation) (ps : List (Term × Lin)) (v : Val) → stated_by o (vals_of ps) ≡ Some v → IsMade v (linear_by (ruled_by o (forms_of ps)))
all_made o [] v e = absurd (none-some v (sym (stated_none o) ∙ e))
all_made o (a ∷ []) v e = one_made o a v e
all_made o (a ∷ b ∷ []) v e = two_made o a b v e
all_made o (a ∷ b ∷ c ∷ ps) v e = absurd (none-some v (sym (stated_long o (a.0, val_of (form_of a.1)) (b.0, val_of (form_of b.1)) (c.0, val_of (form_of c.1)) (vals_of ps)) ∙ e))

pub linear_made : (h : Head) (ps : List (Term × Lin)) (v : Val) → linear h (vals_of ps) ≡ Some v → IsMade v (linear_form h (forms_of ps))
linear_made h ps v e = subst (IsMade v) (ap linear_by (sym (rule_is h (forms_of ps)))) (all_made (operation_of h) ps v (sym (linear_is h (vals_of ps)) ∙ e))
