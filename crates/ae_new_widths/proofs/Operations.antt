-- Where no value is stated of the values of names, no form is made of their numbers; where one is, it is the value of the form.
use Rattle.std.specs.Prelude.{ℕ, Bool, true, false, cond, List, [], ◌∷◌, ◌≡◌, map, Some, None}
use Rattle.std.specs.List.{AllByRecursion}
use Rattle.std.proofs.Common.{refl, sym, ap, ◌∙◌}
use Rattle.std.proofs.lemmas.Option.{none-some}
use Rattle.ae_math.specs.Fractions.{one_ℚ, neg_ℚ, inverse_ℚ, ratio}
use Rattle.ae_math.specs.Forms.{Form, scale, is_zero}
use Rattle.ae_core.specs.declared.terms.Term.{Term, Bound, Num, Fresh, Apply'}
use Rattle.ae_core.specs.declared.terms.Head.{Head}
use Rattle.ae_rules.specs.Linear.{form, is_number}
use Rattle.ae_num.specs.Forms.{meaning as form_of}
use Rattle.ae_num.specs.declared.forms.Lin.{Lin}
use Rattle.ae_journal.specs.Values.{Val, plus_val, minus_val, scale_val}
use Rattle.ae_journal.specs.Systems.{linear, quotient}
use Rattle.ae_computing.specs.Inner.Operations.{operation_of, ruled_by}
use Rattle.ae_computing.specs.declared.operations.Operation.{Operation}
use Rattle.ae_computing.specs.declared.operations.Operation.TheVariants.{Sum, Difference, Negation, Product, Quotient, Opaque}
use Rattle.ae_computing.proofs.OperationLaws.{rule_is, stated_by, linear_is}
use Rattle.ae_settled.specs.Valued.{linear_by, linear_form, with_forms}
use Rattle.ae_settled.specs.Valued as valued
use Rattle.ae_store.specs.Terms.{named}
use Rattle.ae_entering.proofs.Rules.{with_number}
use Rattle.ae_name_lines.proofs.Spelled.{val_of}
use Rattle.ae_name_lines.proofs.Linear.{vals_of, forms_of}

-- ---- no value, no form
product_none : (p q : Bool) (w x : Val) (y z : Form ℕ) → cond p (Some w) (cond q (Some x) None) ≡ None → cond p (Some y) (cond q (Some z) None) ≡ None
product_none true q w x y z e = absurd (none-some w (sym e))
product_none false true w x y z e = absurd (none-some x (sym e))
product_none false false w x y z e = refl

inverse_none : (b : Bool) (w : Val) (y : Form ℕ) → cond b None (Some w) ≡ None → cond b None (Some y) ≡ None
inverse_none true w y e = refl
inverse_none false w y e = absurd (none-some w (sym e))

quotient_none : (v : Val) (f : Form ℕ) (t : Term) → quotient v t ≡ None → valued.quotient f t ≡ None
quotient_none v f (Bound n) e = refl
quotient_none v f (Fresh n s) e = refl
quotient_none v f (Apply' h ss shape row) e = refl
quotient_none v f (Num a b r) e = inverse_none (is_zero (ratio a b)) (scale_val (inverse_ℚ (ratio a b)) v) (scale (inverse_ℚ (ratio a b)) f) e

no_argument : (o : Operation) → linear_by (ruled_by {A = Term × Form ℕ} o []) ≡ None
no_argument Sum = refl
no_argument Difference = refl
no_argument Negation = refl
no_argument Product = refl
no_argument Quotient = refl
no_argument Opaque = refl

one_argument : (o : Operation) (t : Term) (v : Val) (f : Form ℕ) → stated_by o ((t, v) ∷ []) ≡ None → linear_by (ruled_by o ((t, f) ∷ [])) ≡ None
one_argument Sum t v f e = refl
one_argument Difference t v f e = refl
one_argument Negation t v f e = absurd (none-some (scale_val (neg_ℚ one_ℚ) v) (sym e))
one_argument Product t v f e = refl
one_argument Quotient t v f e = refl
one_argument Opaque t v f e = refl

two_arguments : (o : Operation) (t u : Term) (v w : Val) (f g : Form ℕ) → stated_by o ((t, v) ∷ (u, w) ∷ []) ≡ None → linear_by (ruled_by o ((t, f) ∷ (u, g) ∷ [])) ≡ None
two_arguments Sum t u v w f g e = absurd (none-some (plus_val v w) (sym e))
two_arguments Difference t u v w f g e = absurd (none-some (minus_val v w) (sym e))
two_arguments Negation t u v w f g e = refl
two_arguments Product t u v w f g e =
    product_none (is_number (form t)) (is_number (form u)) (scale_val (form t).constant w) (scale_val (form u).constant v) (scale (form t).constant g) (scale (form u).constant f) e
two_arguments Quotient t u v w f g e = quotient_none v f u e
two_arguments Opaque t u v w f g e = refl

more_arguments : (o : Operation) (a b c : Term × Form ℕ) (xs : List (Term × Form ℕ)) → linear_by (ruled_by o (a ∷ b ∷ c ∷ xs)) ≡ None
more_arguments Sum a b c xs = refl
more_arguments Difference a b c xs = refl
more_arguments Negation a b c xs = refl
more_arguments Product a b c xs = refl
more_arguments Quotient a b c xs = refl
more_arguments Opaque a b c xs = refl

module _ (ts : List Term) (number : ℕ → Lin) where
  forms_are : (args : List ℕ) → with_forms (map (named ts) args) (map number args) ≡ map (with_number ts number) args
  forms_are [] = refl
  forms_are (a ∷ args) = λ i. with_number ts number a ∷ forms_are args i

  all_none : (o : Operation) (value : Term → Val) (args : List ℕ) → stated_by o (map (λ u. (u, value u)) (map (named ts) args)) ≡ None → linear_by (ruled_by o (map (with_number ts number) args)) ≡ None
  all_none o value [] e = no_argument o
  all_none o value (a ∷ []) e = one_argument o (named ts a) (value (named ts a)) (form_of (number a)) e
  all_none o value (a ∷ b ∷ []) e = two_arguments o (named ts a) (named ts b) (value (named ts a)) (value (named ts b)) (form_of (number a)) (form_of (number b)) e
  all_none o value (a ∷ b ∷ c ∷ args) e = more_arguments o (with_number ts number a) (with_number ts number b) (with_number ts number c) (map (with_number ts number) args)

  pub form_none : (h : Head) (value : Term → Val) (args : List ℕ) → linear h (map (λ u. (u, value u)) (map (named ts) args)) ≡ None → linear_form h (with_forms (map (named ts) args) (map number args)) ≡ None
  form_none h value args e =
      ap (linear_form h) (forms_are args) ∙ ap linear_by (rule_is h (map (with_number ts number) args))
      ∙ all_none (operation_of h) value args (sym (linear_is h (map (λ u. (u, value u)) (map (named ts) args))) ∙ e)

  -- ---- names with their numbers
  abbrev pub numbered : ℕ → Term × Lin
  numbered a = (named ts a, number a)

  pub vals_numbered : (value : Term → Val) (args : List ℕ) → AllByRecursion (λ a. value (named ts a) ≡ val_of (form_of (number a))) args
      → map (λ u. (u, value u)) (map (named ts) args) ≡ vals_of (map numbered args)
  vals_numbered value [] e = refl
  vals_numbered value (a ∷ args) e = λ i. (named ts a, e.0 i) ∷ vals_numbered value args e.1 i

  pub forms_numbered : (args : List ℕ) → with_forms (map (named ts) args) (map number args) ≡ forms_of (map numbered args)
  forms_numbered [] = refl
  forms_numbered (a ∷ args) = λ i. (named ts a, form_of (number a)) ∷ forms_numbered args i
