-- The test of what is computed says `true` exactly where the third clause holds.
use Rattle.std.specs.Prelude.{ℕ, ℤ, Bool, true, ◌≡◌, ◌↔◌, List, [], ◌∷◌, Option, Some, None}
use Rattle.std.proofs.lemmas.Option.{same_Some}
use mathlib.Core.Path.{refl, sym, ap, subst, ◌∙◌}
use Rattle.ae_base.proofs.AllOf.{test_of_all, all_from_places}
use Rattle.ae_base.proofs.ListFacts.{list_all_at}
use Rattle.ae_base.proofs.Options.{never_some}
use Rattle.ae_math.specs.Fractions.{ℚ, one_ℚ, neg_ℚ, ratio, ◌*ℚ◌}
use Rattle.ae_math.proofs.FractionLaws.{one_mul_q}
use Rattle.ae_core.specs.declared.problems.Signature.{Signature}
use Rattle.ae_core.specs.declared.terms.Term.{Term, Term-F, Num, Apply, out-Term, roll-Term, roll-out-Term}
use Rattle.ae_core.specs.declared.terms.Term.TheOpen as layer
use Rattle.ae_core.specs.declared.terms.Term.TheVariants.{outs-Apply, outs-Num, rolls-Num}
use Rattle.ae_num.specs.declared.forms.Lin.{Lin}
use Rattle.ae_num.specs.declared.forms.Value.{Value, Number, map-Value}
use Rattle.ae_num.specs.declared.forms.Value.TheVariants.{outs-Number}
use Rattle.ae_journal.specs.Values.{Val, number, constant_val, plus_val, minus_val, scale_val, meaning, meaning_step}
use Rattle.ae_journal.specs.Systems.{IsName, ValuesOf, value_at, beside}
use Rattle.ae_journal.specs.declared.systems.System.{System}
use Rattle.ae_decide.specs.Clauses.{HasTerms, IsComputed}
use Rattle.ae_decide.specs.Values.{value_of}
use Rattle.ae_decide.proofs.NameTests.{is_application}
use Rattle.ae_decide.proofs.ValueTests.{value_is, has_written, written_at, written_of, of_written}
use Rattle.ae_computing.specs.Inner.Operations.{operation_of, inverse_of, number_of}
use Rattle.ae_computing.specs.Inner.Totals.{coefficient, is_total}
use Rattle.ae_computing.specs.Inner.Computed.{is_numeral, is_multiple_if, is_product_by, fits_one, fits_two, fits_one_if, fits_two_if, fits, is_right_by, is_right, is_right_if, has_right, all_right}
use Rattle.ae_computing.specs.declared.operations.Operation.{Operation}
use Rattle.ae_computing.specs.declared.operations.Operation.TheVariants.{Sum, Difference, Negation, Product, Quotient, Opaque}
use Rattle.ae_computing.proofs.OperationLaws.{stated_by, linear_is, stated_none, stated_long, scaled_if, quotient_is, product_if, product_is}
use Rattle.ae_computing.proofs.TotalTests.{at_meaning, at_scale, is_meaning, one_summand, two_summands, total_tested}

-- ---- one value that is stated, or none
abbrev IsStated : Val → Option Val → Type 0
IsStated v o = (x : Val) → o ≡ Some x → v ≡ x

stated_some : (v x : Val) (b : Bool) → (b ≡ true) ↔ (v ≡ x) → (b ≡ true) ↔ IsStated v (Some x)
stated_some v x b h = (λ t z e. h.0 t ∙ same_Some x z e, λ g. h.1 (g x refl))

stated_nothing : (v : Val) (b : Bool) → b ≡ true → (b ≡ true) ↔ IsStated v None
stated_nothing v b t = (λ u z e. never_some z e, λ g. t)

multiple_tested : (v w : Value) (o : Option ℚ) → (is_multiple_if v o w ≡ true) ↔ IsStated (meaning v) (scaled_if o (meaning w))
multiple_tested v w (Some x) =
    stated_some (meaning v) (scale_val x (meaning w)) (is_total v ((x, w) ∷ [])) (total_tested v ((x, w) ∷ []) (scale_val x (meaning w)) (one_summand x w))
multiple_tested v w None = stated_nothing (meaning v) true refl

product_tested : (v w u : Value) (o p : Option ℚ) → (is_product_by v o p w u ≡ true) ↔ IsStated (meaning v) (product_if o p (meaning w) (meaning u))
product_tested v w u (Some x) p =
    stated_some (meaning v) (scale_val x (meaning u)) (is_total v ((x, u) ∷ [])) (total_tested v ((x, u) ∷ []) (scale_val x (meaning u)) (one_summand x u))
product_tested v w u None p = multiple_tested v w p

pub one_tested : (o : Operation) (v w : Value) (t : Term) → (fits_one o v w ≡ true) ↔ IsStated (meaning v) (stated_by o ((t, meaning w) ∷ []))
one_tested Negation v w t = multiple_tested v w (Some (neg_ℚ one_ℚ))
one_tested Sum v w t = stated_nothing (meaning v) true refl
one_tested Difference v w t = stated_nothing (meaning v) true refl
one_tested Product v w t = stated_nothing (meaning v) true refl
one_tested Quotient v w t = stated_nothing (meaning v) true refl
one_tested Opaque v w t = stated_nothing (meaning v) true refl

pub two_tested : (o : Operation) (v : Value) (a b : Term) (w u : Value)
    → (fits_two o v a b w u ≡ true) ↔ IsStated (meaning v) (stated_by o ((a, meaning w) ∷ (b, meaning u) ∷ []))
two_tested Sum v a b w u =
    let ss = (one_ℚ, w) ∷ (one_ℚ, u) ∷ [] in
    let x = plus_val (meaning w) (meaning u) in
    stated_some (meaning v) x (is_total v ss)
    (total_tested v ss x (two_summands one_ℚ w u (meaning u) (λ p. at_meaning p u ∙ sym (one_mul_q (coefficient p u)))))
two_tested Difference v a b w u =
    let m = neg_ℚ one_ℚ in
    let ss = (one_ℚ, w) ∷ (m, u) ∷ [] in
    let x = minus_val (meaning w) (meaning u) in
    stated_some (meaning v) x (is_total v ss)
    (total_tested v ss x (two_summands m w u (scale_val m (meaning u)) (λ p. at_scale p m (meaning u) ∙ ap (λ z. m *ℚ z) (at_meaning p u))))
two_tested Product v a b w u =
    subst (λ s. (is_product_by v (number_of a) (number_of b) w u ≡ true) ↔ IsStated (meaning v) s) (sym (product_is (a, meaning w) (b, meaning u)))
    (product_tested v w u (number_of a) (number_of b))
two_tested Quotient v a b w u =
    subst (λ s. (is_multiple_if v (inverse_of b) w ≡ true) ↔ IsStated (meaning v) s) (sym (quotient_is (meaning w) b)) (multiple_tested v w (inverse_of b))
two_tested Negation v a b w u = stated_nothing (meaning v) true refl
two_tested Opaque v a b w u = stated_nothing (meaning v) true refl

-- ---- numerals
pub numeral_tested : (v : Value) (a b : ℤ) → (is_numeral v a b ≡ true) ↔ (meaning v ≡ constant_val (ratio a b))
numeral_tested v a b =
    let f : Lin = record { den = b; parts = []; constant = a } in
    let w = Number f in
    let means : meaning w ≡ constant_val (ratio a b) = is_meaning w ∙ ap (λ l. meaning_step (map-Value Value Val meaning l)) (outs-Number f) in
    let once : scale_val one_ℚ (meaning w) ≡ constant_val (ratio a b) =
    ap (scale_val one_ℚ) means ∙ (λ i. number (record { parts = []; constant = one_mul_q (ratio a b) i })) in
    subst (λ z. (is_numeral v a b ≡ true) ↔ (meaning v ≡ z)) once (total_tested v ((one_ℚ, w) ∷ []) (scale_val one_ℚ (meaning w)) (one_summand one_ℚ w))

is_num : (t : Term) (a b : ℤ) (real : Bool) → out-Term t ≡ layer.Num a b real → t ≡ Num a b real
is_num t a b real e = sym (roll-out-Term t) ∙ ap roll-Term e ∙ rolls-Num a b real

module _ (sig : Signature) (y : System) (terms : HasTerms sig y) where
  -- ---- applications
  abbrev IsFit : Operation → Value → List Term → Type 0
  IsFit o w us = (vs : List Val) → ValuesOf y us vs → IsStated (meaning w) (stated_by o (beside us vs))

  of_fits : (o : Operation) (w : Value) (us : List Term) → fits y o w us ≡ true → IsFit o w us
  of_fits o w [] e [] a x s = never_some x (sym (stated_none o) ∙ s)
  of_fits o w [] e (v ∷ vs) a x s = absurd a
  of_fits o w (t ∷ []) e [] a x s = absurd a
  of_fits o w (t ∷ []) e (v ∷ []) a x s =
      let (k, place, is) = written_of y terms.apart t v a.0 in
      (one_tested o w k t).0 (sym (ap (fits_one_if o w) place) ∙ e) x (ap (λ (z : Val). stated_by o ((t, z) ∷ [])) is ∙ s)
  of_fits o w (t ∷ []) e (v ∷ u ∷ vs) a x s = absurd a.1
  of_fits o w (t ∷ p ∷ []) e [] a x s = absurd a
  of_fits o w (t ∷ p ∷ []) e (v ∷ []) a x s = absurd a.1
  of_fits o w (t ∷ p ∷ []) e (v ∷ u ∷ []) a x s =
      let (k, place, is) = written_of y terms.apart t v a.0 in
      let (l, second, js) = written_of y terms.apart p u (a.1).0 in
      (two_tested o w t p k l).0 (sym (λ i. fits_two_if o w t p (place i) (second i)) ∙ e) x ((λ i. stated_by o ((t, is i) ∷ (p, js i) ∷ [])) ∙ s)
  of_fits o w (t ∷ p ∷ []) e (v ∷ u ∷ q ∷ vs) a x s = absurd ((a.1).1)
  of_fits o w (t ∷ p ∷ q ∷ us) e [] a x s = absurd a
  of_fits o w (t ∷ p ∷ q ∷ us) e (v ∷ []) a x s = absurd a.1
  of_fits o w (t ∷ p ∷ q ∷ us) e (v ∷ u ∷ []) a x s = absurd ((a.1).1)
  of_fits o w (t ∷ p ∷ q ∷ us) e (v ∷ u ∷ z ∷ vs) a x s = never_some x (sym (stated_long o (t, v) (p, u) (q, z) (beside us vs)) ∙ s)

  to_fits : (o : Operation) (w : Value) (us : List Term) → IsFit o w us → fits y o w us ≡ true
  to_fits o w [] g = refl
  to_fits o w (t ∷ []) g = go (value_of y t) refl
    where
      go : (k : Option Value) → value_of y t ≡ k → fits_one_if o w k ≡ true
      go None e = refl
      go (Some k) e = (one_tested o w k t).1 (g (meaning k ∷ []) (of_written y terms.apart t k e, tt))
  to_fits o w (t ∷ p ∷ []) g = go (value_of y t) (value_of y p) refl refl
    where
      go : (k l : Option Value) → value_of y t ≡ k → value_of y p ≡ l → fits_two_if o w t p k l ≡ true
      go None l e f = refl
      go (Some k) None e f = refl
      go (Some k) (Some l) e f =
          (two_tested o w t p k l).1 (g (meaning k ∷ meaning l ∷ []) (of_written y terms.apart t k e, (of_written y terms.apart p l f, tt)))
  to_fits o w (t ∷ p ∷ q ∷ us) g = refl

  -- ---- names
  right_at : all_right y ≡ true → (n : ℕ) (t : Term) → IsName y n t → (w : Value) × (value_at y n ≡ Some (meaning w)) × (is_right y t w ≡ true)
  right_at all n t i =
      let (w, e) = has_written y terms.values n t i in
      (w, written_at y n w e, sym (ap (is_right_if y t) (value_is y terms.apart n t i ∙ e)) ∙ list_all_at (has_right y) y.names n t all i)

  pub computed_of : all_right y ≡ true → IsComputed sig y
  computed_of all = record {
    numeral = λ n a b real i.
        let (w, at, right) = right_at all n (Num a b real) i in
        at ∙ ap (λ (z : Val). Some z) ((numeral_tested w a b).0 (sym (ap (λ l. is_right_by y l w) (outs-Num a b real)) ∙ right));
    computed = λ n h ss us vs v i values states.
        let (w, at, right) = right_at all n (Apply h ss us) i in
        at ∙ ap (λ (z : Val). Some z)
        (of_fits (operation_of h) w us (sym (ap (λ l. is_right_by y l w) (outs-Apply h ss us)) ∙ right) vs values v (sym (linear_is h (beside us vs)) ∙ states));
  }

  module _ (c : IsComputed sig y) where
    right_by : (n : ℕ) (t : Term) → IsName y n t → (w : Value) → value_at y n ≡ Some (meaning w) → (l : Term-F Term) → out-Term t ≡ l → is_right_by y l w ≡ true
    right_by n t i w at (layer.Num a b real) e =
        (numeral_tested w a b).1
        (same_Some (meaning w) (constant_val (ratio a b)) (sym at ∙ c.numeral n a b real (i ∙ ap (λ (z : Term). Some z) (is_num t a b real e))))
    right_by n t i w at (layer.Apply h ss us) e =
        to_fits (operation_of h) w us
        (λ vs values x s. same_Some (meaning w) x
        (sym at ∙ c.computed n h ss us vs x (i ∙ ap (λ (z : Term). Some z) (is_application t h ss us e)) values (linear_is h (beside us vs) ∙ s)))
    right_by n t i w at (layer.Bound k) e = refl
    right_by n t i w at (layer.Fresh k s) e = refl

    right_of : (n : ℕ) (t : Term) → IsName y n t → has_right y t ≡ true
    right_of n t i =
        let (w, e) = has_written y terms.values n t i in
        ap (is_right_if y t) (value_is y terms.apart n t i ∙ e) ∙ right_by n t i w (written_at y n w e) (out-Term t) refl

  pub of_computed : IsComputed sig y → all_right y ≡ true
  of_computed c =
      test_of_all (λ t. has_right y t ≡ true) (has_right y) (λ t q. q) y.names
      (all_from_places (λ t. has_right y t ≡ true) y.names (λ n t i. right_of c n t i))

  pub computing_tested : (b : Bool) → b ≡ all_right y → (b ≡ true) ↔ IsComputed sig y
  computing_tested b e = (λ t. computed_of (sym e ∙ t), λ c. e ∙ of_computed c)
