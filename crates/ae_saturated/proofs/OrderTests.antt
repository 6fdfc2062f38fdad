-- The tests of inequalities say `true` exactly where they hold at the point.
use Rattle.std.proofs.Common.{drop, get_or, inl, inr}
use Rattle.std.proofs.lemmas.List.{drop_more, drop_all}
use Rattle.std.proofs.lemmas.Bool.{and_parts, and_from, or_cases, or_left, false_from_ne_true, or_right}
use Rattle.std.specs.Prelude.{ℕ, ℤ, pos, ◌+◌, ◌<◌, ◌≤◌, Bool, true, cond, not, ◌&&◌, nat_eq, ◌≡◌, ◌↔◌, List, [], ◌∷◌, length, Option, Some, None}
use mathlib.Core.Path.{refl, sym, ap, subst, ◌∙◌}
use native.Mathlib.Decide.{ℕ_discrete}
use Rattle.ae_math.specs.Fractions.{ℚ, zero_ℚ, one_ℚ, neg_ℚ, ◌+ℚ◌, ◌*ℚ◌, is_positive, ratio}
use Rattle.ae_math.specs.Forms.{Form, SameForm, number as number_form, minus, scale, factor, sum_of, value}
use Rattle.ae_math.proofs.FormLaws.{minus_one, value-plus, value-scale, value-number, value-same, minus_factor}
use Rattle.ae_math.proofs.FractionLaws.{add_assoc_q, add_zero_q, one_mul_q}
use Rattle.ae_math.proofs.Wholes.{ratio_of_zero}
use Rattle.ae_core.specs.declared.formulas.Lit.{Lit}
use Rattle.ae_core.specs.declared.terms.Term.{Term}
use Rattle.ae_num.specs.Forms.{meaning as form_of}
use Rattle.ae_num.specs.declared.forms.Lin.{Lin}
use Rattle.ae_num.specs.declared.forms.Part.{Part}
use Rattle.ae_num.specs.declared.forms.Value.{Value, Value-F, Number, map-Value, out-Value}
use Rattle.ae_num.specs.declared.forms.Value.TheOpen as layer
use Rattle.ae_num.specs.declared.forms.Value.TheVariants.{outs-Number}
use Rattle.ae_journal.specs.States.{at_point, inequality, IsZeroSum, HoldsAt}
use Rattle.ae_journal.specs.Systems.{ValueOf}
use Rattle.ae_journal.specs.Values.{Val, number, constant_val, minus_val, scale_val, sum_in, meaning, meaning_step}
use Rattle.ae_journal.specs.declared.systems.PointAt.{PointAt}
use Rattle.ae_journal.specs.declared.systems.System.{System}
use Rattle.ae_decide.specs.Values.{value_of}
use Rattle.ae_decide.proofs.ValueTests.{AreApart, written_of, of_written}
use Rattle.ae_computing.specs.Inner.Totals.{coefficient_by}
use Rattle.ae_computing.specs.declared.values.Place.TheVariants.{Constant, Leaf}
use Rattle.ae_computing.proofs.TotalLaws.{parts_over}
use Rattle.ae_computing.proofs.TotalTests.{at_meaning, at_plus, at_scale, is_meaning, two_summands, total_tested}
use Rattle.ae_saturated.specs.Order.{nothing, are_even, number_by, number_of, is_above, holds_at, holds_if, sides_hold, inequality_holds}
use Rattle.ae_decide.proofs.NameTests.{denied}

-- ---- the steps of the loops
pub point_step : (ps : List PointAt) (i : ℕ) (d : PointAt) (n : ℕ) → i < length ps
    → at_point (drop i ps) n ≡ cond (nat_eq (get_or ps i d).name n) (ratio (get_or ps i d).top (get_or ps i d).bottom) (at_point (drop (i + 1) ps) n)
point_step ps i d n h = ap (λ qs. at_point qs n) (drop_more ps i d h)

pub no_point_left : (ps : List PointAt) (i : ℕ) (n : ℕ) → length ps ≤ i → at_point (drop i ps) n ≡ zero_ℚ
no_point_left ps i n h = ap (λ qs. at_point qs n) (drop_all i ps h)

pub sum_step : (point : List PointAt) (den : ℤ) (ps : List Part) (i : ℕ) (d : Part) (s : ℚ) → i < length ps
    → (s +ℚ ratio (get_or ps i d).factor den *ℚ at_point point (get_or ps i d).key) +ℚ sum_of (at_point point) (parts_over den (drop (i + 1) ps))
    ≡ s +ℚ sum_of (at_point point) (parts_over den (drop i ps))
sum_step point den ps i d s h =
    let p = get_or ps i d in
    add_assoc_q s (ratio p.factor den *ℚ at_point point p.key) (sum_of (at_point point) (parts_over den (drop (i + 1) ps)))
    ∙ (λ j. s +ℚ sum_of (at_point point) (parts_over den (sym (drop_more ps i d h) j)))

pub no_part_left : (point : List PointAt) (den : ℤ) (ps : List Part) (i : ℕ) (s : ℚ) → length ps ≤ i
    → s ≡ s +ℚ sum_of (at_point point) (parts_over den (drop i ps))
no_part_left point den ps i s h = sym (add_zero_q s) ∙ (λ j. s +ℚ sum_of (at_point point) (parts_over den (sym (drop_all i ps h) j)))

-- ---- the form of a value
abbrev form_by : Value-F Value → Form ℕ
form_by (layer.Number f) = form_of f
form_by (layer.Leaf n) = number_form zero_ℚ
form_by (layer.Fields vs) = number_form zero_ℚ

factor_by : (l : Value-F Value) (k : ℕ) → coefficient_by (Leaf k) l ≡ factor ℕ_discrete (form_by l) k
factor_by (layer.Number f) k = refl
factor_by (layer.Leaf n) k = refl
factor_by (layer.Fields vs) k = refl

constant_by : (l : Value-F Value) → coefficient_by Constant l ≡ (form_by l).constant
constant_by (layer.Number f) = refl
constant_by (layer.Leaf n) = refl
constant_by (layer.Fields vs) = refl

number_is : (ps : List PointAt) (l : Value-F Value) → value (at_point ps) one_ℚ (form_by l) ≡ number_by ps l
number_is ps (layer.Number f) = ap (λ x. sum_of (at_point ps) (form_of f).parts +ℚ x) (one_mul_q (ratio f.constant f.den))
number_is ps (layer.Leaf n) = value-number (at_point ps) one_ℚ zero_ℚ ∙ one_mul_q zero_ℚ
number_is ps (layer.Fields vs) = value-number (at_point ps) one_ℚ zero_ℚ ∙ one_mul_q zero_ℚ

abbrev form : Value → Form ℕ
form v = form_by (out-Value v)

-- ---- the difference of two values
abbrev difference : Value → Value → Val
difference v w = minus_val (meaning v) (meaning w)

same_difference : (v w : Value) → SameForm ℕ_discrete (sum_in (difference v w)) (minus (form v) (form w))
same_difference v w = record {
  factors = λ k. at_plus (Leaf k) (meaning v) (scale_val (neg_ℚ one_ℚ) (meaning w))
      ∙ (λ i. (at_meaning (Leaf k) v ∙ factor_by (out-Value v) k) i +ℚ (at_scale (Leaf k) (neg_ℚ one_ℚ) (meaning w) ∙ ap (λ x. neg_ℚ one_ℚ *ℚ x) (at_meaning (Leaf k) w ∙ factor_by (out-Value w) k)) i)
      ∙ sym (minus_factor ℕ_discrete (form v) (form w) k);
  constants = λ i. (at_meaning Constant v ∙ constant_by (out-Value v)) i +ℚ neg_ℚ one_ℚ *ℚ (at_meaning Constant w ∙ constant_by (out-Value w)) i;
}

difference_at : (ps : List PointAt) (v w : Value) → value (at_point ps) one_ℚ (sum_in (difference v w)) ≡ number_of ps v +ℚ neg_ℚ (number_of ps w)
difference_at ps v w =
    value-same ℕ_discrete (at_point ps) one_ℚ (sum_in (difference v w)) (minus (form v) (form w)) (same_difference v w)
    ∙ value-plus (at_point ps) one_ℚ (form v) (scale (neg_ℚ one_ℚ) (form w))
    ∙ (λ i. number_is ps (out-Value v) i
    +ℚ (value-scale (at_point ps) one_ℚ (neg_ℚ one_ℚ) (form w) ∙ minus_one (value (at_point ps) one_ℚ (form w)) ∙ ap neg_ℚ (number_is ps (out-Value w))) i)

-- ---- differences that are the zero sum
zero_value : meaning nothing ≡ constant_val zero_ℚ
zero_value =
    let f : Lin = record { den = pos 1; parts = []; constant = pos 0 } in
    is_meaning (Number f) ∙ ap (λ l. meaning_step (map-Value Value Val meaning l)) (outs-Number f) ∙ ap constant_val (ratio_of_zero (pos 1))

even_tested : (v w : Value) → (are_even v w ≡ true) ↔ (meaning nothing ≡ difference v w)
even_tested v w =
    let m = neg_ℚ one_ℚ in
    total_tested nothing ((one_ℚ, v) ∷ (m, w) ∷ []) (difference v w)
    (two_summands m v w (scale_val m (meaning w)) (λ p. at_scale p m (meaning w) ∙ ap (λ z. m *ℚ z) (at_meaning p w)))

even_tells : (v w : Value) → are_even v w ≡ true → IsZeroSum (sum_in (difference v w))
even_tells v w e =
    let d : difference v w ≡ constant_val zero_ℚ = sym ((even_tested v w).0 e) ∙ zero_value in
    (ap (λ x. (sum_in x).parts) d, ap (λ x. (sum_in x).constant) d)

by_even : (v w : Value) → IsZeroSum (sum_in (difference v w)) → are_even v w ≡ true
by_even v w (a, b) = (even_tested v w).1 (zero_value ∙ (λ i. number (record { parts = sym a i; constant = sym b i })))

-- ---- two values
holds_tells : (ps : List PointAt) (strict : Bool) (v w : Value) → holds_at ps strict v w ≡ true → HoldsAt ps strict (sum_in (difference v w))
holds_tells ps strict v w e = elim (or_cases (not strict && are_even v w) (is_above ps v w) e) as (λ _. HoldsAt ps strict (sum_in (difference v w))) [
  | inl q ↦ let a = and_parts (not strict) (are_even v w) q in inl (even_tells v w a.1, false_from_ne_true strict (denied strict a.0))
  | inr r ↦ inr (ap is_positive (difference_at ps v w) ∙ r)
]

by_holds : (ps : List PointAt) (strict : Bool) (v w : Value) → HoldsAt ps strict (sum_in (difference v w)) → holds_at ps strict v w ≡ true
by_holds ps strict v w (inl (z, s)) =
    or_left (not strict && are_even v w) (is_above ps v w) (and_from (not strict) (are_even v w) (ap not s) (by_even v w z))
by_holds ps strict v w (inr r) = or_right (not strict && are_even v w) (is_above ps v w) (sym (ap is_positive (difference_at ps v w)) ∙ r)

-- ---- a literal
module _ (y : System) (apart : AreApart y) (ps : List PointAt) (l : Lit) where
  abbrev Holds : Type 0
  Holds =
      (z : Term × Term × Bool) → inequality l ≡ Some z → (v : Val) → ValueOf y z.0 v → (w : Val) → ValueOf y z.1 w → HoldsAt ps z.2 (sum_in (minus_val v w))

  pub inequality_tells : inequality_holds y ps l ≡ true → Holds
  inequality_tells t z e v a w b =
      let (x, i, p) = written_of y apart z.0 v a in
      let (u, j, q) = written_of y apart z.1 w b in
      let h : holds_at ps z.2 x u ≡ true = sym (λ k. holds_if ps z.2 (i k) (j k)) ∙ sym (ap (sides_hold y ps) e) ∙ t in
      subst (λ (s : Val × Val). HoldsAt ps z.2 (sum_in (minus_val s.0 s.1))) (λ k. (p k, q k)) (holds_tells ps z.2 x u h)

  pub by_inequality : Holds → inequality_holds y ps l ≡ true
  by_inequality f = go (inequality l) refl
    where
      both : (z : Term × Term × Bool) → inequality l ≡ Some z → (o p : Option Value) → value_of y z.0 ≡ o → value_of y z.1 ≡ p → holds_if ps z.2 o p ≡ true
      both z e (Some v) (Some w) i j = by_holds ps z.2 v w (f z e (meaning v) (of_written y apart z.0 v i) (meaning w) (of_written y apart z.1 w j))
      both z e (Some v) None i j = refl
      both z e None (Some w) i j = refl
      both z e None None i j = refl

      go : (o : Option (Term × Term × Bool)) → inequality l ≡ o → sides_hold y ps o ≡ true
      go (Some z) e = both z e (value_of y z.0) (value_of y z.1) refl refl
      go None e = refl
