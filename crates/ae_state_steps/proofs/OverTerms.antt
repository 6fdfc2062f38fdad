-- Forms over names, read as linear forms over the terms of the names.
use Rattle.std.specs.Prelude.{ℕ, ℤ, pos, ◌≡◌, ◌*ℤ◌, ◌<ℤ◌, List, [], ◌∷◌, map, Bool}
use Rattle.std.proofs.Common.{arith, refl, sym, ap, ◌∙◌}
use native.Mathlib.Decide.{ℕ_discrete}
use borrow.Author.Differences.{ints}
use Rattle.ae_base.proofs.Decided.{pick_yes, pick_no}
use Rattle.ae_math.specs.Fractions.{ℚ, zero_ℚ, one_ℚ, neg_ℚ, whole, ratio, ◌+ℚ◌, ◌*ℚ◌}
use Rattle.ae_math.specs.Forms.{Form, number, single, plus, minus, scale, factor, substitute, value, sum_of}
use Rattle.ae_math.proofs.FractionLaws.{add_zero_q, zero_add_q, mul_zero_q, zero_mul_q, one_mul_q, mul_add_q, mul_assoc_q, add_neg_q, mul_neg_q, add_assoc_q, add_left_comm_q, one_mul_q'}
use Rattle.ae_math.proofs.FormLaws.{minus_one, factor_in-append, factor_in-scale, value-same, value-plus, value-scale, value-single, value-number, substitute_there, substitute_elsewhere, by_key, same_trans, plus-same}
use Rattle.ae_core.specs.Decided.{Term_discrete}
use Rattle.ae_core.specs.declared.terms.Term.{Term}
use Rattle.ae_num.specs.declared.forms.Part.{Part}
use Rattle.ae_num.specs.declared.forms.Lin.{Lin}
use Rattle.ae_num.specs.Forms.{meaning, SameMeaning, IsNormal}
use Rattle.ae_num.proofs.MeaningLaws.{ratio_times, ratio_scaled}
use Rattle.ae_rules.specs.Linear.{Linear, form, factor_of, IsSame}
use Rattle.ae_store.specs.Terms.{named}
use Rattle.ae_just.specs.Values.{combination, IsValueOf, value_equation}
use Rattle.ae_just.proofs.ValueLaws.{value_written}
use Rattle.ae_state_steps.specs.ValueSteps.{times_of}

abbrev over_parts : List Term → List (ℕ × ℚ) → Linear
over_parts ts [] = number zero_ℚ
over_parts ts (p ∷ ps) = plus (scale p.1 (form (named ts p.0))) (over_parts ts ps)

abbrev pub over_terms : List Term → Form ℕ → Linear
over_terms ts f = plus (over_parts ts f.parts) (number f.constant)

module _ (ts : List Term) where
  -- ---- the factor of a term, and the constant, as values of the form
  abbrev at : Term → ℕ → ℚ
  at u k = factor_of (form (named ts k)) u

  abbrev constant_at : ℕ → ℚ
  constant_at k = (form (named ts k)).constant

  parts_factor : (u : Term) (ps : List (ℕ × ℚ)) → factor_of (over_parts ts ps) u ≡ sum_of (at u) ps
  parts_factor u [] = refl
  parts_factor u (p ∷ ps) =
      factor_in-append Term_discrete (scale p.1 (form (named ts p.0))).parts (over_parts ts ps).parts u ∙ (λ i. factor_in-scale Term_discrete p.1 (form (named ts p.0)).parts u i +ℚ parts_factor u ps i)

  factor_over : (u : Term) (f : Form ℕ) → factor_of (over_terms ts f) u ≡ value (at u) zero_ℚ f
  factor_over u f = factor_in-append Term_discrete (over_parts ts f.parts).parts [] u ∙ (λ i. parts_factor u f.parts i +ℚ sym (zero_mul_q f.constant) i)

  parts_constant : (ps : List (ℕ × ℚ)) → (over_parts ts ps).constant ≡ sum_of constant_at ps
  parts_constant [] = refl
  parts_constant (p ∷ ps) = ap (λ x. p.1 *ℚ constant_at p.0 +ℚ x) (parts_constant ps)

  constant_over : (f : Form ℕ) → (over_terms ts f).constant ≡ value constant_at one_ℚ f
  constant_over f = λ i. parts_constant f.parts i +ℚ sym (one_mul_q f.constant) i

  -- ---- laws
  pub over_same : (f g : Form ℕ) → SameMeaning f g → IsSame (over_terms ts f) (over_terms ts g)
  over_same f g s = record {
    factors = λ u. factor_over u f ∙ value-same ℕ_discrete (at u) zero_ℚ f g s ∙ sym (factor_over u g);
    constants = constant_over f ∙ value-same ℕ_discrete constant_at one_ℚ f g s ∙ sym (constant_over g);
  }

  pub over_plus : (f g : Form ℕ) → IsSame (over_terms ts (plus f g)) (plus (over_terms ts f) (over_terms ts g))
  over_plus f g = record {
    factors = λ u. factor_over u (plus f g) ∙ value-plus (at u) zero_ℚ f g ∙ (λ i. sym (factor_over u f) i +ℚ sym (factor_over u g) i) ∙ sym (factor_in-append Term_discrete (over_terms ts f).parts (over_terms ts g).parts u);
    constants = constant_over (plus f g) ∙ value-plus constant_at one_ℚ f g ∙ (λ i. sym (constant_over f) i +ℚ sym (constant_over g) i);
  }

  pub over_scale : (x : ℚ) (f : Form ℕ) → IsSame (over_terms ts (scale x f)) (scale x (over_terms ts f))
  over_scale x f = record {
    factors = λ u. factor_over u (scale x f) ∙ value-scale (at u) zero_ℚ x f ∙ ap (λ y. x *ℚ y) (sym (factor_over u f)) ∙ sym (factor_in-scale Term_discrete x (over_terms ts f).parts u);
    constants = constant_over (scale x f) ∙ value-scale constant_at one_ℚ x f ∙ ap (λ y. x *ℚ y) (sym (constant_over f));
  }

  pub over_minus : (f g : Form ℕ) → IsSame (over_terms ts (minus f g)) (minus (over_terms ts f) (over_terms ts g))
  over_minus f g =
      same_trans Term_discrete (over_terms ts (minus f g)) (plus (over_terms ts f) (over_terms ts (scale (neg_ℚ one_ℚ) g))) (minus (over_terms ts f) (over_terms ts g)) (over_plus f (scale (neg_ℚ one_ℚ) g))
      (plus-same Term_discrete (over_terms ts f) (over_terms ts f) (over_terms ts (scale (neg_ℚ one_ℚ) g)) (scale (neg_ℚ one_ℚ) (over_terms ts g)) (record { factors = λ u. refl; constants = refl }) (over_scale (neg_ℚ one_ℚ) g))

  pub over_single : (k : ℕ) → IsSame (over_terms ts (single k)) (form (named ts k))
  over_single k = record { factors = λ u. factor_over u (single k) ∙ value-single (at u) zero_ℚ k; constants = constant_over (single k) ∙ value-single constant_at one_ℚ k }

  pub over_number : (x : ℚ) → IsSame (over_terms ts (number x)) (number x)
  over_number x = record { factors = λ u. factor_over u (number x) ∙ value-number (at u) zero_ℚ x ∙ zero_mul_q x; constants = constant_over (number x) ∙ value-number constant_at one_ℚ x ∙ one_mul_q x }

-- ---- a value put for a name is added as often as the name stands there, less the name
spread : (c y : ℚ) → c *ℚ y ≡ c +ℚ c *ℚ (y +ℚ neg_ℚ one_ℚ *ℚ (one_ℚ +ℚ zero_ℚ))
spread c y =
    sym (ap (λ x. c +ℚ c *ℚ (y +ℚ x)) (minus_one (one_ℚ +ℚ zero_ℚ) ∙ ap neg_ℚ (add_zero_q one_ℚ))
    ∙ ap (λ x. c +ℚ x) (mul_add_q c y (neg_ℚ one_ℚ) ∙ ap (λ x. c *ℚ y +ℚ x) (mul_neg_q c one_ℚ ∙ ap neg_ℚ (one_mul_q' c)))
    ∙ add_left_comm_q c (c *ℚ y) (neg_ℚ c) ∙ ap (λ x. c *ℚ y +ℚ x) (add_neg_q c) ∙ add_zero_q (c *ℚ y))

kept : (a c y : ℚ) → a +ℚ c *ℚ y ≡ a +ℚ c *ℚ (y +ℚ neg_ℚ one_ℚ *ℚ zero_ℚ)
kept a c y = ap (λ x. a +ℚ c *ℚ x) (sym (ap (λ x. y +ℚ x) (mul_zero_q (neg_ℚ one_ℚ)) ∙ add_zero_q y))

pub put_form : (p q : Form ℕ) (key : ℕ) → SameMeaning (substitute ℕ_discrete p key q) (plus p (scale (factor ℕ_discrete p key) (minus q (single key))))
put_form p q key =
    by_key ℕ_discrete key (substitute ℕ_discrete p key q) (plus p (scale (factor ℕ_discrete p key) (minus q (single key))))
    (substitute_there ℕ_discrete p key q ∙ spread (factor ℕ_discrete p key) (factor ℕ_discrete q key)
    ∙ ap (λ x. factor ℕ_discrete p key +ℚ factor ℕ_discrete p key *ℚ (factor ℕ_discrete q key +ℚ neg_ℚ one_ℚ *ℚ x)) (sym (pick_yes (ℕ_discrete key key) (one_ℚ +ℚ zero_ℚ) zero_ℚ refl)) ∙ sym (split key))
    (λ t n. substitute_elsewhere ℕ_discrete p key q t n ∙ kept (factor ℕ_discrete p t) (factor ℕ_discrete p key) (factor ℕ_discrete q t)
    ∙ ap (λ x. factor ℕ_discrete p t +ℚ factor ℕ_discrete p key *ℚ (factor ℕ_discrete q t +ℚ neg_ℚ one_ℚ *ℚ x)) (sym (pick_no (ℕ_discrete key t) (one_ℚ +ℚ zero_ℚ) zero_ℚ n)) ∙ sym (split t))
    (kept p.constant (factor ℕ_discrete p key) q.constant)
  where
    split : (t : ℕ) → factor ℕ_discrete (plus p (scale (factor ℕ_discrete p key) (minus q (single key)))) t
        ≡ factor ℕ_discrete p t +ℚ factor ℕ_discrete p key *ℚ (factor ℕ_discrete q t +ℚ neg_ℚ one_ℚ *ℚ factor ℕ_discrete (single key) t)
    split t =
        factor_in-append ℕ_discrete p.parts (scale (factor ℕ_discrete p key) (minus q (single key))).parts t
        ∙ ap (λ x. factor ℕ_discrete p t +ℚ x) (factor_in-scale ℕ_discrete (factor ℕ_discrete p key) (minus q (single key)).parts t
        ∙ ap (λ x. factor ℕ_discrete p key *ℚ x) (factor_in-append ℕ_discrete q.parts (scale (neg_ℚ one_ℚ) (single key)).parts t
        ∙ ap (λ x. factor ℕ_discrete q t +ℚ x) (factor_in-scale ℕ_discrete (neg_ℚ one_ℚ) (single key).parts t)))

-- ---- a value written out
-- d times a / d
pub whole_ratio : (a d : ℤ) → pos 0 <ℤ d → whole d *ℚ ratio a d ≡ whole a
whole_ratio a d p =
    let one : pos 0 <ℤ pos 1 = omega (arith, ints) in
    let e : d *ℤ pos 1 ≡ d = omega (arith, ints) in
    sym (ratio_times d (pos 1) a d one p) ∙ ap (ratio (a *ℤ d)) e ∙ sym (ratio_scaled a (pos 1) (a *ℤ d) d d one p refl (let f : pos 1 *ℤ d ≡ d = omega (arith, ints) in f))

module _ (ts : List Term) (d : ℤ) (positive : pos 0 <ℤ d) where
  abbrev meant : List Part → List (ℕ × ℚ)
  meant ps = map (λ p. (p.key, ratio p.factor d)) ps

  one_more : (a : ℤ) (y s : ℚ) → whole a *ℚ y +ℚ whole d *ℚ s ≡ whole d *ℚ (ratio a d *ℚ y +ℚ s)
  one_more a y s = (λ i. (ap (λ x. x *ℚ y) (sym (whole_ratio a d positive)) ∙ mul_assoc_q (whole d) (ratio a d) y) i +ℚ whole d *ℚ s) ∙ sym (mul_add_q (whole d) (ratio a d *ℚ y) s)

  combination_factor : (u : Term) (ps : List Part) (c : ℤ) → factor_of (combination ts (times_of ps) c) u ≡ whole d *ℚ factor_of (over_parts ts (meant ps)) u
  combination_factor u [] c = sym (mul_zero_q (whole d))
  combination_factor u (p ∷ ps) c =
      factor_in-append Term_discrete (scale (whole p.factor) (form (named ts p.key))).parts (combination ts (times_of ps) c).parts u
      ∙ (λ i. factor_in-scale Term_discrete (whole p.factor) (form (named ts p.key)).parts u i +ℚ combination_factor u ps c i)
      ∙ one_more p.factor (factor_of (form (named ts p.key)) u) (factor_of (over_parts ts (meant ps)) u)
      ∙ ap (λ x. whole d *ℚ x) (sym (factor_in-append Term_discrete (scale (ratio p.factor d) (form (named ts p.key))).parts (over_parts ts (meant ps)).parts u
      ∙ ap (λ x. x +ℚ factor_of (over_parts ts (meant ps)) u) (factor_in-scale Term_discrete (ratio p.factor d) (form (named ts p.key)).parts u)))

  combination_constant : (ps : List Part) (c : ℤ) → (combination ts (times_of ps) c).constant ≡ whole d *ℚ ((over_parts ts (meant ps)).constant +ℚ ratio c d)
  combination_constant [] c = sym (ap (λ x. whole d *ℚ x) (zero_add_q (ratio c d)) ∙ whole_ratio c d positive)
  combination_constant (p ∷ ps) c =
      ap (λ x. whole p.factor *ℚ (form (named ts p.key)).constant +ℚ x) (combination_constant ps c)
      ∙ one_more p.factor (form (named ts p.key)).constant ((over_parts ts (meant ps)).constant +ℚ ratio c d)
      ∙ ap (λ x. whole d *ℚ x) (sym (add_assoc_q (ratio p.factor d *ℚ (form (named ts p.key)).constant) (over_parts ts (meant ps)).constant (ratio c d)))

pub written : (ts : List Term) (l : Lin) → IsNormal l → IsSame (combination ts (times_of l.parts) l.constant) (scale (whole l.den) (over_terms ts (meaning l)))
written ts l n = record {
  factors = λ u. combination_factor ts l.den n.positive u l.parts l.constant
      ∙ ap (λ x. whole l.den *ℚ x) (sym (factor_in-append Term_discrete (over_parts ts (meaning l).parts).parts [] u ∙ add_zero_q (factor_of (over_parts ts (meaning l).parts) u)))
      ∙ sym (factor_in-scale Term_discrete (whole l.den) (over_terms ts (meaning l)).parts u);
  constants = combination_constant ts l.den n.positive l.parts l.constant;
}

-- the equation of a value says the value
pub says_value : (ts : List Term) (real : Bool) (n : ℕ) (l : Lin) → IsNormal l
    → IsValueOf l.den (named ts n) (over_terms ts (meaning l)) (value_equation ts real l.den (times_of l.parts) l.constant (record { factor = l.den; name = n }))
says_value ts real n l normal = value_written ts real (times_of l.parts) l.constant (record { factor = l.den; name = n }) (over_terms ts (meaning l)) (written ts l normal)
