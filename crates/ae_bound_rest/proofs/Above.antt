-- Forms of which a positive multiple is another one and a number that isn't negative; where the form is strict, the number is positive or the other one strict.
use Rattle.std.specs.Prelude.{ℕ, suc, ◌≡◌, ◌⊎◌, Bool, true, false, ◌||◌}
use Rattle.std.proofs.Common.{refl, sym, ap, ◌∙◌, inl, inr}
use native.Mathlib.Decide.{ℕ_discrete}
use Rattle.ae_math.specs.Fractions.{ℚ, zero_ℚ, neg_ℚ, ◌+ℚ◌, ◌*ℚ◌, is_positive}
use Rattle.ae_math.specs.Forms.{Form}
use Rattle.ae_math.proofs.FractionLaws.{field, add_comm_q, add_zero_q, mul_neg_q, mul_zero_q}
use Rattle.ae_math.proofs.FractionOrder.{positive_sum}
use Rattle.ae_math.proofs.FormLaws.{factor_in-scale}
use Rattle.ae_base.proofs.Tests.{true_false}
use Rattle.ae_ineq.specs.Inner.Sets.{IsMultiple}
use Rattle.ae_rows.specs.Rows.{factor_at, combination, IsOver, IsLower, IsUpper}
use Rattle.ae_rows.proofs.Elimination.{both_positive, factor_combination}
use Rattle.ae_bounds.proofs.Rounded.{IsWeaker}
use Rattle.ae_bound_points.proofs.Weaker.{IsLoose, loose_cases, loose_sum, loose_product, plus_factor, weaker_on, weaker_on_rest}

pub record IsAbove (f g : Form ℕ) (strict held : Bool) : Type 0 where
  pub weaker : IsWeaker f g
  pub firm : strict ≡ true → (is_positive weaker.rest ≡ true) ⊎ (held ≡ true)

pub firm_sum : (x y : ℚ) → is_positive x ≡ true → IsLoose y → is_positive (x +ℚ y) ≡ true
firm_sum x y p l = by_cases (loose_cases y l)
  where
    by_cases : (is_positive y ≡ true) ⊎ (y ≡ zero_ℚ) → is_positive (x +ℚ y) ≡ true
    by_cases (inl q) = positive_sum x y p q
    by_cases (inr z) = ap is_positive (ap (λ t. x +ℚ t) z ∙ add_zero_q x) ∙ p

-- of one strictness
pub same_above : (f g : Form ℕ) (s : Bool) → IsWeaker f g → IsAbove f g s s
same_above f g s w = record { weaker = w; firm = λ e. inr e }

-- with a positive number
pub firm_above : (f g : Form ℕ) (s b : Bool) (w : IsWeaker f g) → is_positive w.rest ≡ true → IsAbove f g s b
firm_above f g s b w p = record { weaker = w; firm = λ e. inl p }

pub above_on : (f g h : Form ℕ) (s m k : Bool) → IsAbove f g s m → IsAbove g h m k → IsAbove f h s k
above_on f g h s m k a b = record {
  weaker = weaker_on f g h a.weaker b.weaker;
  firm = λ e. elim (a.firm e) [
    | inl p ↦ inl
        (ap is_positive (weaker_on_rest f g h a.weaker b.weaker ∙ add_comm_q b.weaker.rest (b.weaker.times *ℚ a.weaker.rest))
        ∙ firm_sum (b.weaker.times *ℚ a.weaker.rest) b.weaker.rest (both_positive b.weaker.times a.weaker.rest b.weaker.positive p) b.weaker.loose)
    | inr z ↦ elim (b.firm z) [
      | inl q ↦ inl
          (ap is_positive (weaker_on_rest f g h a.weaker b.weaker)
          ∙ firm_sum b.weaker.rest (b.weaker.times *ℚ a.weaker.rest) q (loose_product b.weaker.times a.weaker.rest b.weaker.positive a.weaker.loose))
      | inr y ↦ inr y
    ]
  ];
}

pub weaker_factor : (f g : Form ℕ) (w : IsWeaker f g) (k : ℕ) → w.times *ℚ factor_at k f ≡ factor_at k g
weaker_factor f g w k = sym (factor_in-scale ℕ_discrete w.times f.parts k) ∙ w.same.factors k ∙ plus_factor g w.rest k

pub above_over : (m : ℕ) (f g : Form ℕ) → IsWeaker f g → IsOver m f → IsOver m g
above_over m f g w o = record { absent = λ k h. sym (weaker_factor f g w k) ∙ ap (λ t. w.times *ℚ t) (o.absent k h) ∙ mul_zero_q w.times }

pub above_lower : (n : ℕ) (f g : Form ℕ) → IsWeaker f g → IsLower n f → IsLower n g
above_lower n f g w low = record { largest = above_over (suc n) f g w low.largest; sign = ap is_positive (sym (weaker_factor f g w n)) ∙ both_positive w.times (factor_at n f) w.positive low.sign }

pub above_upper : (n : ℕ) (f g : Form ℕ) → IsWeaker f g → IsUpper n f → IsUpper n g
above_upper n f g w up = record {
  largest = above_over (suc n) f g w up.largest;
  sign = ap is_positive (ap neg_ℚ (sym (weaker_factor f g w n)) ∙ sym (mul_neg_q w.times (factor_at n f))) ∙ both_positive w.times (neg_ℚ (factor_at n f)) w.positive up.sign;
}

-- ---- combinations
regroup : (a b p q x y : ℚ) → (a *ℚ b) *ℚ (neg_ℚ q *ℚ x +ℚ p *ℚ y) ≡ neg_ℚ (b *ℚ q) *ℚ (a *ℚ x) +ℚ (a *ℚ p) *ℚ (b *ℚ y)
regroup a b p q x y = simp field

spread : (c d x y u v : ℚ) → neg_ℚ d *ℚ (x +ℚ u) +ℚ c *ℚ (y +ℚ v) ≡ (neg_ℚ d *ℚ x +ℚ c *ℚ y) +ℚ (neg_ℚ d *ℚ u +ℚ c *ℚ v)
spread c d x y u v = simp field

module _ (n : ℕ) (p q r t : Form ℕ) (w : IsWeaker p r) (z : IsWeaker q t) (low : IsLower n p) (up : IsUpper n q) where
  lower_sign : is_positive (factor_at n r) ≡ true
  lower_sign = (above_lower n p r w low).sign

  upper_sign : is_positive (neg_ℚ (factor_at n t)) ≡ true
  upper_sign = (above_upper n q t z up).sign

  abbrev rest : ℚ
  rest = neg_ℚ (factor_at n t) *ℚ w.rest +ℚ factor_at n r *ℚ z.rest

  -- what the two multiples of x and y come to
  moved : (x y x' y' : ℚ) → w.times *ℚ x ≡ x' → z.times *ℚ y ≡ y'
      → (w.times *ℚ z.times) *ℚ (neg_ℚ (factor_at n q) *ℚ x +ℚ factor_at n p *ℚ y) ≡ neg_ℚ (factor_at n t) *ℚ x' +ℚ factor_at n r *ℚ y'
  moved x y x' y' e d =
      regroup w.times z.times (factor_at n p) (factor_at n q) x y ∙ (λ i. neg_ℚ (weaker_factor q t z n i) *ℚ e i +ℚ weaker_factor p r w n i *ℚ d i)

  combined : IsWeaker (combination n p q) (combination n r t)
  combined = record {
    times = w.times *ℚ z.times;
    positive = both_positive w.times z.times w.positive z.positive;
    rest = rest;
    loose = loose_sum (neg_ℚ (factor_at n t) *ℚ w.rest) (factor_at n r *ℚ z.rest) (loose_product (neg_ℚ (factor_at n t)) w.rest upper_sign w.loose) (loose_product (factor_at n r) z.rest lower_sign z.loose);
    same = record {
      factors = λ k.
          factor_in-scale ℕ_discrete (w.times *ℚ z.times) (combination n p q).parts k ∙ ap (λ x. (w.times *ℚ z.times) *ℚ x) (factor_combination n p q k)
          ∙ moved (factor_at k p) (factor_at k q) (factor_at k r) (factor_at k t) (weaker_factor p r w k) (weaker_factor q t z k) ∙ sym (factor_combination n r t k) ∙ sym (plus_factor (combination n r t) rest k);
      constants = moved p.constant q.constant (r.constant +ℚ w.rest) (t.constant +ℚ z.rest) w.same.constants z.same.constants
          ∙ spread (factor_at n r) (factor_at n t) r.constant t.constant w.rest z.rest;
    };
  }

  combined_rest : combined.rest ≡ rest
  unfolding combined
  combined_rest = refl

  first_firm : is_positive w.rest ≡ true → is_positive rest ≡ true
  first_firm h = firm_sum (neg_ℚ (factor_at n t) *ℚ w.rest) (factor_at n r *ℚ z.rest) (both_positive (neg_ℚ (factor_at n t)) w.rest upper_sign h) (loose_product (factor_at n r) z.rest lower_sign z.loose)

  second_firm : is_positive z.rest ≡ true → is_positive rest ≡ true
  second_firm h =
      ap is_positive (add_comm_q (neg_ℚ (factor_at n t) *ℚ w.rest) (factor_at n r *ℚ z.rest))
      ∙ firm_sum (factor_at n r *ℚ z.rest) (neg_ℚ (factor_at n t) *ℚ w.rest) (both_positive (factor_at n r) z.rest lower_sign h) (loose_product (neg_ℚ (factor_at n t)) w.rest upper_sign w.loose)

either_strict : (c d : Bool) → (c ≡ true) ⊎ (d ≡ true) → c || d ≡ true
either_strict true d e = refl
either_strict false d (inl e) = absurd (true_false (sym e))
either_strict false d (inr e) = e

-- the combination of two forms is above that of those that they are above, with a positive number or that one strict where one of them is strict
pub combination_above : (n : ℕ) (p q r t : Form ℕ) (a b c d s : Bool) → IsAbove p r a c → IsAbove q t b d → IsLower n p → IsUpper n q → (s ≡ true → (a ≡ true) ⊎ (b ≡ true))
    → IsAbove (combination n p q) (combination n r t) s (c || d)
combination_above n p q r t a b c d s h k low up either = record {
  weaker = combined n p q r t h.weaker k.weaker low up;
  firm = λ e. elim (either e) [
    | inl x ↦ elim (h.firm x) [
      | inl y ↦ inl (ap is_positive (combined_rest n p q r t h.weaker k.weaker low up) ∙ first_firm n p q r t h.weaker k.weaker low up y)
      | inr y ↦ inr (either_strict c d (inl y))
    ]
    | inr x ↦ elim (k.firm x) [
      | inl y ↦ inl (ap is_positive (combined_rest n p q r t h.weaker k.weaker low up) ∙ second_firm n p q r t h.weaker k.weaker low up y)
      | inr y ↦ inr (either_strict c d (inr y))
    ]
  ];
}

-- where nothing is left over, a positive multiple of the one is the other
pub multiple_of : (f g : Form ℕ) (w : IsWeaker f g) → w.rest ≡ zero_ℚ → IsMultiple f g
multiple_of f g w e = record {
  times = w.times;
  positive = w.positive;
  same = record { factors = λ k. w.same.factors k ∙ plus_factor g w.rest k; constants = w.same.constants ∙ ap (λ x. g.constant +ℚ x) e ∙ add_zero_q g.constant };
}
