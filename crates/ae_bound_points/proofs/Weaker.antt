-- Forms of which a positive multiple is another form and a number that isn't negative: one after the other, and at a point.
use Rattle.std.specs.Prelude.{ℕ, ◌≡◌, ◌⊎◌, Bool, true, false}
use Rattle.std.proofs.Common.{refl, sym, ap, ◌∙◌, subst, inl, inr}
use Rattle.std.proofs.lemmas.List.{append-nil}
use native.Mathlib.Decide.{ℕ_discrete}
use Rattle.ae_math.specs.Fractions.{ℚ, zero_ℚ, neg_ℚ, ◌+ℚ◌, ◌*ℚ◌, is_positive}
use Rattle.ae_math.specs.Forms.{Form, plus, scale, number, factor_in}
use Rattle.ae_math.proofs.FractionLaws.{zero_add_q, add_zero_q, mul_zero_q, mul_assoc_q, add_assoc_q, mul_add_q, neg_zero_q}
use Rattle.ae_math.proofs.FractionOrder.{positive_sum, positive_product, positive_zero, not_both_positive, neither_positive}
use Rattle.ae_math.proofs.FormLaws.{factor_in-scale}
use Rattle.ae_rows.specs.Rows.{factor_at}
use Rattle.ae_ineq.specs.Inner.Sets.{IsMultiple}
use Rattle.ae_bounds.proofs.Rounded.{IsWeaker}

abbrev pub IsLoose : ℚ → Type 0
IsLoose x = is_positive (neg_ℚ x) ≡ false

pub loose_cases : (x : ℚ) → IsLoose x → (is_positive x ≡ true) ⊎ (x ≡ zero_ℚ)
loose_cases x l = by_sign (is_positive x) refl
  where
    by_sign : (b : Bool) → is_positive x ≡ b → (is_positive x ≡ true) ⊎ (x ≡ zero_ℚ)
    by_sign true e = inl e
    by_sign false e = inr (neither_positive x e l)

pub loose_zero : IsLoose zero_ℚ
loose_zero = ap is_positive neg_zero_q ∙ positive_zero

pub loose_sum : (x y : ℚ) → IsLoose x → IsLoose y → IsLoose (x +ℚ y)
loose_sum x y l m = by_cases (loose_cases x l) (loose_cases y m)
  where
    by_cases : (is_positive x ≡ true) ⊎ (x ≡ zero_ℚ) → (is_positive y ≡ true) ⊎ (y ≡ zero_ℚ) → IsLoose (x +ℚ y)
    by_cases (inl p) (inl q) = not_both_positive (x +ℚ y) (positive_sum x y p q)
    by_cases (inr z) q = subst IsLoose (sym (ap (λ t. t +ℚ y) z ∙ zero_add_q y)) m
    by_cases p (inr z) = subst IsLoose (sym (ap (λ t. x +ℚ t) z ∙ add_zero_q x)) l

pub loose_product : (x y : ℚ) → is_positive x ≡ true → IsLoose y → IsLoose (x *ℚ y)
loose_product x y p l = by_case (loose_cases y l)
  where
    by_case : (is_positive y ≡ true) ⊎ (y ≡ zero_ℚ) → IsLoose (x *ℚ y)
    by_case (inl q) = not_both_positive (x *ℚ y) (positive_product x y q ∙ p)
    by_case (inr z) = subst IsLoose (sym (ap (λ t. x *ℚ t) z ∙ mul_zero_q x)) loose_zero

pub plus_factor : (g : Form ℕ) (t : ℚ) (k : ℕ) → factor_at k (plus g (number t)) ≡ factor_at k g
plus_factor g t k = ap (λ ps. factor_in ℕ_discrete ps k) (append-nil g.parts)

pub multiple_weaker : (f g : Form ℕ) → IsMultiple f g → IsWeaker f g
multiple_weaker f g m = record {
  times = m.times;
  positive = m.positive;
  rest = zero_ℚ;
  loose = loose_zero;
  same = record { factors = λ k. m.same.factors k ∙ sym (plus_factor g zero_ℚ k); constants = m.same.constants ∙ sym (add_zero_q g.constant) };
}

pub weaker_on : (f g h : Form ℕ) → IsWeaker f g → IsWeaker g h → IsWeaker f h
weaker_on f g h a b = record {
  times = b.times *ℚ a.times;
  positive = positive_product b.times a.times a.positive ∙ b.positive;
  rest = b.rest +ℚ b.times *ℚ a.rest;
  loose = loose_sum b.rest (b.times *ℚ a.rest) b.loose (loose_product b.times a.rest b.positive a.loose);
  same = record { factors = factors; constants = constants };
}
  where
    -- one of the two, on a factor and on the constant
    first_factor : (k : ℕ) → a.times *ℚ factor_at k f ≡ factor_at k g
    first_factor k = sym (factor_in-scale ℕ_discrete a.times f.parts k) ∙ a.same.factors k ∙ plus_factor g a.rest k

    second_factor : (k : ℕ) → b.times *ℚ factor_at k g ≡ factor_at k h
    second_factor k = sym (factor_in-scale ℕ_discrete b.times g.parts k) ∙ b.same.factors k ∙ plus_factor h b.rest k

    factors : (k : ℕ) → factor_at k (scale (b.times *ℚ a.times) f) ≡ factor_at k (plus h (number (b.rest +ℚ b.times *ℚ a.rest)))
    factors k =
        factor_in-scale ℕ_discrete (b.times *ℚ a.times) f.parts k ∙ mul_assoc_q b.times a.times (factor_at k f) ∙ ap (λ x. b.times *ℚ x) (first_factor k) ∙ second_factor k
        ∙ sym (plus_factor h (b.rest +ℚ b.times *ℚ a.rest) k)

    constants : (b.times *ℚ a.times) *ℚ f.constant ≡ h.constant +ℚ (b.rest +ℚ b.times *ℚ a.rest)
    constants =
        mul_assoc_q b.times a.times f.constant ∙ ap (λ x. b.times *ℚ x) a.same.constants ∙ mul_add_q b.times g.constant a.rest ∙ ap (λ x. x +ℚ b.times *ℚ a.rest) b.same.constants
        ∙ add_assoc_q h.constant b.rest (b.times *ℚ a.rest)

pub weaker_on_rest : (f g h : Form ℕ) (a : IsWeaker f g) (b : IsWeaker g h) → (weaker_on f g h a b).rest ≡ b.rest +ℚ b.times *ℚ a.rest
unfolding weaker_on
weaker_on_rest f g h a b = refl
