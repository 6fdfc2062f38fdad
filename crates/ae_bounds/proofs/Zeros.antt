-- Rows of the form 0, and rows of other forms.
use Rattle.std.specs.Prelude.{ℕ, zero, suc, ℤ, pos, negsuc, ◌≡◌, ◌≢◌, ◌⊎◌, ◌<ℤ◌, Bool, true, List, [], ◌∷◌, map, Option, Some, None, unsigned_abs}
use Rattle.std.specs.List.{AllByRecursion}
use Rattle.std.specs.Int.{◌∣◌}
use Rattle.std.proofs.Common.{arith, refl, sym, ap, ◌∙◌, subst, inl, inr}
use native.Mathlib.Decide.{ℕ_discrete}
use native.Mathlib.Nat.{dvd-zero, dvd-one, dvd_refl}
use borrow.Author.Differences.{ints}
use Rattle.ae_math.specs.Fractions.{zero_ℚ, one_ℚ, neg_ℚ, ◌*ℚ◌, ratio, is_positive}
use Rattle.ae_math.specs.Forms.{Form, scale, SameForm}
use Rattle.ae_math.proofs.FractionLaws.{mul_zero_q, neg_zero_q}
use Rattle.ae_math.proofs.FractionOrder.{not_both_positive, positive_zero}
use Rattle.ae_base.proofs.Tests.{true_false}
use Rattle.ae_math.proofs.FormLaws.{factor_in-scale, scale_one, same_refl}
use Rattle.ae_math.proofs.Wholes.{ratio_is_zero, ratio_of_zero}
use Rattle.ae_num.specs.declared.forms.Part.{Part}
use Rattle.ae_num.specs.declared.forms.Lin.{Lin}
use Rattle.ae_num.specs.Forms.{meaning, factor_of, IsNormal, DividesAll}
use Rattle.ae_num.proofs.MeaningLaws.{factor_meaning}
use Rattle.ae_num.proofs.PairLaws.{factor_head}
use Rattle.ae_rows.specs.Rows.{factor_at, IsOver}
use Rattle.ae_rows.proofs.Choosing.{positive_one}
use Rattle.ae_ineq.specs.Inner.Primitive.{IsPrimitive}
use Rattle.ae_ineq.specs.Sums.{IsZero, IsRefuted}
use Rattle.ae_ineq.proofs.Verdicts.{zero_means, refuted_means}
use Rattle.ae_ineq.specs.Inner.Sets.{last_part, IsMultiple}
use Rattle.ae_ineq.proofs.LastLaws.{last_factor, last_nonzero, no_last_parts, ratio_positive}
use Rattle.ae_bounds.specs.Inner.Directions.{IsOfSome, IsDirectionOf}

-- each factor is 0, and the constant
pub record IsNothing (f : Form ℕ) : Type 0 where
  pub factors : (k : ℕ) → factor_at k f ≡ zero_ℚ
  pub constant : f.constant ≡ zero_ℚ

pub nothing_times : (f g : Form ℕ) → IsMultiple f g → IsNothing f → IsNothing g
nothing_times f g m n = record {
  factors = λ k. sym (m.same.factors k) ∙ factor_in-scale ℕ_discrete m.times f.parts k ∙ ap (λ t. m.times *ℚ t) (n.factors k) ∙ mul_zero_q m.times;
  constant = sym m.same.constants ∙ ap (λ t. m.times *ℚ t) n.constant ∙ mul_zero_q m.times;
}

pub zero_is_nothing : (l : Lin) → l.parts ≡ [] → l.constant ≡ pos 0 → IsNothing (meaning l)
zero_is_nothing l e z = record {
  factors = λ k. ap (λ (ps : List Part). factor_at k (record { parts = map (λ p. (p.key, ratio p.factor l.den)) ps; constant = ratio l.constant l.den })) e;
  constant = ap (λ c. ratio c l.den) z ∙ ratio_of_zero l.den;
}

-- a form of whole numbers without a common divisor isn't 0
primitive_is_some : (d : Lin) → IsNormal d → IsPrimitive d → IsNothing (meaning d) → ⊥
primitive_is_some d n p z = by_parts d.parts refl
  where
    by_parts : (ps : List Part) → d.parts ≡ ps → ⊥
    by_parts (q ∷ qs) e =
        let nonzero : AllByRecursion (λ (x : Part). x.factor ≢ pos 0) (q ∷ qs) = subst (AllByRecursion (λ (x : Part). x.factor ≢ pos 0)) e n.nonzero in
        let at : factor_of d.parts q.key ≡ q.factor = ap (λ (xs : List Part). factor_of xs q.key) e ∙ factor_head q qs in
        nonzero.0 (sym at ∙ ratio_is_zero (factor_of d.parts q.key) d.den n.positive (sym (factor_meaning d q.key n.rising) ∙ z.factors q.key))
    by_parts [] e =
        let c : d.constant ≡ pos 0 = ratio_is_zero d.constant d.den n.positive z.constant in
        let one : 2 ∣ 1 = p.lowest 2 (subst (λ (k : ℤ). 2 ∣ unsigned_abs k) (sym c) (dvd-zero 2), subst (λ (ps : List Part). DividesAll 2 (map (λ x. unsigned_abs x.factor) ps)) (sym e) tt) in
        let same : 2 ≡ 1 = dvd-one.0 one in
        absurd (omega (arith, same))

pub form_is_some : (l d : Lin) → IsOfSome l d → IsNothing (meaning l) → ⊥
form_is_some l d i z = primitive_is_some d i.direction_normal i.primitive (nothing_times (meaning l) (meaning d) i.directed z)

-- ---- the form 0 has the denominator 1
whole_zero : (l : Lin) → IsNormal l → l.parts ≡ [] → l.constant ≡ pos 0 → unsigned_abs l.den ≡ 1
whole_zero l n e z =
    dvd-one.0 (n.lowest.1 (unsigned_abs l.den) (
      dvd_refl (unsigned_abs l.den),
      (
        subst (λ (k : ℤ). unsigned_abs l.den ∣ unsigned_abs k) (sym z) (dvd-zero (unsigned_abs l.den)),
        subst (λ (ps : List Part). DividesAll (unsigned_abs l.den) (map (λ x. unsigned_abs x.factor) ps)) (sym e) tt,
      ),
    ))

one_number : (a b : ℤ) → pos 0 <ℤ a → pos 0 <ℤ b → unsigned_abs a ≡ 1 → unsigned_abs b ≡ 1 → a ≡ b
one_number a b p q e f = omega (arith, ints, p, q, e, f)

pub zeros_same : (l m : Lin) → IsNormal l → IsNormal m → l.parts ≡ [] → l.constant ≡ pos 0 → m.parts ≡ [] → m.constant ≡ pos 0 → l ≡ m
zeros_same l m n k e z f y =
    let dens : l.den ≡ m.den = one_number l.den m.den n.positive k.positive (whole_zero l n e z) (whole_zero m k f y) in
    λ i. record { den = dens i; parts = (e ∙ sym f) i; constant = (z ∙ sym y) i }

-- ---- directions
pub directed : (l d : Lin) → IsDirectionOf l d → IsMultiple (meaning l) (meaning d)
directed l d (inl i) = i.directed
directed l d (inr z) = record { times = one_ℚ; positive = positive_one; same = subst (λ (k : Lin). SameForm ℕ_discrete (scale one_ℚ (meaning l)) (meaning k)) (sym z.own) (scale_one ℕ_discrete (meaning l)) }

pub direction_normal : (l d : Lin) → IsDirectionOf l d → IsNormal l
direction_normal l d (inl i) = i.normal
direction_normal l d (inr z) = z.normal

-- ---- forms that are numbers
pub bare_form : (l : Lin) → IsNormal l → IsOver 0 (meaning l) → l.parts ≡ []
bare_form l n o = by_part (last_part l.parts) refl
  where
    by_part : (p : Option Part) → last_part l.parts ≡ p → l.parts ≡ []
    by_part None e = no_last_parts l.parts e
    by_part (Some p) e = absurd (last_nonzero l p n e (ratio_is_zero p.factor l.den n.positive (sym (last_factor l p n e) ∙ o.absent p.key (omega arith))))

pub zero_form : (l : Lin) → l.parts ≡ [] → l.constant ≡ pos 0 → IsZero (meaning l)
zero_form l e z = zero_means l (meaning l) (same_refl ℕ_discrete (meaning l)) e z

pub form_zero : (l : Lin) → IsNormal l → IsZero (meaning l) → (l.parts ≡ []) × (l.constant ≡ pos 0)
form_zero l n z = (bare_form l n z.over, ratio_is_zero l.constant l.den n.positive z.constant)

pub refuted_form : (l : Lin) (strict : Bool) → IsNormal l → l.parts ≡ [] → (l.constant <ℤ pos 0) ⊎ ((l.constant ≡ pos 0) × (strict ≡ true)) → IsRefuted strict (meaning l)
refuted_form l strict n e h = refuted_means l (meaning l) strict n (same_refl ℕ_discrete (meaning l)) e h

pub form_refuted : (l : Lin) (strict : Bool) → IsNormal l → IsRefuted strict (meaning l) → (l.parts ≡ []) × ((l.constant <ℤ pos 0) ⊎ ((l.constant ≡ pos 0) × (strict ≡ true)))
form_refuted l strict n r = (bare_form l n r.over, by_sign r.sign)
  where
    negative : (c : ℤ) → l.constant ≡ c → is_positive (neg_ℚ (ratio c l.den)) ≡ true → c <ℤ pos 0
    negative (pos zero) e h = absurd (true_false (sym h ∙ ap (λ x. is_positive (neg_ℚ x)) (ratio_of_zero l.den) ∙ ap is_positive neg_zero_q ∙ positive_zero))
    negative (pos (suc k)) e h = absurd (true_false (sym h ∙ not_both_positive (ratio (pos (suc k)) l.den) (ratio_positive (pos (suc k)) l.den (omega (arith, ints)) n.positive)))
    negative (negsuc k) e h = omega (arith, ints)

    by_sign : (is_positive (neg_ℚ (ratio l.constant l.den)) ≡ true) ⊎ ((ratio l.constant l.den ≡ zero_ℚ) × (strict ≡ true)) → (l.constant <ℤ pos 0) ⊎ ((l.constant ≡ pos 0) × (strict ≡ true))
    by_sign (inl h) = inl (negative l.constant refl h)
    by_sign (inr (z, s)) = inr (ratio_is_zero l.constant l.den n.positive z, s)
