-- The names in sums and multiples are among those of what is added and multiplied.
use Rattle.std.specs.Prelude.{ℕ, ℤ, ◌<◌, ◌≡◌, ◌≢◌, ◌⊎◌, pos, List, [], ◌∷◌, map}
use Rattle.std.specs.List.{AllByRecursion}
use Rattle.std.proofs.Common.{refl, sym, ap, ◌∙◌, subst, arith, inl, inr}
use Rattle.std.proofs.lemmas.Bool.{ne_eqb}
use native.Mathlib.Decide.{ℕ_discrete}
use Rattle.ae_base.specs.Decided.{pick}
use Rattle.ae_base.proofs.AllOf.{all_both}
use Rattle.ae_base.proofs.Tests.{nat_eq_itself}
use Rattle.std.specs.Prelude.{cond}
use Rattle.ae_math.specs.Fractions.{ℚ, ratio, zero_ℚ, neg_ℚ, one_ℚ, ◌+ℚ◌, ◌*ℚ◌, ℚ_discrete}
use Rattle.ae_math.specs.Forms.{factor, factor_in, plus, minus, scale}
use Rattle.ae_math.proofs.FractionLaws.{zero_add_q, mul_zero_q}
use Rattle.ae_math.proofs.FormLaws.{factor_in-append, factor_in-scale, minus_factor}
use Rattle.ae_math.proofs.Wholes.{ratio_is_zero}
use Rattle.ae_num.specs.declared.forms.Part.{Part}
use Rattle.ae_num.specs.declared.forms.Lin.{Lin}
use Rattle.ae_num.specs.Forms.{meaning, SameMeaning, IsNormal, IsRising, AllAbove, factor_of}
use Rattle.ae_num.proofs.MeaningLaws.{factor_meaning}

-- ---- the factor of each key is that of its part
past_first : (p : Part) (ps qs : List Part) → AllAbove p.key qs → AllByRecursion (λ q. factor_of ps q.key ≡ q.factor) qs → AllByRecursion (λ q. factor_of (p ∷ ps) q.key ≡ q.factor) qs
past_first p ps qs above is =
    all_both (λ (q : Part). p.key < q.key) (λ (q : Part). factor_of ps q.key ≡ q.factor) (λ (q : Part). factor_of (p ∷ ps) q.key ≡ q.factor)
    (λ q l e. ap (λ b. cond b p.factor (factor_of ps q.key)) (ne_eqb p.key q.key (λ z. omega (arith, l, z))) ∙ e) qs above is

own_factors : (ps : List Part) → IsRising ps → AllByRecursion (λ p. factor_of ps p.key ≡ p.factor) ps
own_factors [] r = tt
own_factors (p ∷ ps) r = (ap (λ b. cond b p.factor (factor_of ps p.key)) (nat_eq_itself p.key), past_first p ps ps r.0 (own_factors ps r.1))

module _ (P : ℕ → Type 0) where
  -- what holds of each name whose factor isn't 0 holds of the names of a normal form
  pub keyed : (f : Lin) → IsNormal f → ((k : ℕ) → factor ℕ_discrete (meaning f) k ≢ zero_ℚ → P k) → AllByRecursion (λ p. P p.key) f.parts
  keyed f n h =
      all_both (λ (p : Part). factor_of f.parts p.key ≡ p.factor) (λ (p : Part). p.factor ≢ pos 0) (λ (p : Part). P p.key)
      (λ p e s. h p.key (λ z. s (ratio_is_zero p.factor f.den n.positive (ap (λ u. ratio u f.den) (sym e) ∙ sym (factor_meaning f p.key n.rising) ∙ z)))) f.parts (own_factors f.parts n.rising) n.nonzero

  by_key : (p : Part) (x rest : ℚ) (k : ℕ) → P p.key → (rest ≢ zero_ℚ → P k) → (e : Dec (p.key ≡ k)) → pick e (x +ℚ rest) rest ≢ zero_ℚ → P k
  by_key p x rest k h others (yes e) t = subst P e h
  by_key p x rest k h others (no n) t = others t

  keys_in : (d : ℤ) (ps : List Part) → AllByRecursion (λ p. P p.key) ps → (k : ℕ) → factor_in ℕ_discrete (map {B = ℕ × ℚ} (λ (p : Part). (p.key, ratio p.factor d)) ps) k ≢ zero_ℚ → P k
  keys_in d [] a k s = absurd (s refl)
  keys_in d (p ∷ ps) a k s =
      by_key p (ratio p.factor d) (factor_in ℕ_discrete (map {B = ℕ × ℚ} (λ (p : Part). (p.key, ratio p.factor d)) ps) k) k a.0 (keys_in d ps a.1 k) (ℕ_discrete p.key k) s

  -- what holds of the names of a form holds of each name whose factor isn't 0
  pub keys : (f : Lin) → AllByRecursion (λ p. P p.key) f.parts → (k : ℕ) → factor ℕ_discrete (meaning f) k ≢ zero_ℚ → P k
  keys f a k s = keys_in f.den f.parts a k s

  some_term : (a b : ℚ) → a +ℚ b ≢ zero_ℚ → (a ≢ zero_ℚ) ⊎ (b ≢ zero_ℚ)
  some_term a b n = by_first (ℚ_discrete a zero_ℚ)
    where
      by_first : Dec (a ≡ zero_ℚ) → (a ≢ zero_ℚ) ⊎ (b ≢ zero_ℚ)
      by_first (no m) = inl m
      by_first (yes e) = inr (λ z. n (ap (λ t. t +ℚ b) e ∙ zero_add_q b ∙ z))

  some_factor : (x a : ℚ) → x *ℚ a ≢ zero_ℚ → a ≢ zero_ℚ
  some_factor x a n z = n (ap (λ t. x *ℚ t) z ∙ mul_zero_q x)

  pub keys_of_sum : (f g h : Lin) → IsNormal h → SameMeaning (meaning h) (plus (meaning f) (meaning g)) → AllByRecursion (λ p. P p.key) f.parts → AllByRecursion (λ p. P p.key) g.parts → AllByRecursion (λ p. P p.key) h.parts
  keys_of_sum f g h n s a b = keyed h n at
    where
      at : (k : ℕ) → factor ℕ_discrete (meaning h) k ≢ zero_ℚ → P k
      at k t =
          elim (some_term (factor ℕ_discrete (meaning f) k) (factor ℕ_discrete (meaning g) k) (λ z. t (s.factors k ∙ factor_in-append ℕ_discrete (meaning f).parts (meaning g).parts k ∙ z))) [
            | inl u ↦ keys f a k u
            | inr u ↦ keys g b k u
          ]

  pub keys_of_difference : (f g h : Lin) → IsNormal h → SameMeaning (meaning h) (minus (meaning f) (meaning g)) → AllByRecursion (λ p. P p.key) f.parts → AllByRecursion (λ p. P p.key) g.parts → AllByRecursion (λ p. P p.key) h.parts
  keys_of_difference f g h n s a b = keyed h n at
    where
      at : (k : ℕ) → factor ℕ_discrete (meaning h) k ≢ zero_ℚ → P k
      at k t =
          elim (some_term (factor ℕ_discrete (meaning f) k) (neg_ℚ one_ℚ *ℚ factor ℕ_discrete (meaning g) k) (λ z. t (s.factors k ∙ minus_factor ℕ_discrete (meaning f) (meaning g) k ∙ z))) [
            | inl u ↦ keys f a k u
            | inr u ↦ keys g b k (some_factor (neg_ℚ one_ℚ) (factor ℕ_discrete (meaning g) k) u)
          ]

  pub keys_of_multiple : (x : ℚ) (f h : Lin) → IsNormal h → SameMeaning (meaning h) (scale x (meaning f)) → AllByRecursion (λ p. P p.key) f.parts → AllByRecursion (λ p. P p.key) h.parts
  keys_of_multiple x f h n s a =
      keyed h n (λ k t. keys f a k (some_factor x (factor ℕ_discrete (meaning f) k) (λ z. t (s.factors k ∙ factor_in-scale ℕ_discrete x (meaning f).parts k ∙ z))))

  -- a number has no names
  pub keys_of_number : (x : ℚ) (h : Lin) → IsNormal h → SameMeaning (meaning h) (record { parts = []; constant = x }) → AllByRecursion (λ p. P p.key) h.parts
  keys_of_number x h n s = keyed h n (λ k t. absurd (t (s.factors k)))
