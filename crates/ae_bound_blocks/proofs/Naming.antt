-- The names of a combination are names of the two rows.
use Rattle.std.specs.Prelude.{ℕ, pos, ◌≡◌, ◌≢◌, Bool, true, false, cond, nat_eq, List, [], ◌∷◌}
use Rattle.std.specs.List.{AllByRecursion}
use Rattle.std.proofs.Common.{refl, sym, ap, ◌∙◌, subst}
use Rattle.std.proofs.lemmas.Bool.{eqb-true}
use lib.IntN.{ℤ_discrete}
use Rattle.ae_base.proofs.AllOf.{all_both}
use Rattle.ae_math.specs.Fractions.{ℚ, zero_ℚ, neg_ℚ, ◌+ℚ◌, ◌*ℚ◌, ratio}
use Rattle.ae_math.proofs.FractionLaws.{mul_zero_q, zero_add_q}
use Rattle.ae_math.proofs.Wholes.{ratio_is_zero, ratio_of_zero}
use Rattle.ae_num.specs.declared.forms.Part.{Part}
use Rattle.ae_num.specs.declared.forms.Lin.{Lin}
use Rattle.ae_num.specs.Forms.{meaning, SameMeaning, IsNormal, factor_of}
use Rattle.ae_num.proofs.MeaningLaws.{factor_meaning}
use Rattle.ae_rounding.proofs.Whole.{own_factors}
use Rattle.ae_rows.specs.Rows.{combination, factor_at}
use Rattle.ae_rows.proofs.Elimination.{factor_combination}

-- what holds of each name of a form holds of a name with a factor
pub at_factor : (Q : ℕ → Type 0) (ps : List Part) → AllByRecursion (λ p. Q p.key) ps → (k : ℕ) → factor_of ps k ≢ pos 0 → Q k
at_factor Q [] a k n = absurd (n refl)
at_factor Q (p ∷ ps) a k n = by_key (λ m. at_factor Q ps a.1 k m) (nat_eq p.key k) refl
  where
    by_key : (factor_of ps k ≢ pos 0 → Q k) → (b : Bool) → nat_eq p.key k ≡ b → Q k
    by_key later true e = subst Q (eqb-true p.key k e) a.0
    by_key later false e = later (λ z. n (ap (λ b. cond b p.factor (factor_of ps k)) e ∙ z))

vanishes : (a b x y : ℚ) → x ≡ zero_ℚ → y ≡ zero_ℚ → a *ℚ x +ℚ b *ℚ y ≡ zero_ℚ
vanishes a b x y e d = (λ i. a *ℚ e i +ℚ b *ℚ d i) ∙ (λ i. mul_zero_q a i +ℚ mul_zero_q b i) ∙ zero_add_q zero_ℚ

module _ (n : ℕ) (p q r : Lin) (first : IsNormal p) (second : IsNormal q) (normal : IsNormal r) (same : SameMeaning (meaning r) (combination n (meaning p) (meaning q))) where
  factor_zero : (l : Lin) → IsNormal l → (k : ℕ) → factor_of l.parts k ≡ pos 0 → factor_at k (meaning l) ≡ zero_ℚ
  factor_zero l o k e = factor_meaning l k o.rising ∙ ap (λ a. ratio a l.den) e ∙ ratio_of_zero l.den

  none : (k : ℕ) → factor_of p.parts k ≡ pos 0 → factor_of q.parts k ≡ pos 0 → factor_of r.parts k ≡ pos 0
  none k e d =
      ratio_is_zero (factor_of r.parts k) r.den normal.positive
      (sym (factor_meaning r k normal.rising) ∙ same.factors k ∙ factor_combination n (meaning p) (meaning q) k
      ∙ vanishes (neg_ℚ (factor_at n (meaning q))) (factor_at n (meaning p)) (factor_at k (meaning p)) (factor_at k (meaning q)) (factor_zero p first k e) (factor_zero q second k d))

  one_of : (Q : ℕ → Type 0) → AllByRecursion (λ x. Q x.key) p.parts → AllByRecursion (λ x. Q x.key) q.parts → (k : ℕ) → factor_of r.parts k ≢ pos 0 → Q k
  one_of Q a b k m = by_case (ℤ_discrete (factor_of p.parts k) (pos 0)) (ℤ_discrete (factor_of q.parts k) (pos 0))
    where
      by_case : Dec (factor_of p.parts k ≡ pos 0) → Dec (factor_of q.parts k ≡ pos 0) → Q k
      by_case (no x) d = at_factor Q p.parts a k x
      by_case (yes e) (no x) = at_factor Q q.parts b k x
      by_case (yes e) (yes d) = absurd (m (none k e d))

  pub names_stay : (Q : ℕ → Type 0) → AllByRecursion (λ x. Q x.key) p.parts → AllByRecursion (λ x. Q x.key) q.parts → AllByRecursion (λ x. Q x.key) r.parts
  names_stay Q a b =
      all_both (λ (x : Part). factor_of r.parts x.key ≡ x.factor) (λ (x : Part). x.factor ≢ pos 0) (λ (x : Part). Q x.key) (λ x e m. one_of Q a b x.key (λ z. m (sym e ∙ z))) r.parts
      (own_factors r.parts normal.rising) normal.nonzero
