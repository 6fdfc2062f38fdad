-- The names of combinations and of rounded rows.
use Rattle.std.specs.Prelude.{ℕ, ℤ, pos, ◌≡◌, ◌≢◌, ◌<◌, List, [], ◌∷◌, map, slice_get, Some}
use Rattle.std.specs.List.{AllByRecursion}
use Rattle.std.proofs.Common.{refl, sym, ◌∙◌, subst}
use native.Mathlib.Decide.{ℕ_discrete}
use Rattle.ae_base.proofs.AllOf.{all_both}
use Rattle.ae_base.proofs.Decided.{pick_no}
use Rattle.ae_math.specs.Fractions.{ℚ, zero_ℚ, neg_ℚ, ◌+ℚ◌, ◌*ℚ◌, ratio, ℚ_discrete}
use Rattle.ae_math.specs.Forms.{factor_in}
use Rattle.ae_math.proofs.FractionLaws.{mul_zero_q, zero_add_q}
use Rattle.ae_math.proofs.Wholes.{ratio_is_zero}
use Rattle.ae_core.specs.Sorts.{sort_of}
use Rattle.ae_core.specs.declared.terms.Term.{Term}
use Rattle.ae_core.specs.declared.terms.Sort.{Int}
use Rattle.ae_core.specs.declared.problems.Signature.{Signature}
use Rattle.ae_num.specs.declared.forms.Part.{Part}
use Rattle.ae_num.specs.declared.forms.Lin.{Lin}
use Rattle.ae_num.specs.Forms.{meaning, SameMeaning, IsNormal, IsRising, factor_of}
use Rattle.ae_num.proofs.PairLaws.{factor_head, factor_tail}
use Rattle.ae_num.proofs.MeaningLaws.{factor_meaning}
use Rattle.ae_rows.specs.Rows.{combination, factor_at}
use Rattle.ae_rows.proofs.Elimination.{factor_combination}
use Rattle.ae_journal.specs.Sides.{AreWhole, AreDivided}

-- what holds of the key of each part holds of each key with a factor
key_has : (Q : ℕ → Type 0) (den : ℤ) (ps : List Part) → AllByRecursion (λ p. Q p.key) ps → (k : ℕ) → factor_in ℕ_discrete (map (λ p. (p.key, ratio p.factor den)) ps) k ≢ zero_ℚ → Q k
key_has Q den [] a k n = absurd (n refl)
key_has Q den (p ∷ ps) a k n = by_case (ℕ_discrete p.key k) (key_has Q den ps a.1 k)
  where
    by_case : Dec (p.key ≡ k) → (factor_in ℕ_discrete (map (λ p. (p.key, ratio p.factor den)) ps) k ≢ zero_ℚ → Q k) → Q k
    by_case (yes e) ih = subst Q e a.0
    by_case (no m) ih = ih (λ z. n (pick_no (ℕ_discrete p.key k) _ _ m ∙ z))

-- the key of each part has its factor
pub own_factors : (ps : List Part) → IsRising ps → AllByRecursion (λ p. factor_of ps p.key ≡ p.factor) ps
own_factors [] r = tt
own_factors (p ∷ ps) r = (
  factor_head p ps,
  all_both (λ (q : Part). p.key < q.key) (λ (q : Part). factor_of ps q.key ≡ q.factor) (λ (q : Part). factor_of (p ∷ ps) q.key ≡ q.factor) (λ q a b. factor_tail p ps q.key a ∙ b) ps r.0 (own_factors ps r.1),
)

module _ (sig : Signature) (names : List Term) (n : ℕ) (p q h : Lin) (normal : IsNormal h) (same : SameMeaning (meaning h) (combination n (meaning p) (meaning q))) where
  abbrev IsInt : ℕ → Type 0
  IsInt k = (t : Term) × (slice_get names k ≡ Some t) × (sort_of sig t ≡ Some Int)

  vanishes : (a b x y : ℚ) → x ≡ zero_ℚ → y ≡ zero_ℚ → a *ℚ x +ℚ b *ℚ y ≡ zero_ℚ
  vanishes a b x y e d = (λ i. a *ℚ e i +ℚ b *ℚ d i) ∙ (λ i. mul_zero_q a i +ℚ mul_zero_q b i) ∙ zero_add_q zero_ℚ

  none : (k : ℕ) → factor_at k (meaning p) ≡ zero_ℚ → factor_at k (meaning q) ≡ zero_ℚ → factor_of h.parts k ≡ pos 0
  none k e d =
      ratio_is_zero (factor_of h.parts k) h.den normal.positive
      (sym (factor_meaning h k normal.rising) ∙ same.factors k ∙ factor_combination n (meaning p) (meaning q) k
      ∙ vanishes (neg_ℚ (factor_at n (meaning q))) (factor_at n (meaning p)) (factor_at k (meaning p)) (factor_at k (meaning q)) e d)

  is_int : AreWhole sig names p → AreWhole sig names q → (k : ℕ) → factor_of h.parts k ≢ pos 0 → IsInt k
  is_int one other k m = by_case (ℚ_discrete (factor_at k (meaning p)) zero_ℚ) (ℚ_discrete (factor_at k (meaning q)) zero_ℚ)
    where
      by_case : Dec (factor_at k (meaning p) ≡ zero_ℚ) → Dec (factor_at k (meaning q) ≡ zero_ℚ) → IsInt k
      by_case (no a) d = key_has IsInt p.den p.parts one k a
      by_case (yes e) (no a) = key_has IsInt q.den q.parts other k a
      by_case (yes e) (yes d) = absurd (m (none k e d))

  pub combined_whole : AreWhole sig names p → AreWhole sig names q → AreWhole sig names h
  combined_whole one other =
      all_both (λ (r : Part). factor_of h.parts r.key ≡ r.factor) (λ (r : Part). r.factor ≢ pos 0) (λ (r : Part). IsInt r.key) (λ r a b. is_int one other r.key (λ z. b (sym a ∙ z))) h.parts
      (own_factors h.parts normal.rising) normal.nonzero

pub divided_keys : (Q : ℕ → Type 0) (d : ℕ) (qs rs : List Part) → AreDivided d qs rs → AllByRecursion (λ q. Q q.key) qs → AllByRecursion (λ r. Q r.key) rs
divided_keys Q d [] [] a h = tt
divided_keys Q d [] (r ∷ rs) a h = absurd a
divided_keys Q d (q ∷ qs) [] a h = absurd a
divided_keys Q d (q ∷ qs) (r ∷ rs) a h = (subst Q a.0 h.0, divided_keys Q d qs rs a.2 h.1)
