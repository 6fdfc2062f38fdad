-- The largest name of a form in the normal form is that of its last part.
use Rattle.std.specs.Prelude.{ℕ, zero, suc, ◌<◌, ℤ, pos, negsuc, ◌<ℤ◌, ◌≡◌, ◌≢◌, List, Option, Some, None, length}
use Rattle.std.specs.List.{AllByRecursion}
use Rattle.std.proofs.Common.{refl, arith, sym, ap, ◌∙◌}
use Rattle.std.proofs.lemmas.Option.{slice_get-get_or}
use borrow.Author.Differences.{ints}
use native.Mathlib.Decide.{dec_lt}
use Rattle.ae_base.proofs.Tests.{true_false}
use Rattle.ae_math.specs.Fractions.{zero_ℚ, neg_ℚ, is_positive}
use Rattle.ae_math.proofs.FractionOrder.{not_both_positive, positive_zero}
use Rattle.ae_math.proofs.FractionLaws.{neg_zero_q}
use Rattle.ae_num.specs.declared.forms.Part.{Part}
use Rattle.ae_num.specs.declared.forms.Lin.{Lin}
use Rattle.ae_num.specs.Forms.{meaning, IsNormal}
use Rattle.ae_rows.specs.Rows.{factor_at, IsOver, IsLower, IsUpper}
use Rattle.ae_journal.proofs.Splits.{all_contained}
use Rattle.ae_ineq.specs.Inner.Sets.{last_part}
use Rattle.ae_ineq.proofs.LastLaws.{lower_means, upper_means, last_below, last_nonzero, over_last, over_none}
use Rattle.ae_bounds.specs.declared.rows.Row.{Row}
use Rattle.ae_bounds.specs.Combinations.{AreClosed}
use Rattle.ae_bounds.specs.Inner.Pairs.{AreClosedBelow}

-- the last part of a form has the name, where that is the largest one and its factor isn't 0
module _ (n : ℕ) (l : Lin) (normal : IsNormal l) (nonzero : factor_at n (meaning l) ≡ zero_ℚ → ⊥) (over : IsOver (suc n) (meaning l)) where
  last_is : (o : Option Part) → last_part l.parts ≡ o → (f : ℤ) × (last_part l.parts ≡ Some (record { key = n; factor = f })) × (f ≢ pos 0)
  last_is None e = absurd (nonzero ((over_none l 0 normal e).absent n (omega arith)))
  last_is (Some p) e =
      let above : p.key < suc n = last_below l (suc n) p normal over e in
      let below : p.key < n → ⊥ = λ h. nonzero ((over_last l p normal e).absent n (omega (arith, h))) in
      let same : p.key ≡ n = elim (dec_lt p.key n) [ yes h ↦ absurd (below h) | no m ↦ omega (arith, above, m) ] in
      (p.factor, e ∙ (λ i. Some (record { key = same i; factor = p.factor })), last_nonzero l p normal e)

pub lower_last : (n : ℕ) (l : Lin) → IsNormal l → IsLower n (meaning l) → (f : ℤ) × (last_part l.parts ≡ Some (record { key = n; factor = f })) × (pos 0 <ℤ f)
lower_last n l normal low =
    let nonzero : factor_at n (meaning l) ≡ zero_ℚ → ⊥ = λ z. true_false (sym low.sign ∙ ap is_positive z ∙ positive_zero) in
    let h = last_is n l normal nonzero low.largest (last_part l.parts) refl in
    (h.0, h.1, by_sign h.0 h.1 h.2)
  where
    by_sign : (f : ℤ) → last_part l.parts ≡ Some (record { key = n; factor = f }) → f ≢ pos 0 → pos 0 <ℤ f
    by_sign (pos zero) e m = absurd (m refl)
    by_sign (pos (suc k)) e m = omega (arith, ints)
    by_sign (negsuc k) e m = absurd (true_false (sym (upper_means l (record { key = n; factor = negsuc k }) normal e (omega (arith, ints))).sign ∙ not_both_positive (factor_at n (meaning l)) low.sign))

pub upper_last : (n : ℕ) (l : Lin) → IsNormal l → IsUpper n (meaning l) → (f : ℤ) × (last_part l.parts ≡ Some (record { key = n; factor = f })) × (f <ℤ pos 0)
upper_last n l normal up =
    let nonzero : factor_at n (meaning l) ≡ zero_ℚ → ⊥ = λ z. true_false (sym up.sign ∙ ap (λ x. is_positive (neg_ℚ x)) z ∙ ap is_positive neg_zero_q ∙ positive_zero) in
    let h = last_is n l normal nonzero up.largest (last_part l.parts) refl in
    (h.0, h.1, by_sign h.0 h.1 h.2)
  where
    by_sign : (f : ℤ) → last_part l.parts ≡ Some (record { key = n; factor = f }) → f ≢ pos 0 → f <ℤ pos 0
    by_sign (pos zero) e m = absurd (m refl)
    by_sign (negsuc k) e m = omega (arith, ints)
    by_sign (pos (suc k)) e m = absurd (true_false (sym up.sign ∙ not_both_positive (factor_at n (meaning l)) (lower_means l (record { key = n; factor = pos (suc k) }) normal e (omega (arith, ints))).sign))

-- where each pair of rows at places has its combination, so has each pair of rows
pub closed_all : (rows : List Row) → AllByRecursion (λ (r : Row). IsNormal r.lin) rows → AreClosedBelow (length rows) rows → AreClosed rows
closed_all rows normal closed name first second (i, li, ei) (j, lj, ej) low up =
    let a = lower_last name first.lin (all_contained (λ (r : Row). IsNormal r.lin) rows first normal (i, li, ei)) low in
    let b = upper_last name second.lin (all_contained (λ (r : Row). IsNormal r.lin) rows second normal (j, lj, ej)) up in
    closed i j li lj first second (record { name = name; rising = a.0; falling = b.0 }) (slice_get-get_or rows i first li ∙ ap Some ei) (slice_get-get_or rows j second lj ∙ ap Some ej)
    (record { first = a.1; second = b.1; positive = a.2; negative = b.2 })
