-- What the last part of a normal form says of its meaning; directions.
use Rattle.std.specs.Prelude.{ℕ, zero, suc, ℤ, pos, negsuc, neg_ℤ, ◌≡◌, ◌≢◌, ◌*ℤ◌, ◌<ℤ◌, ◌<◌, ◌^◌, List, [], ◌∷◌, map, Option, Some, None, true, unsigned_abs}
use Rattle.std.proofs.Common.{arith, refl, sym, ap, ◌∙◌, subst}
use Rattle.std.specs.List.{AllByRecursion}
use native.Mathlib.Decide.{ℕ_discrete, dec_lt}
use Rattle.ae_math.proofs.FractionOrder.{positive_zero}
use Rattle.ae_math.proofs.FractionLaws.{neg_zero_q}
use lib.IntN.{*ℤ_comm}
use borrow.Author.Differences.{ints}
use std.Quotient.{/_rec}
use Rattle.ae_math.specs.Inner.Integers.{ring}
use Rattle.ae_math.specs.Fractions.{zero_ℚ, neg_ℚ, ◌*ℚ◌, frac, ratio, is_positive}
use Rattle.ae_math.proofs.FormLaws.{factor_in-scale}
use Rattle.ae_num.specs.declared.forms.Part.{Part}
use Rattle.ae_num.specs.declared.forms.Lin.{Lin}
use Rattle.ae_num.specs.Forms.{meaning, factor_of, AllAbove, IsRising, IsNormal, Reduced}
use Rattle.ae_num.specs.Limits.{FitsLimits}
use Rattle.ae_num.proofs.MeaningLaws.{factor_meaning, ratio_zero, ratio_scaled, ratio_times, product_positive}
use Rattle.ae_num.proofs.PairLaws.{factor_head, factor_tail}
use Rattle.ae_rows.specs.Rows.{factor_at, IsOver, IsLower, IsUpper}
use Rattle.ae_base.proofs.Tests.{true_false}
use Rattle.ae_rows.proofs.Signs.{negative_turns}
use Rattle.ae_ineq.specs.Inner.Sets.{last_part, IsMultiple}
use Rattle.ae_ineq.proofs.CombiningLaws.{ratio_neg}

-- ---- signs
pub ratio_positive : (a d : ℤ) → pos 0 <ℤ a → pos 0 <ℤ d → is_positive (ratio a d) ≡ true
unfolding is_positive frac /_rec
ratio_positive a (pos zero) p q = absurd (omega (arith, ints))
ratio_positive a (negsuc n) p q = absurd (omega (arith, ints))
ratio_positive (pos zero) (pos (suc n)) p q = absurd (omega (arith, ints))
ratio_positive (pos (suc a)) (pos (suc n)) p q = refl
ratio_positive (negsuc a) (pos (suc n)) p q = absurd (omega (arith, ints))

-- ---- directions
regroup : (x g d : ℤ) → x *ℤ (g *ℤ d) ≡ (x *ℤ g) *ℤ d
regroup x g d = simp ring

pub direction_means : (l w f : Lin) (c : ℤ) → w.den ≡ c → w.parts ≡ l.parts → w.constant ≡ l.constant → IsNormal l → pos 0 <ℤ c → Reduced w f → IsNormal f → IsMultiple (meaning l) (meaning f)
direction_means l w f c ed ep ec nl cp r nf =
    record {
      times = ratio l.den c;
      positive = ratio_positive l.den c nl.positive cp;
      same = record {
        factors = λ k.
            factor_in-scale ℕ_discrete (ratio l.den c) (meaning l).parts k ∙ ap (λ t. ratio l.den c *ℚ t) (factor_meaning l k nl.rising)
            ∙ scaled (factor_of l.parts k) (factor_of f.parts k) (r.factors k ∙ ap (λ ps. factor_of ps k) ep) ∙ sym (factor_meaning f k nf.rising);
        constants = scaled l.constant f.constant (r.constants ∙ ec);
      };
    }
  where
    scaled : (x y : ℤ) → y *ℤ pos r.divisor ≡ x → ratio l.den c *ℚ ratio x l.den ≡ ratio y f.den
    scaled x y h =
        sym (ratio_times l.den c x l.den cp nl.positive)
        ∙ sym (ratio_scaled y f.den (x *ℤ l.den) (l.den *ℤ c) (pos r.divisor *ℤ l.den) nf.positive (product_positive l.den c nl.positive cp)
        (regroup y (pos r.divisor) l.den ∙ ap (λ t. t *ℤ l.den) h) (regroup f.den (pos r.divisor) l.den ∙ ap (λ t. t *ℤ l.den) (r.dens ∙ ed) ∙ *ℤ_comm c l.den))

-- ---- the last part
-- the last key is that of the head or above it
pub last_above : (key : ℕ) (ps : List Part) (p : Part) → AllAbove key ps → last_part ps ≡ Some p → key < p.key
last_above key [] p a e = cc
last_above key (q ∷ []) p a e = subst (λ (o : Option Part). MeetsAbove o) e a.0
  where
    MeetsAbove : Option Part → Type 0
    MeetsAbove (Some p) = key < p.key
    MeetsAbove None = Unit {0}
last_above key (q ∷ r ∷ ps) p a e = last_above key (r ∷ ps) p a.1 e

pub rising_last : (ps : List Part) (p : Part) → IsRising ps → last_part ps ≡ Some p → factor_of ps p.key ≡ p.factor
rising_last [] p r e = cc
rising_last (q ∷ []) p r e = subst (λ (o : Option Part). Found o) e (factor_head q [])
  where
    Found : Option Part → Type 0
    Found (Some x) = factor_of (q ∷ []) x.key ≡ x.factor
    Found None = Unit {0}
rising_last (q ∷ s ∷ ps) p r e = factor_tail q (s ∷ ps) p.key (last_above q.key (s ∷ ps) p r.0 e) ∙ rising_last (s ∷ ps) p r.1 e

pub beyond_last : (ps : List Part) (p : Part) (k : ℕ) → IsRising ps → last_part ps ≡ Some p → p.key < k → factor_of ps k ≡ pos 0
beyond_last [] p k r e h = refl
beyond_last (q ∷ []) p k r e h = factor_tail q [] k (subst (λ (o : Option Part). KeyBelow o) (sym e) h)
  where
    KeyBelow : Option Part → Type 0
    KeyBelow (Some x) = x.key < k
    KeyBelow None = Unit {0}
beyond_last (q ∷ s ∷ ps) p k r e h =
    let above : q.key < p.key = last_above q.key (s ∷ ps) p r.0 e in
    factor_tail q (s ∷ ps) k (omega (arith, above, h)) ∙ beyond_last (s ∷ ps) p k r.1 e h

pub no_last_parts : (ps : List Part) → last_part ps ≡ None → ps ≡ []
no_last_parts [] e = refl
no_last_parts (p ∷ []) e = cc
no_last_parts (p ∷ q ∷ ps) e = absurd (some_last q ps e)
  where
    some_last : (q : Part) (ps : List Part) → last_part (q ∷ ps) ≡ None → ⊥
    some_last q [] e = cc
    some_last q (r ∷ ps) e = some_last r ps e

pub all_last : (P : Part → Type 0) (ps : List Part) (p : Part) → AllByRecursion P ps → last_part ps ≡ Some p → P p
all_last P [] p a e = cc
all_last P (q ∷ []) p a e = subst (λ (o : Option Part). Meets o) e a.0
  where
    Meets : Option Part → Type 0
    Meets (Some x) = P x
    Meets None = Unit {0}
all_last P (q ∷ r ∷ ps) p a e = all_last P (r ∷ ps) p a.1 e

pub all_sizes : (ps : List Part) → AllByRecursion (λ n. n < 2 ^ 127) (map (λ p. unsigned_abs p.factor) ps) → AllByRecursion (λ p. FitsLimits p.factor) ps
all_sizes [] a = tt
all_sizes (p ∷ ps) a = (a.0, all_sizes ps a.1)

pub last_within : (l : Lin) (p : Part) → IsNormal l → last_part l.parts ≡ Some p → FitsLimits p.factor
last_within l p n e = all_last (λ p. FitsLimits p.factor) l.parts p (all_sizes l.parts n.within.1.1) e

pub last_nonzero : (l : Lin) (p : Part) → IsNormal l → last_part l.parts ≡ Some p → p.factor ≢ pos 0
last_nonzero l p n e = all_last (λ p. p.factor ≢ pos 0) l.parts p n.nonzero e

-- the last factor in the meaning
pub last_factor : (l : Lin) (p : Part) → IsNormal l → last_part l.parts ≡ Some p → factor_at p.key (meaning l) ≡ ratio p.factor l.den
last_factor l p n e = factor_meaning l p.key n.rising ∙ ap (λ z. ratio z l.den) (rising_last l.parts p n.rising e)

pub over_last : (l : Lin) (p : Part) → IsNormal l → last_part l.parts ≡ Some p → IsOver (suc p.key) (meaning l)
over_last l p n e = record { absent = λ k h. factor_meaning l k n.rising ∙ ap (λ z. ratio z l.den) (beyond_last l.parts p k n.rising e h) ∙ ratio_zero l.den }

pub over_none : (l : Lin) (n : ℕ) → IsNormal l → last_part l.parts ≡ None → IsOver n (meaning l)
over_none l n normal e = record { absent = λ k h. factor_meaning l k normal.rising ∙ ap (λ z. ratio z l.den) (ap (λ ps. factor_of ps k) (no_last_parts l.parts e)) ∙ ratio_zero l.den }

pub lower_means : (l : Lin) (p : Part) → IsNormal l → last_part l.parts ≡ Some p → pos 0 <ℤ p.factor → IsLower p.key (meaning l)
lower_means l p n e h = record { largest = over_last l p n e; sign = ap is_positive (last_factor l p n e) ∙ ratio_positive p.factor l.den h n.positive }

pub upper_means : (l : Lin) (p : Part) → IsNormal l → last_part l.parts ≡ Some p → p.factor <ℤ pos 0 → IsUpper p.key (meaning l)
upper_means l p n e h =
    record { largest = over_last l p n e; sign = ap (λ x. is_positive (neg_ℚ x)) (last_factor l p n e) ∙ ap is_positive (sym (ratio_neg p.factor l.den)) ∙ ratio_positive (neg_ℤ p.factor) l.den (negative_turns p.factor h) n.positive }

-- a form over the names below n has its last name there
pub last_below : (l : Lin) (n : ℕ) (p : Part) → IsNormal l → IsOver n (meaning l) → last_part l.parts ≡ Some p → p.key < n
last_below l n p normal o e = by_case (dec_lt p.key n)
  where
    by_sign : (z : ℤ) → z ≢ pos 0 → ratio z l.den ≡ zero_ℚ → ⊥
    by_sign (pos zero) m h = m refl
    by_sign (pos (suc k)) m h = true_false (sym (ratio_positive (pos (suc k)) l.den (omega (arith, ints)) normal.positive) ∙ ap is_positive h ∙ positive_zero)
    by_sign (negsuc k) m h = true_false (sym (ratio_positive (pos (suc k)) l.den (omega (arith, ints)) normal.positive) ∙ ap is_positive (ratio_neg (negsuc k) l.den ∙ ap neg_ℚ h ∙ neg_zero_q) ∙ positive_zero)

    by_case : Dec (p.key < n) → p.key < n
    by_case (yes h) = h
    by_case (no m) = absurd (by_sign p.factor (last_nonzero l p normal e) (sym (last_factor l p normal e) ∙ o.absent p.key (omega (arith, m))))
