-- The line of a combination of two rows, and the end of a block.
use Rattle.std.specs.Prelude.{ℕ, zero, suc, ℤ, pos, negsuc, neg_ℤ, ◌≡◌, ◌⊎◌, ◌*ℤ◌, ◌<ℤ◌, List, [], ◌∷◌, true}
use Rattle.std.proofs.Common.{arith, inl, inr, refl, sym, ap, ◌∙◌, subst}
use native.Mathlib.Decide.{ℕ_discrete}
use lib.IntN.{*ℤ_comm}
use borrow.Author.Differences.{ints}
use std.Quotient.{/_rec}
use Rattle.ae_math.specs.Inner.Integers.{ring}
use Rattle.ae_math.specs.Fractions.{ℚ, zero_ℚ, one_ℚ, neg_ℚ, ◌*ℚ◌, frac, ratio, joined, is_positive, whole}
use Rattle.ae_math.specs.Inner.Respected.{bottom-joined}
use Rattle.ae_math.specs.Forms.{Form, SameForm, number, plus, scale, value}
use Rattle.ae_math.proofs.FractionLaws.{frac_same, frac_times, neg_zero_q, one_mul_q, mul_neg_q, mul_comm_q, mul_zero_q, zero_mul_q}
use Rattle.ae_math.proofs.FractionOrder.{positive_product}
use Rattle.ae_math.proofs.FormLaws.{value-same, value-number, plus_comm, zero_plus, same_trans, same_sym, same_refl, plus-same}
use Rattle.ae_num.specs.declared.forms.Lin.{Lin}
use Rattle.ae_num.specs.Forms.{meaning, factor_of as lin_factor}
use Rattle.ae_num.proofs.MeaningLaws.{factor_meaning}
use Rattle.ae_rules.specs.Linear.{form, factor_of, IsSame}
use Rattle.ae_rules.specs.Lines.{Fact, at_most, below, gap, total, IsNumeric, HaveSort, Stated, MayCount, SomeBelow, AllowedLeSum, AllowedLtSum, AreNumbers}
use Rattle.ae_rules.specs.Derivations.{EndsZero, CannotHold}
use Rattle.ae_core.specs.declared.terms.Term.{Term}
use Rattle.ae_core.specs.declared.terms.Sort.{Sort}
use Rattle.ae_core.specs.declared.problems.Signature.{Signature}
use Rattle.ae_core.specs.declared.proofs.EqLine.{EqLine}
use Rattle.ae_core.specs.declared.proofs.Relation.{Relation}
use Rattle.ae_core.specs.declared.proofs.Relation.TheVariants.{Equal, AtMost, Below}
use Rattle.ae_rows.proofs.Signs.{negative_turns}
use Rattle.ae_rows.specs.Rows.{mixture, factor_at, IsOver}
use Rattle.ae_row_lines.specs.Says.{Says, Used, shares_of, SaysCombination, parts_of_line}
use Rattle.ae_row_lines.proofs.Sums.{mixture_sums}

pub ratio_neg : (a d : ℤ) → ratio (neg_ℤ a) d ≡ neg_ℚ (ratio a d)
unfolding frac neg_ℚ /_rec
ratio_neg a (pos zero) = sym neg_zero_q
ratio_neg a (pos (suc n)) = refl
ratio_neg a (negsuc n) = sym neg_zero_q

whole_times : (a b : ℤ) → whole a *ℚ whole b ≡ whole (a *ℤ b)
whole_times a b = frac_times a b 0 0

turned : (a b e y : ℤ) → (a *ℤ b) *ℤ e *ℤ pos 1 ≡ (e *ℤ a) *ℤ (pos 1 *ℤ b)
turned a b e y = simp ring

-- N = a * b, e / b of N is e * a
share : (d m a b e : ℤ) → pos 0 <ℤ b → d *ℤ m ≡ a *ℤ b → (whole d *ℚ whole m) *ℚ ratio e b ≡ whole e *ℚ whole a
share d m a (pos zero) e p h = absurd (omega (arith, ints))
share d m a (negsuc n) e p h = absurd (omega (arith, ints))
share d m a (pos (suc n)) e p h =
    ap (λ t. t *ℚ frac e n) (whole_times d m ∙ ap whole h) ∙ frac_times (a *ℤ pos (suc n)) e 0 n
    ∙ frac_same ((a *ℤ pos (suc n)) *ℤ e) (e *ℤ a) (joined 0 n) 0 (turned a (pos (suc n)) e e ∙ ap (λ t. (e *ℤ a) *ℤ t) (sym (bottom-joined 0 n)))
    ∙ sym (whole_times e a)

pub product_sign : (d m : ℤ) (a b : ℤ) → pos 0 <ℤ m → pos 0 <ℤ a → pos 0 <ℤ b → d *ℤ m ≡ a *ℤ b → pos 0 <ℤ d
product_sign d (pos zero) a b m p q e = absurd (omega (arith, ints))
product_sign d (negsuc k) a b m p q e = absurd (omega (arith, ints))
product_sign d (pos (suc k)) (pos zero) b m p q e = absurd (omega (arith, ints))
product_sign d (pos (suc k)) (negsuc a) b m p q e = absurd (omega (arith, ints))
product_sign d (pos (suc k)) (pos (suc a)) (pos zero) m p q e = absurd (omega (arith, ints))
product_sign d (pos (suc k)) (pos (suc a)) (negsuc b) m p q e = absurd (omega (arith, ints))
product_sign (pos zero) (pos (suc k)) (pos (suc a)) (pos (suc b)) m p q e = absurd (omega (arith, ints, e))
product_sign (pos (suc d)) (pos (suc k)) (pos (suc a)) (pos (suc b)) m p q e = omega (arith, ints)
product_sign (negsuc d) (pos (suc k)) (pos (suc a)) (pos (suc b)) m p q e = absurd (omega (arith, ints, e))

module _ (names : ℕ → Term) (n : ℕ) (p q r : Lin) (left right fact : Fact) (d : ℤ) (says : SaysCombination names n p q r left right fact d) where
  rows : List Used
  rows =
      record { form = meaning p; share = neg_ℚ (factor_at n (meaning q)); multiple = p.den; fact = left; factor = neg_ℤ (lin_factor q.parts n) }
      ∷ record { form = meaning q; share = factor_at n (meaning p); multiple = q.den; fact = right; factor = lin_factor p.parts n } ∷ []

  mixed : SameForm ℕ_discrete (meaning r) (mixture (shares_of rows))
  unfolding rows
  mixed =
      let a : Form ℕ = scale (neg_ℚ (factor_at n (meaning q))) (meaning p) in
      let b : Form ℕ = scale (factor_at n (meaning p)) (meaning q) in
      let z : SameForm ℕ_discrete b (plus b (number zero_ℚ)) =
      same_sym ℕ_discrete (plus b (number zero_ℚ)) b (same_trans ℕ_discrete (plus b (number zero_ℚ)) (plus (number zero_ℚ) b) b (plus_comm ℕ_discrete b (number zero_ℚ)) (zero_plus ℕ_discrete b)) in
      same_trans ℕ_discrete (meaning r) (plus a b) (plus a (plus b (number zero_ℚ))) says.combined (plus-same ℕ_discrete a a b (plus b (number zero_ℚ)) (same_refl ℕ_discrete a) z)

  pub sums : IsSame (scale (whole d) (gap fact)) (total ((neg_ℤ (lin_factor q.parts n), left) ∷ (lin_factor p.parts n, right) ∷ []))
  unfolding rows
  sums =
      mixture_sums names d r.den (meaning r) fact rows says.third mixed (says.first, (says.second, tt)) (
        ap (λ t. (whole d *ℚ whole r.den) *ℚ t) (ap neg_ℚ (factor_meaning q n says.right_normal.rising) ∙ sym (ratio_neg (lin_factor q.parts n) q.den)) ∙ share d r.den p.den q.den
            (neg_ℤ (lin_factor q.parts n)) says.right_normal.positive says.times,
        (ap (λ t. (whole d *ℚ whole r.den) *ℚ t) (factor_meaning p n says.left_normal.rising) ∙ share d r.den q.den p.den (lin_factor p.parts n) says.left_normal.positive (says.times ∙ *ℤ_comm p.den q.den), tt),
      )

  pub times_positive : pos 0 <ℤ d
  times_positive = product_sign d r.den p.den q.den says.third.positive says.left_normal.positive says.right_normal.positive says.times

counts : (c : ℤ) (f : Fact) → pos 0 <ℤ c → MayCount (c, f)
counts c f h = by_relation f.relation
  where
    by_relation : (x : Relation) → MayCount (c, record { relation = x; left = f.left; right = f.right })
    by_relation Equal = tt
    by_relation AtMost = h
    by_relation Below = h

pub at_most_line : (sig : Signature) (names : ℕ → Term) (n : ℕ) (p q r : Lin) (left right : Fact) (s t : Term) (d : ℤ) (sort : Sort) (earlier : List EqLine) (j k : ℕ)
    → SaysCombination names n p q r left right (at_most s t) d → IsNumeric sort → HaveSort sig sort left → HaveSort sig sort right → HaveSort sig sort (at_most s t) → Stated earlier j left → Stated earlier k right
    → AllowedLeSum sig earlier s t d (parts_of_line n p q j k)
at_most_line sig names n p q r left right s t d sort earlier j k says numeric sl sr st hj hk = (
  times_positive names n p q r left right (at_most s t) d says,
  (neg_ℤ (lin_factor q.parts n), left) ∷ (lin_factor p.parts n, right) ∷ [],
  (refl, hj, (refl, hk, tt)),
  (counts (neg_ℤ (lin_factor q.parts n)) left (negative_turns (lin_factor q.parts n) says.upper), (counts (lin_factor p.parts n) right says.lower, tt)),
  record { sort = sort; numeric = numeric; sorted = st; all_sorted = (sl, (sr, tt)); sums = sums names n p q r left right (at_most s t) d says },
)

some_below : (c e : ℤ) (left right : Fact) → (left.relation ≡ Below) ⊎ (right.relation ≡ Below) → SomeBelow ((c, left) ∷ (e, right) ∷ [])
some_below c e left right (inl h) = inl h
some_below c e left right (inr h) = inr (inl h)

pub below_line : (sig : Signature) (names : ℕ → Term) (n : ℕ) (p q r : Lin) (left right : Fact) (s t : Term) (d : ℤ) (sort : Sort) (earlier : List EqLine) (j k : ℕ)
    → SaysCombination names n p q r left right (below s t) d → (left.relation ≡ Below) ⊎ (right.relation ≡ Below) → IsNumeric sort → HaveSort sig sort left → HaveSort sig sort right → HaveSort sig sort (below s t)
    → Stated earlier j left → Stated earlier k right
    → AllowedLtSum sig earlier s t d (parts_of_line n p q j k)
below_line sig names n p q r left right s t d sort earlier j k says strict numeric sl sr st hj hk = (
  times_positive names n p q r left right (below s t) d says,
  (neg_ℤ (lin_factor q.parts n), left) ∷ (lin_factor p.parts n, right) ∷ [],
  (refl, hj, (refl, hk, tt)),
  (counts (neg_ℤ (lin_factor q.parts n)) left (negative_turns (lin_factor q.parts n) says.upper), (counts (lin_factor p.parts n) right says.lower, tt)),
  some_below (neg_ℤ (lin_factor q.parts n)) (lin_factor p.parts n) left right strict,
  record { sort = sort; numeric = numeric; sorted = st; all_sorted = (sl, (sr, tt)); sums = sums names n p q r left right (below s t) d says },
)

-- ---- the end of a block
at_number : (e : ℕ → ℚ) (u : ℚ) (f : Form ℕ) → IsOver 0 f → value e u f ≡ u *ℚ f.constant
at_number e u f o =
    value-same ℕ_discrete e u f (number f.constant) (record { factors = λ k. o.absent k (omega arith); constants = refl }) ∙ value-number e u f.constant

positive_whole : (m : ℤ) → pos 0 <ℤ m → is_positive (whole m) ≡ true
unfolding is_positive frac /_rec
positive_whole (pos zero) h = absurd (omega (arith, ints))
positive_whole (pos (suc n)) h = refl
positive_whole (negsuc n) h = absurd (omega (arith, ints))

scaled_sign : (m : ℤ) (x : ℚ) → pos 0 <ℤ m → is_positive (whole m *ℚ x) ≡ is_positive x
scaled_sign m x h = ap is_positive (mul_comm_q (whole m) x) ∙ positive_product x (whole m) (positive_whole m h)

still_false : (x : Relation) (m : ℤ) (k : ℚ) → pos 0 <ℤ m → CannotHold x k → CannotHold x (whole m *ℚ k)
still_false Equal m k p h = h
still_false AtMost m k p h = ap is_positive (sym (mul_neg_q (whole m) k)) ∙ scaled_sign m (neg_ℚ k) p ∙ h
still_false Below m k p h = scaled_sign m k p ∙ h

pub ends : (sig : Signature) (names : ℕ → Term) (m : ℤ) (f : Form ℕ) (fact : Fact) (lines : List EqLine) (k : ℕ) → Says names m f fact → IsOver 0 f → CannotHold fact.relation f.constant → AreNumbers sig fact → Stated lines k fact
    → EndsZero sig lines k
ends sig names m f fact lines k s o h a st = (
  fact,
  st,
  a,
  (λ t. s.factors t ∙ ap (λ x. whole m *ℚ x) (at_number (λ k. factor_of (form (names k)) t) zero_ℚ f o ∙ zero_mul_q f.constant) ∙ mul_zero_q (whole m)),
  subst (CannotHold fact.relation) (sym (s.constants ∙ ap (λ x. whole m *ℚ x) (at_number (λ k. (form (names k)).constant) one_ℚ f o ∙ one_mul_q f.constant))) (still_false fact.relation m f.constant s.positive h),
)
