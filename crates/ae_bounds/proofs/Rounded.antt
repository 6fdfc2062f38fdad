-- A row is weaker than the rounded one: a positive multiple of it is the rounded one and a number that isn't negative.
use Rattle.std.specs.Prelude.{ℕ, zero, suc, ℤ, pos, ◌≡◌, ◌≢◌, ◌*ℤ◌, ◌-ℤ◌, ◌<ℤ◌, ◌≤ℤ◌, Bool, true, false, cond, nat_eq, List, [], ◌∷◌}
use Rattle.std.specs.List.{AllByRecursion}
use Rattle.std.proofs.Common.{arith, refl, sym, ap, ◌∙◌, subst}
use Rattle.std.proofs.lemmas.List.{append-nil}
use native.Mathlib.Decide.{ℕ_discrete}
use lib.IntN.{*ℤ-one, zero-*ℤ, *ℤ_comm}
use lib.Signed.{lt_z}
use borrow.Author.Differences.{ints}
use Rattle.ae_math.specs.Fractions.{ℚ, neg_ℚ, ◌+ℚ◌, ◌*ℚ◌, ratio, is_positive}
use Rattle.ae_math.specs.Forms.{Form, plus, scale, number, factor_in, SameForm}
use Rattle.ae_math.proofs.FractionLaws.{add_comm_q, neg_add_cancel_q, mul_zero_q}
use Rattle.ae_math.proofs.FractionOrder.{neg_difference, below_crosswise}
use Rattle.ae_math.proofs.FormLaws.{factor_in-scale}
use Rattle.ae_num.specs.declared.forms.Part.{Part}
use Rattle.ae_num.specs.declared.forms.Lin.{Lin}
use Rattle.ae_num.specs.Forms.{meaning, IsNormal, factor_of}
use Rattle.ae_num.proofs.MeaningLaws.{factor_meaning, ratio_times, ratio_scaled, product_positive}
use Rattle.ae_rows.specs.Rows.{factor_at, IsOver}
use Rattle.ae_journal.specs.Sides.{AreDivided, IsRounded}
use Rattle.ae_ineq.proofs.LastLaws.{ratio_positive}

-- one of the forms is a positive multiple of the other and a number that isn't negative
pub record IsWeaker (f g : Form ℕ) : Type 0 where
  pub times : ℚ
  pub positive : is_positive times ≡ true
  pub rest : ℚ
  pub loose : is_positive (neg_ℚ rest) ≡ false
  pub same : SameForm ℕ_discrete (scale times f) (plus g (number rest))

pub divided_factor : (d : ℕ) (qs rs : List Part) → AreDivided d qs rs → (k : ℕ) → factor_of qs k ≡ factor_of rs k *ℤ pos d
divided_factor d [] [] a k = sym (zero-*ℤ (pos d))
divided_factor d [] (r ∷ rs) a k = absurd a
divided_factor d (q ∷ qs) [] a k = absurd a
divided_factor d (q ∷ qs) (r ∷ rs) a k = (λ i. cond (nat_eq (a.0 i) k) (a.1 i) (divided_factor d qs rs a.2 k i)) ∙ outside (nat_eq r.key k)
  where
    outside : (b : Bool) → cond b (r.factor *ℤ pos d) (factor_of rs k *ℤ pos d) ≡ cond b r.factor (factor_of rs k) *ℤ pos d
    outside true = refl
    outside false = refl

-- the divisor isn't 0, since the factors aren't
pub divisor_positive : (l : Lin) → IsNormal l → l.parts ≢ [] → (d : ℕ) (rs : List Part) → AreDivided d l.parts rs → pos 0 <ℤ pos d
divisor_positive l n m d rs a = by_parts l.parts n.nonzero m rs a
  where
    by_divisor : (e : ℕ) (x y : ℤ) → x ≢ pos 0 → x ≡ y *ℤ pos e → pos 0 <ℤ pos e
    by_divisor zero x y z h = absurd (z (h ∙ *ℤ_comm y (pos 0) ∙ zero-*ℤ y))
    by_divisor (suc e) x y z h = omega (arith, ints)

    by_parts : (ps : List Part) → AllByRecursion (λ (p : Part). p.factor ≢ pos 0) ps → ps ≢ [] → (qs : List Part) → AreDivided d ps qs → pos 0 <ℤ pos d
    by_parts [] z h qs b = absurd (h refl)
    by_parts (p ∷ ps) z h [] b = absurd b
    by_parts (p ∷ ps) z h (q ∷ qs) b = by_divisor d p.factor q.factor z.0 b.1

module _ (strict : Bool) (l r : Lin) (normal : IsNormal l) (names : l.parts ≢ []) (own : IsNormal r) (rounded : IsRounded strict l r) where
  abbrev pub by : ℤ
  by = pos rounded.divisor

  pub above : pos 0 <ℤ by
  above = divisor_positive l normal names rounded.divisor r.parts rounded.divided

  abbrev pub times : ℚ
  times = ratio l.den by

  -- the denominator goes
  pub share : (z : ℤ) → times *ℚ ratio z l.den ≡ ratio z by
  share z =
      sym (ratio_times l.den by z l.den above normal.positive)
      ∙ sym (ratio_scaled z by (z *ℤ l.den) (l.den *ℤ by) l.den above (product_positive l.den by normal.positive above) refl (*ℤ_comm by l.den))

  -- and so does the divisor
  pub back : (z : ℤ) → ratio (z *ℤ by) by ≡ ratio z r.den
  unfolding lib.IntN.one
  back z = sym (ratio_scaled z (pos 1) (z *ℤ by) by by (omega (arith, ints)) above refl (*ℤ_comm (pos 1) by ∙ *ℤ-one by)) ∙ ap (λ d. ratio z d) (sym rounded.whole)

  abbrev pub rest : ℚ
  rest = ratio l.constant by +ℚ neg_ℚ (ratio r.constant r.den)

  pub factors : (k : ℕ) → times *ℚ factor_at k (meaning l) ≡ factor_at k (meaning r)
  factors k =
      ap (λ x. times *ℚ x) (factor_meaning l k normal.rising) ∙ share (factor_of l.parts k)
      ∙ ap (λ z. ratio z by) (divided_factor rounded.divisor l.parts r.parts rounded.divided k) ∙ back (factor_of r.parts k) ∙ sym (factor_meaning r k own.rising)

  -- the constant is rounded down
  at_least : (s : Bool) (c : ℤ) → (c *ℤ by) ≤ℤ cond s (l.constant -ℤ pos 1) l.constant → (c *ℤ by) ≤ℤ l.constant
  at_least true c h = omega (arith, ints, h)
  at_least false c h = h

  not_below : (d : ℕ) → by ≡ pos d → pos 0 <ℤ by → (c : ℤ) → (c *ℤ by) ≤ℤ l.constant → is_positive (ratio c (pos 1) +ℚ neg_ℚ (ratio l.constant by)) ≡ false
  unfolding lib.IntN.one
  not_below zero e p c h = absurd (let q = subst (λ z. pos 0 <ℤ z) e p in omega (arith, ints, q))
  not_below (suc d) e p c h =
      ap (λ z. is_positive (ratio c (pos 1) +ℚ neg_ℚ (ratio l.constant z))) e ∙ below_crosswise l.constant c d 0
      ∙ not_less (l.constant *ℤ pos 1) (c *ℤ pos (suc d)) (subst (λ z. (c *ℤ pos (suc d)) ≤ℤ z) (sym (*ℤ-one l.constant)) (subst (λ z. (c *ℤ z) ≤ℤ l.constant) e h))
    where
      not_less : (x y : ℤ) → y ≤ℤ x → lt_z x y ≡ false
      not_less x y g = grind (arith, ints, g)

  loose : is_positive (neg_ℚ rest) ≡ false
  unfolding ◌+ℚ◌
  loose =
      ap is_positive (neg_difference (ratio r.constant r.den) (ratio l.constant by)) ∙ ap (λ d. is_positive (ratio r.constant d +ℚ neg_ℚ (ratio l.constant by))) rounded.whole
      ∙ not_below rounded.divisor refl above r.constant (at_least strict r.constant rounded.floor.at_least)

  pub weaker : IsWeaker (meaning l) (meaning r)
  unfolding ◌+ℚ◌
  weaker = record {
    times = times;
    positive = ratio_positive l.den by normal.positive above;
    rest = rest;
    loose = loose;
    same = record {
      factors = λ k. factor_in-scale ℕ_discrete times (meaning l).parts k ∙ factors k ∙ ap (λ ps. factor_in ℕ_discrete ps k) (sym (append-nil (meaning r).parts));
      constants = share l.constant
          ∙ sym (ap (λ x. ratio r.constant r.den +ℚ x) (add_comm_q (ratio l.constant by) (neg_ℚ (ratio r.constant r.den))) ∙ neg_add_cancel_q (ratio r.constant r.den) (ratio l.constant by));
    };
  }

  pub weaker_rest : weaker.rest ≡ rest
  unfolding weaker
  weaker_rest = refl

  pub rounded_over : (n : ℕ) → IsOver n (meaning l) → IsOver n (meaning r)
  rounded_over n o = record { absent = λ k h. sym (factors k) ∙ ap (λ x. times *ℚ x) (o.absent k h) ∙ mul_zero_q times }
