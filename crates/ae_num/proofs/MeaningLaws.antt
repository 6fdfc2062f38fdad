-- What the forms that the rules make mean.
use Rattle.std.specs.Prelude.{ℕ, ℤ, pos, negsuc, ◌≡◌, ◌+ℤ◌, ◌*ℤ◌, ◌<ℤ◌, cond, false, nat_eq, List, [], ◌∷◌, map}
use Rattle.std.proofs.Common.{arith, refl, sym, ap, ◌∙◌, subst, zero, suc}
use native.Mathlib.Decide.{ℕ_discrete}
use lib.IntN.{*ℤ_comm}
use borrow.Author.Differences.{ints}
use Rattle.ae_base.specs.Decided.{pick}
use Rattle.ae_math.specs.Inner.Integers.{ring, mul_assoc_z}
use Rattle.ae_math.specs.Fractions.{ℚ, ◌+ℚ◌, ◌*ℚ◌, zero_ℚ, frac, ratio, joined}
use Rattle.ae_math.specs.Inner.Respected.{bottom-joined}
use Rattle.ae_math.specs.Forms.{factor_in, factor, plus, scale, substitute}
use Rattle.ae_math.proofs.FractionLaws.{frac_same, frac_plus, frac_times, add_zero_q, mul_zero_q, mul_comm_q}
use Rattle.ae_math.proofs.FormLaws.{factor_in-append, factor_in-scale, substitute_there, substitute_elsewhere, substitute_absent, same_sym, by_key}
use Rattle.ae_num.specs.declared.forms.Part.{Part}
use Rattle.ae_num.specs.declared.forms.Lin.{Lin}
use Rattle.ae_num.specs.Forms.{meaning, SameMeaning, factor_of, IsRising, IsNormal, others, has_key, Reduced}
use Rattle.ae_num.specs.Inner.Pairs.{outcome_of}
use Rattle.ae_num.specs.Inner.Reduction.{whole_of}
use Rattle.ae_num.specs.declared.sums.Combination.{Combination}
use Rattle.ae_num.specs.declared.sums.Combination.TheVariants.{Sum, Substitution, Multiple}
use Rattle.ae_num.proofs.PairLaws.{absent}
use Rattle.ae_num.proofs.SumLaws.{combined_factor, no_key}
use Rattle.std.proofs.lemmas.Bool.{eq-eqb, ne_eqb}
use Rattle.ae_num.proofs.KeyLaws.{factor_others, factor_others_there}

-- ---- ratios
pub ratio_zero : (d : ℤ) → ratio (pos 0) d ≡ zero_ℚ
unfolding zero_ℚ
ratio_zero (pos zero) = refl
ratio_zero (pos (suc n)) = frac_same (pos 0) (pos 0) n 0 (omega (arith, ints))
ratio_zero (negsuc n) = refl

turned : (x e g : ℤ) → x *ℤ (e *ℤ g) ≡ (x *ℤ g) *ℤ e
turned x e g = simp ring

pub ratio_scaled : (x e a d g : ℤ) → pos 0 <ℤ e → pos 0 <ℤ d → x *ℤ g ≡ a → e *ℤ g ≡ d → ratio x e ≡ ratio a d
ratio_scaled x (pos zero) a d g p q r s = absurd (omega (arith, ints))
ratio_scaled x (negsuc n) a d g p q r s = absurd (omega (arith, ints))
ratio_scaled x (pos (suc m)) a (pos zero) g p q r s = absurd (omega (arith, ints))
ratio_scaled x (pos (suc m)) a (negsuc n) g p q r s = absurd (omega (arith, ints))
ratio_scaled x (pos (suc m)) a (pos (suc n)) g p q r s = frac_same x a m n (ap (λ t. x *ℤ t) (sym s) ∙ turned x (pos (suc m)) g ∙ ap (λ t. t *ℤ pos (suc m)) r)

over_product : (z : ℤ) (m n : ℕ) → ratio z (pos (suc m) *ℤ pos (suc n)) ≡ frac z (joined m n)
over_product z m n = ap (ratio z) (sym (bottom-joined m n))

pub ratio_sum : (a dp b dq : ℤ) → pos 0 <ℤ dp → pos 0 <ℤ dq → ratio (a *ℤ dq +ℤ b *ℤ dp) (dp *ℤ dq) ≡ ratio a dp +ℚ ratio b dq
ratio_sum a (pos zero) b dq p q = absurd (omega (arith, ints))
ratio_sum a (negsuc m) b dq p q = absurd (omega (arith, ints))
ratio_sum a (pos (suc m)) b (pos zero) p q = absurd (omega (arith, ints))
ratio_sum a (pos (suc m)) b (negsuc n) p q = absurd (omega (arith, ints))
ratio_sum a (pos (suc m)) b (pos (suc n)) p q = over_product _ m n ∙ sym (frac_plus a b m n)

pub ratio_times : (n d a dp : ℤ) → pos 0 <ℤ d → pos 0 <ℤ dp → ratio (a *ℤ n) (dp *ℤ d) ≡ ratio n d *ℚ ratio a dp
ratio_times n (pos zero) a dp p q = absurd (omega (arith, ints))
ratio_times n (negsuc d) a dp p q = absurd (omega (arith, ints))
ratio_times n (pos (suc d)) a (pos zero) p q = absurd (omega (arith, ints))
ratio_times n (pos (suc d)) a (negsuc m) p q = absurd (omega (arith, ints))
ratio_times n (pos (suc d)) a (pos (suc m)) p q = over_product (a *ℤ n) m d ∙ sym (frac_times a n m d) ∙ mul_comm_q (frac a m) (frac n d)

joint : (a b z : ℤ) → (a *ℤ z +ℤ b *ℤ z) *ℤ z ≡ (a +ℤ b) *ℤ (z *ℤ z)
joint a b z = simp ring

frac_joint : (a b : ℤ) (k : ℕ) → frac a k +ℚ frac b k ≡ frac (a +ℤ b) k
frac_joint a b k =
    frac_plus a b k k ∙ frac_same (a *ℤ pos (suc k) +ℤ b *ℤ pos (suc k)) (a +ℤ b) (joined k k) k (joint a b (pos (suc k)) ∙ ap (λ t. (a +ℤ b) *ℤ t) (sym (bottom-joined k k)))

wider : (a : ℤ) (m n : ℕ) → frac a m ≡ frac (a *ℤ pos (suc n)) (joined m n)
wider a m n = frac_same a (a *ℤ pos (suc n)) m (joined m n) (ap (λ t. a *ℤ t) (bottom-joined m n ∙ *ℤ_comm (pos (suc m)) (pos (suc n))) ∙ sym (mul_assoc_z a (pos (suc n)) (pos (suc m))))

pub ratio_put : (a dp c b dq : ℤ) → pos 0 <ℤ dp → pos 0 <ℤ dq → ratio (a *ℤ dq +ℤ c *ℤ b) (dp *ℤ dq) ≡ ratio a dp +ℚ ratio c dp *ℚ ratio b dq
ratio_put a (pos zero) c b dq p q = absurd (omega (arith, ints))
ratio_put a (negsuc m) c b dq p q = absurd (omega (arith, ints))
ratio_put a (pos (suc m)) c b (pos zero) p q = absurd (omega (arith, ints))
ratio_put a (pos (suc m)) c b (negsuc n) p q = absurd (omega (arith, ints))
ratio_put a (pos (suc m)) c b (pos (suc n)) p q =
    over_product _ m n ∙ sym (frac_joint (a *ℤ pos (suc n)) (c *ℤ b) (joined m n)) ∙ (λ i. sym (wider a m n) i +ℚ sym (frac_times c b m n) i)

pub product_positive : (a b : ℤ) → pos 0 <ℤ a → pos 0 <ℤ b → pos 0 <ℤ (a *ℤ b)
product_positive (pos zero) b p q = absurd (omega (arith, ints))
product_positive (negsuc m) b p q = absurd (omega (arith, ints))
product_positive (pos (suc m)) (pos zero) p q = absurd (omega (arith, ints))
product_positive (pos (suc m)) (negsuc n) p q = absurd (omega (arith, ints))
product_positive (pos (suc m)) (pos (suc n)) p q = subst (λ z. pos 0 <ℤ z) (bottom-joined m n) (omega (arith, ints))

-- ---- the factors of the meaning
abbrev Meant : List Part → ℤ → List (ℕ × ℚ)
Meant ps d = map (λ p. (p.key, ratio p.factor d)) ps

factor_meant : (ps : List Part) (d : ℤ) (k : ℕ) → IsRising ps → factor_in ℕ_discrete (Meant ps d) k ≡ ratio (factor_of ps k) d
factor_meant [] d k r = sym (ratio_zero d)
factor_meant (p ∷ ps) d k r = by_test (ℕ_discrete p.key k) (factor_meant ps d k r.1)
  where
    by_test : (t : Dec (p.key ≡ k)) → factor_in ℕ_discrete (Meant ps d) k ≡ ratio (factor_of ps k) d
        → pick t (ratio p.factor d +ℚ factor_in ℕ_discrete (Meant ps d) k) (factor_in ℕ_discrete (Meant ps d) k) ≡ ratio (cond (nat_eq p.key k) p.factor (factor_of ps k)) d
    by_test (yes e) ih =
        ap (λ x. ratio p.factor d +ℚ x) (ih ∙ ap (λ z. ratio z d) (ap (factor_of ps) (sym e) ∙ absent p.key ps r.0) ∙ ratio_zero d) ∙ add_zero_q (ratio p.factor d)
        ∙ ap (λ b. ratio (cond b p.factor (factor_of ps k)) d) (sym (eq-eqb p.key k e))
    by_test (no n) ih = ih ∙ ap (λ b. ratio (cond b p.factor (factor_of ps k)) d) (sym (ne_eqb p.key k n))

pub factor_meaning : (l : Lin) (k : ℕ) → IsRising l.parts → factor ℕ_discrete (meaning l) k ≡ ratio (factor_of l.parts k) l.den
factor_meaning l k r = factor_meant l.parts l.den k r

-- ---- what a rule makes, divided
module _ (m : Combination) (p q w f : Lin) (made : w ≡ whole_of m p q) (reduced : Reduced w f) (normal : IsNormal f) (pp : pos 0 <ℤ p.den) (qp : pos 0 <ℤ q.den) (qr : IsRising q.parts) (z : outcome_of m (pos 0) (pos 0) ≡ pos 0) where
  g : ℤ
  g = pos (reduced.divisor)

  whole_positive : pos 0 <ℤ (p.den *ℤ q.den)
  whole_positive = product_positive p.den q.den pp qp

  pub made_factor : (k : ℕ) → factor ℕ_discrete (meaning f) k ≡ ratio (outcome_of m (factor_of p.parts k) (factor_of q.parts k)) (p.den *ℤ q.den)
  made_factor k =
      factor_meaning f k normal.rising
      ∙ ratio_scaled (factor_of f.parts k) f.den _ (p.den *ℤ q.den) (pos reduced.divisor) normal.positive whole_positive
      (reduced.factors k ∙ ap (λ (l : Lin). factor_of l.parts k) made ∙ combined_factor (outcome_of m) p.parts q.parts qr z k) (reduced.dens ∙ ap (λ (l : Lin). l.den) made)

  pub made_constant : ratio f.constant f.den ≡ ratio (outcome_of m p.constant q.constant) (p.den *ℤ q.den)
  made_constant =
      ratio_scaled f.constant f.den _ (p.den *ℤ q.den) (pos reduced.divisor) normal.positive whole_positive (reduced.constants ∙ ap (λ (l : Lin). l.constant) made) (reduced.dens ∙ ap (λ (l : Lin). l.den) made)

sum_zero : (a b : ℤ) → pos 0 *ℤ a +ℤ pos 0 *ℤ b ≡ pos 0
sum_zero a b = omega (arith, ints)

put_zero : (a b : ℤ) → pos 0 *ℤ a +ℤ b *ℤ pos 0 ≡ pos 0
put_zero a b = omega (arith, ints)

pub plus_means : (p q w f : Lin) → w ≡ whole_of (Sum q.den p.den) p q → Reduced w f → IsNormal f → IsNormal p → IsNormal q → SameMeaning (meaning f) (plus (meaning p) (meaning q))
plus_means p q w f made reduced normal np nq = record {
  factors = λ k.
      made_factor (Sum q.den p.den) p q w f made reduced normal np.positive nq.positive nq.rising (sum_zero q.den p.den) k
      ∙ ratio_sum (factor_of p.parts k) p.den (factor_of q.parts k) q.den np.positive nq.positive
      ∙ (λ i. sym (factor_meaning p k np.rising) i +ℚ sym (factor_meaning q k nq.rising) i)
      ∙ sym (factor_in-append ℕ_discrete (Meant p.parts p.den) (Meant q.parts q.den) k);
  constants =
      made_constant (Sum q.den p.den) p q w f made reduced normal np.positive nq.positive nq.rising (sum_zero q.den p.den) ∙ ratio_sum p.constant p.den q.constant q.den np.positive nq.positive;
}

pub scale_means : (top bottom : ℤ) (p w f : Lin) → w ≡ whole_of (Multiple top) p (record { den = bottom; parts = []; constant = pos 0 }) → Reduced w f → IsNormal f → IsNormal p → pos 0 <ℤ bottom
    → SameMeaning (meaning f) (scale (ratio top bottom) (meaning p))
scale_means top bottom p w f made reduced normal np bp = record {
  factors = λ k.
      made_factor (Multiple top) p q w f made reduced normal np.positive bp tt (omega (arith, ints)) k ∙ ratio_times top bottom (factor_of p.parts k) p.den bp np.positive
      ∙ ap (λ x. ratio top bottom *ℚ x) (sym (factor_meaning p k np.rising)) ∙ sym (factor_in-scale ℕ_discrete (ratio top bottom) (Meant p.parts p.den) k);
  constants = made_constant (Multiple top) p q w f made reduced normal np.positive bp tt (omega (arith, ints)) ∙ ratio_times top bottom p.constant p.den bp np.positive;
}
  where
    q : Lin
    q = record { den = bottom; parts = []; constant = pos 0 }

-- ---- substitution
pub subst_means : (p q w f : Lin) (key : ℕ) → w ≡ whole_of (Substitution q.den (factor_of p.parts key)) (record p { parts = others p.parts key }) q → Reduced w f → IsNormal f → IsNormal p → IsNormal q → has_key q.parts key ≡ false
    → SameMeaning (meaning f) (substitute ℕ_discrete (meaning p) key (meaning q))
subst_means p q w f key made reduced normal np nq none =
    by_key ℕ_discrete key (meaning f) (substitute ℕ_discrete (meaning p) key (meaning q))
    (at_key ∙ ratio_zero (p.den *ℤ q.den) ∙ sym (mul_zero_q (factor ℕ_discrete (meaning p) key)) ∙ ap (λ x. factor ℕ_discrete (meaning p) key *ℚ x) (sym gone) ∙ sym (substitute_there ℕ_discrete (meaning p) key (meaning q)))
    (λ k n. parts k ∙ ap (λ a. ratio (a *ℤ q.den +ℤ (factor_of p.parts key) *ℤ factor_of q.parts k) (p.den *ℤ q.den)) (factor_others p.parts key k n)
    ∙ ratio_put (factor_of p.parts k) p.den (factor_of p.parts key) (factor_of q.parts k) q.den np.positive nq.positive
    ∙ (λ i. sym (factor_meaning p k np.rising) i +ℚ sym (factor_meaning p key np.rising) i *ℚ sym (factor_meaning q k nq.rising) i)
    ∙ sym (substitute_elsewhere ℕ_discrete (meaning p) key (meaning q) k n))
    (made_constant (Substitution q.den (factor_of p.parts key)) (record p { parts = others p.parts key }) q w f made reduced normal np.positive nq.positive nq.rising (put_zero q.den (factor_of p.parts key))
    ∙ ratio_put p.constant p.den (factor_of p.parts key) q.constant q.den np.positive nq.positive ∙ ap (λ x. ratio p.constant p.den +ℚ x *ℚ ratio q.constant q.den) (sym (factor_meaning p key np.rising)))
  where
    parts : (k : ℕ) → factor ℕ_discrete (meaning f) k ≡ ratio (factor_of (others p.parts key) k *ℤ q.den +ℤ factor_of p.parts key *ℤ factor_of q.parts k) (p.den *ℤ q.den)
    parts k = made_factor (Substitution q.den (factor_of p.parts key)) (record p { parts = others p.parts key }) q w f made reduced normal np.positive nq.positive nq.rising (put_zero q.den (factor_of p.parts key)) k

    at_key : factor ℕ_discrete (meaning f) key ≡ ratio (pos 0) (p.den *ℤ q.den)
    at_key =
        parts key ∙ ap (λ a. ratio (a *ℤ q.den +ℤ factor_of p.parts key *ℤ factor_of q.parts key) (p.den *ℤ q.den)) (factor_others_there p.parts key)
        ∙ ap (λ b. ratio (pos 0 *ℤ q.den +ℤ factor_of p.parts key *ℤ b) (p.den *ℤ q.den)) (no_key key q.parts none) ∙ ap (λ z. ratio z (p.den *ℤ q.den)) (put_zero q.den (factor_of p.parts key))

    gone : factor ℕ_discrete (meaning q) key ≡ zero_ℚ
    gone = factor_meaning q key nq.rising ∙ ap (λ z. ratio z q.den) (no_key key q.parts none) ∙ ratio_zero q.den

-- where the key is absent nothing changes
pub subst_absent : (p q : Lin) (key : ℕ) → IsNormal p → has_key p.parts key ≡ false → SameMeaning (meaning p) (substitute ℕ_discrete (meaning p) key (meaning q))
subst_absent p q key np none =
    same_sym ℕ_discrete (substitute ℕ_discrete (meaning p) key (meaning q)) (meaning p)
    (substitute_absent ℕ_discrete (meaning p) key (meaning q) (factor_meaning p key np.rising ∙ ap (λ z. ratio z p.den) (no_key key p.parts none) ∙ ratio_zero p.den))
