-- The value of the largest name of a form that is to be 0.
use Rattle.std.specs.Prelude.{◌≡◌, ◌≢◌, ℕ, ◌<◌, ◌≤◌, ◌^◌, ℤ, pos, negsuc, ◌<ℤ◌, ◌*ℤ◌, neg_ℤ, List, [], ◌∷◌, cond, true, false, int_lt, unsigned_abs, Bool, zero, suc, map}
use Rattle.std.proofs.lemmas.Bool.Decides.{nat_tests}
use Rattle.ae_num.specs.declared.forms.Part.{Part}
use Rattle.ae_math.proofs.FractionLaws.{same_frac}
use Rattle.ae_num.proofs.MeaningLaws.{ratio_zero, factor_meaning}
use Rattle.ae_linear.specs.Solving.{IsLargest, IsOff, SolvesFor}
use Rattle.ae_num.proofs.Rests.{small_factor, minus_one_ratio}
use Rattle.std.proofs.Common.{arith, refl, sym, ap, ◌∙◌, subst}
use native.Mathlib.Decide.{ℕ_discrete}
use borrow.Author.Differences.{ints}
use Rattle.ae_math.specs.Inner.Integers.{ring}
use Rattle.ae_base.proofs.Decided.{pick_yes, pick_no}
use Rattle.ae_math.specs.Fractions.{ℚ, ◌+ℚ◌, ◌*ℚ◌, zero_ℚ, one_ℚ, neg_ℚ, ratio}
use Rattle.ae_math.specs.Forms.{Form, number, single, minus, scale, factor, factor_in, substitute}
use Rattle.ae_math.proofs.FractionLaws.{mul_zero_q, zero_add_q, add_zero_q, one_mul_q, neg_mul_q, mul_neg_q, mul_assoc_q, neg_neg_q, one_mul_q'}
use Rattle.ae_math.proofs.FormLaws.{factor_in-append, factor_in-scale, substitute_there, substitute_elsewhere, by_key}
use Rattle.ae_num.specs.declared.forms.Lin.{Lin}
use Rattle.ae_num.specs.Forms.{meaning, SameMeaning, IsNormal, lowest}
use Rattle.ae_num.proofs.MeaningLaws.{ratio_times, ratio_scaled, product_positive}
use Rattle.ae_num.proofs.LowestLaws.{number_value}
use Rattle.ae_linear.specs.Solving.{negated_inverse}

pub key_factor : (x t : ℕ) (a : ℚ) (v : Form ℕ) → factor ℕ_discrete (scale a (minus (single x) v)) t ≡ a *ℚ (factor ℕ_discrete (single x) t +ℚ neg_ℚ one_ℚ *ℚ factor ℕ_discrete v t)
key_factor x t a v =
    factor_in-scale ℕ_discrete a (minus (single x) v).parts t
    ∙ ap (λ y. a *ℚ y) (factor_in-append ℕ_discrete ((x, one_ℚ) ∷ []) (scale (neg_ℚ one_ℚ) v).parts t ∙ ap (λ y. factor ℕ_discrete (single x) t +ℚ y) (factor_in-scale ℕ_discrete (neg_ℚ one_ℚ) v.parts t))

turned_back : (a b y : ℚ) → a *ℚ b ≡ neg_ℚ one_ℚ → a *ℚ (zero_ℚ +ℚ neg_ℚ one_ℚ *ℚ (b *ℚ y)) ≡ y
turned_back a b y e =
    ap (λ z. a *ℚ z) (zero_add_q (neg_ℚ one_ℚ *ℚ (b *ℚ y)) ∙ neg_mul_q one_ℚ (b *ℚ y) ∙ ap neg_ℚ (one_mul_q (b *ℚ y)))
    ∙ mul_neg_q a (b *ℚ y) ∙ ap neg_ℚ (sym (mul_assoc_q a b y) ∙ ap (λ z. z *ℚ y) e ∙ neg_mul_q one_ℚ y ∙ ap neg_ℚ (one_mul_q y)) ∙ neg_neg_q y

stays : (a z : ℚ) → z ≡ zero_ℚ → a *ℚ (one_ℚ +ℚ zero_ℚ +ℚ neg_ℚ one_ℚ *ℚ z) ≡ a
stays a z e = ap (λ y. a *ℚ (one_ℚ +ℚ zero_ℚ +ℚ neg_ℚ one_ℚ *ℚ y)) e ∙ ap (λ y. a *ℚ (one_ℚ +ℚ zero_ℚ +ℚ y)) (mul_zero_q (neg_ℚ one_ℚ)) ∙ ap (λ y. a *ℚ y) (add_zero_q (one_ℚ +ℚ zero_ℚ) ∙ add_zero_q one_ℚ) ∙ one_mul_q' a

module _ (d r v : Form ℕ) (x : ℕ) (a b : ℚ) (e : a *ℚ b ≡ neg_ℚ one_ℚ) (at : factor ℕ_discrete d x ≡ a) (is_rest : SameMeaning r (substitute ℕ_discrete d x (number zero_ℚ))) (is_value : SameMeaning v (scale b r)) where
  value_there : factor ℕ_discrete v x ≡ zero_ℚ
  value_there =
      is_value.factors x ∙ factor_in-scale ℕ_discrete b r.parts x
      ∙ ap (λ y. b *ℚ y) (is_rest.factors x ∙ substitute_there ℕ_discrete d x (number zero_ℚ) ∙ mul_zero_q (factor ℕ_discrete d x)) ∙ mul_zero_q b

  pub value_elsewhere : (t : ℕ) → ¬ (x ≡ t) → factor ℕ_discrete v t ≡ b *ℚ factor ℕ_discrete d t
  value_elsewhere t n =
      is_value.factors t ∙ factor_in-scale ℕ_discrete b r.parts t
      ∙ ap (λ y. b *ℚ y) (is_rest.factors t ∙ substitute_elsewhere ℕ_discrete d x (number zero_ℚ) t n ∙ ap (λ y. factor ℕ_discrete d t +ℚ y) (mul_zero_q (factor ℕ_discrete d x)) ∙ add_zero_q (factor ℕ_discrete d t))

  value_constant : v.constant ≡ b *ℚ d.constant
  value_constant = is_value.constants ∙ ap (λ y. b *ℚ y) (is_rest.constants ∙ ap (λ y. d.constant +ℚ y) (mul_zero_q (factor ℕ_discrete d x)) ∙ add_zero_q d.constant)

  pub solves : SameMeaning d (scale a (minus (single x) v))
  solves =
      by_key ℕ_discrete x d (scale a (minus (single x) v))
      (at ∙ sym (key_factor x x a v ∙ ap (λ y. a *ℚ (y +ℚ neg_ℚ one_ℚ *ℚ factor ℕ_discrete v x)) (pick_yes (ℕ_discrete x x) (one_ℚ +ℚ zero_ℚ) zero_ℚ refl) ∙ stays a (factor ℕ_discrete v x) value_there))
      (λ t n. sym (key_factor x t a v ∙ ap (λ y. a *ℚ (y +ℚ neg_ℚ one_ℚ *ℚ factor ℕ_discrete v t)) (pick_no (ℕ_discrete x t) (one_ℚ +ℚ zero_ℚ) zero_ℚ n)
      ∙ ap (λ y. a *ℚ (zero_ℚ +ℚ neg_ℚ one_ℚ *ℚ y)) (value_elsewhere t n) ∙ turned_back a b (factor ℕ_discrete d t) e))
      (sym (ap (λ y. a *ℚ (zero_ℚ +ℚ neg_ℚ one_ℚ *ℚ y)) value_constant ∙ turned_back a b d.constant e))

  pub value_small : ((k : ℕ) → x < k → factor ℕ_discrete d k ≡ zero_ℚ) → (k : ℕ) → x ≤ k → factor ℕ_discrete v k ≡ zero_ℚ
  value_small above k h = by_same (ℕ_discrete x k)
    where
      by_same : Dec (x ≡ k) → factor ℕ_discrete v k ≡ zero_ℚ
      by_same (yes s) = subst (λ n. factor ℕ_discrete v n ≡ zero_ℚ) s value_there
      by_same (no n) = value_elsewhere k n ∙ ap (λ y. b *ℚ y) (above k (omega (arith, n))) ∙ mul_zero_q b

-- ---- the factor's negated inverse
by_minus_one : (g t : ℤ) → t ≡ neg_ℤ g → negsuc 0 *ℤ g ≡ t
by_minus_one g t e = omega (arith, ints)

turned : (c den top bottom : ℤ) → pos 0 <ℤ den → pos 0 <ℤ bottom → top *ℤ c ≡ neg_ℤ (bottom *ℤ den) → ratio c den *ℚ ratio top bottom ≡ neg_ℚ one_ℚ
turned c den top bottom p q e =
    sym (ratio_times c den top bottom p q)
    ∙ sym (ratio_scaled (negsuc 0) (pos 1) (top *ℤ c) (bottom *ℤ den) (bottom *ℤ den) (omega (arith, ints)) (product_positive bottom den q p) (by_minus_one (bottom *ℤ den) (top *ℤ c) e) (omega (arith, ints)))
    ∙ minus_one_ratio

negative : (c : ℤ) → int_lt c (pos 0) ≡ true → pos 0 <ℤ neg_ℤ c
negative (pos n) e = grind (arith, ints, nat_tests)
negative (negsuc n) e = omega (arith, ints)

positive : (c : ℤ) → c ≢ pos 0 → int_lt c (pos 0) ≡ false → pos 0 <ℤ c
positive (pos zero) n e = absurd (n refl)
positive (pos (suc m)) n e = omega (arith, ints)
positive (negsuc m) n e = cc

neg_small : (z : ℤ) → unsigned_abs z < 2 ^ 127 → unsigned_abs (neg_ℤ z) < 2 ^ 127
neg_small z h = omega (arith, ints)

pub inverse_times : (c den : ℤ) → pos 0 <ℤ den → c ≢ pos 0 → unsigned_abs c < 2 ^ 127 → unsigned_abs den < 2 ^ 127 → ratio c den *ℚ ratio (negated_inverse den c).constant (negated_inverse den c).den ≡ neg_ℚ one_ℚ
inverse_times c den p n s t = by_sign (int_lt c (pos 0)) refl
  where
    by_sign : (b : Bool) → int_lt c (pos 0) ≡ b
        → ratio c den *ℚ ratio (lowest (record { den = cond b (neg_ℤ c) c; parts = []; constant = cond b den (neg_ℤ den) })).constant (lowest (record { den = cond b (neg_ℤ c) c; parts = []; constant = cond b den (neg_ℤ den) })).den ≡ neg_ℚ one_ℚ
    by_sign true e =
        let q : pos 0 <ℤ neg_ℤ c = negative c e in
        ap (λ y. ratio c den *ℚ y) (number_value den (neg_ℤ c) q t (neg_small c s)) ∙ turned c den den (neg_ℤ c) p q (let f : den *ℤ c ≡ neg_ℤ (neg_ℤ c *ℤ den) = simp ring in f)
    by_sign false e =
        let q : pos 0 <ℤ c = positive c n e in
        ap (λ y. ratio c den *ℚ y) (number_value (neg_ℤ den) c q (neg_small den t) s) ∙ turned c den (neg_ℤ den) c p q (let f : neg_ℤ den *ℤ c ≡ neg_ℤ (c *ℤ den) = simp ring in f)

-- ---- the answers
pub zero_form : (p : Lin) → p.parts ≡ [] → p.constant ≡ pos 0 → SameMeaning (meaning p) (number zero_ℚ)
zero_form p e z = record {
  factors = λ k. ap (λ (ps : List Part). factor_in ℕ_discrete (map (λ (q : Part). (q.key, ratio q.factor p.den)) ps) k) e;
  constants = ap (λ y. ratio y p.den) z ∙ ratio_zero p.den;
}

pub ratio_nonzero : (a d : ℤ) → pos 0 <ℤ d → a ≢ pos 0 → ratio a d ≢ zero_ℚ
unfolding zero_ℚ
ratio_nonzero a (pos zero) p n e = absurd (omega (arith, ints))
ratio_nonzero a (negsuc m) p n e = absurd (omega (arith, ints))
ratio_nonzero a (pos (suc m)) p n e = n (let f = same_frac a (pos 0) m 0 e in omega (arith, ints))

pub off_form : (p : Lin) → p.parts ≡ [] → p.constant ≢ pos 0 → pos 0 <ℤ p.den → IsOff (meaning p)
off_form p e z d = record {
  factors = λ k. ap (λ (ps : List Part). factor_in ℕ_discrete (map (λ (q : Part). (q.key, ratio q.factor p.den)) ps) k) e;
  off = ratio_nonzero p.constant p.den d z;
}

pub largest_small : (p : Lin) (q : Part) → IsNormal p → IsLargest p.parts q → unsigned_abs q.factor < 2 ^ 127
largest_small p q n i = subst (λ z. unsigned_abs z < 2 ^ 127) i.factor (small_factor p.parts q.key n.within.1.1)

pub solution : (p rest by value : Lin) (q : Part) → IsNormal p → IsLargest p.parts q → SameMeaning (meaning rest) (substitute ℕ_discrete (meaning p) q.key (number zero_ℚ))
    → by ≡ negated_inverse p.den q.factor → IsNormal value → SameMeaning (meaning value) (scale (ratio by.constant by.den) (meaning rest)) → SolvesFor (meaning p) q.key value
solution p rest by value q n i r b nv v =
    let x = q.key in
    let a = ratio q.factor p.den in
    let y = ratio by.constant by.den in
    let at : factor ℕ_discrete (meaning p) x ≡ a = factor_meaning p x n.rising ∙ ap (λ z. ratio z p.den) i.factor in
    let e : a *ℚ y ≡ neg_ℚ one_ℚ = subst (λ (l : Lin). a *ℚ ratio l.constant l.den ≡ neg_ℚ one_ℚ) (sym b) (inverse_times q.factor p.den n.positive i.nonzero (largest_small p q n i) n.within.0) in
    let above : (k : ℕ) → x < k → factor ℕ_discrete (meaning p) k ≡ zero_ℚ = λ k l. factor_meaning p k n.rising ∙ ap (λ z. ratio z p.den) (i.above k l) ∙ ratio_zero p.den in
    record {
      times = a;
      nonzero = ratio_nonzero q.factor p.den n.positive i.nonzero;
      normal = nv;
      smaller = value_small (meaning p) (meaning rest) (meaning value) x a y e at r v above;
      equation = solves (meaning p) (meaning rest) (meaning value) x a y e at r v;
    }
