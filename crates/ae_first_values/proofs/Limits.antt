-- Products of denominators and opposites within the limits.
use Rattle.std.specs.Prelude.{ℕ, ℤ, cond, pos, negsuc, ◌<◌, ◌≤◌, ◌^◌, ◌*◌, ◌<ℤ◌, ◌*ℤ◌, ◌≡◌, true, false, Bool, List, [], ◌∷◌, ◌++◌, map, Some, None, unsigned_abs}
use Rattle.std.specs.List.{AllByRecursion, flat_map}
use Rattle.std.proofs.Common.{refl, sym, ap, ◌∙◌, subst, arith}
use Rattle.std.proofs.lemmas.Option.{none-some}
use Rattle.std.proofs.Math.Nat.{mul-le-mul_left}
use Rattle.std.proofs.Math.IntN.{pos-*ℤ-pos}
use Rattle.std.proofs.lemmas.Bool.Decides.{nat_tests}
use borrow.Author.Differences.{ints}
use mir.Syntax.{w128}
use mir.Val.{to_z, of_z}
use native.Mathlib.Decide.{ℕ_discrete}
use Rattle.ae_math.specs.Fractions.{ratio, one_ℚ, neg_ℚ, ◌*ℚ◌}
use Rattle.ae_math.specs.Forms.{Form, plus, minus, scale}
use Rattle.ae_math.proofs.FractionLaws.{neg_neg_q}
use Rattle.ae_math.proofs.FormLaws.{minus_one, plus-same, same_refl, same_sym, same_trans, scale-same, scale_scale, scale_one}
use Rattle.ae_math.proofs.Wholes.{one_whole, whole_neg}
use Rattle.ae_num.specs.declared.forms.Part.{Part}
use Rattle.ae_num.specs.declared.forms.Lin.{Lin}
use Rattle.ae_num.specs.Forms.{meaning, SameMeaning, IsNormal, Step, Product, is_wide, wide_of, first_wide, crossed, factor_of, keys_of, plus_steps, scale_steps}
use Rattle.ae_num.specs.Limits.{FitsLimits}
use Rattle.ae_num.proofs.StepLaws.{fits, past}
use Rattle.ae_denominators.specs.Denominators.{Divides, MultipleDenominator}

-- a number as it is read
abbrev pub as_read : ℤ → ℤ
as_read z = to_z w128 (of_z w128 z)

-- ---- a first product that doesn't leave the limits
not_wide : (s : Step) (ss : List Step) (b : Bool) → is_wide s ≡ b → first_wide (s ∷ ss) ≡ None → is_wide s ≡ false
not_wide s ss false e h = e
not_wide s ss true e h = absurd (none-some (wide_of s) (sym h ∙ ap (λ (b : Bool). cond b (Some (wide_of s)) (first_wide ss)) e))

pub product_within : (a b : ℤ) (ss : List Step) → first_wide (Product a b ∷ ss) ≡ None → FitsLimits (a *ℤ b)
product_within a b ss h = let w : is_wide (Product a b) ≡ false = not_wide (Product a b) ss (is_wide (Product a b)) refl h in grind (arith, nat_tests, w)

pub sum_within : (p q : Lin) → first_wide (plus_steps p q) ≡ None → FitsLimits (p.den *ℤ q.den)
sum_within p q h =
    product_within p.den q.den (flat_map (λ (y : ℕ). crossed (factor_of p.parts y) q.den (factor_of q.parts y) p.den) (keys_of p.parts q.parts) ++ crossed p.constant q.den q.constant p.den) h

pub scale_within : (top bottom : ℤ) (p : Lin) → first_wide (scale_steps top bottom p) ≡ None → FitsLimits (p.den *ℤ bottom)
scale_within top bottom p h = product_within p.den bottom (map (λ (x : Part). Product x.factor top) p.parts ++ Product p.constant top ∷ []) h

-- ---- opposites
opposite_small : (z : ℤ) → unsigned_abs z < 2 ^ 127 → FitsLimits (z *ℤ negsuc 0)
opposite_small z h = omega (arith, ints)

same_small : (z : ℤ) → unsigned_abs z < 2 ^ 127 → FitsLimits (z *ℤ pos 1)
same_small z h = omega (arith, ints)

opposites_fit : (ps : List Part) (ss : List Step) → AllByRecursion (λ n. n < 2 ^ 127) (map (λ p. unsigned_abs p.factor) ps) → first_wide (map (λ x. Product x.factor (negsuc 0)) ps ++ ss) ≡ first_wide ss
opposites_fit [] ss a = refl
opposites_fit (p ∷ ps) ss a =
    past (Product p.factor (negsuc 0)) (map (λ (x : Part). Product x.factor (negsuc 0)) ps ++ ss) (fits (Product p.factor (negsuc 0)) (opposite_small p.factor a.0)) ∙ opposites_fit ps ss a.1

pub opposite_fits : (q : Lin) → IsNormal q → first_wide (scale_steps (negsuc 0) (pos 1) q) ≡ None
opposite_fits q n =
    past (Product q.den (pos 1)) (map (λ (x : Part). Product x.factor (negsuc 0)) q.parts ++ Product q.constant (negsuc 0) ∷ []) (fits (Product q.den (pos 1)) (same_small q.den n.within.0))
    ∙ opposites_fit q.parts (Product q.constant (negsuc 0) ∷ []) n.within.1.1
    ∙ past (Product q.constant (negsuc 0)) [] (fits (Product q.constant (negsuc 0)) (opposite_small q.constant n.within.1.0))

-- ---- a form from its opposite
pub opposite_is : ratio (negsuc 0) (pos 1) ≡ neg_ℚ one_ℚ
opposite_is = sym (ap neg_ℚ one_whole ∙ whole_neg (pos 1))

opposite_twice : ratio (negsuc 0) (pos 1) *ℚ ratio (negsuc 0) (pos 1) ≡ one_ℚ
opposite_twice =
    ap (λ t. t *ℚ t) opposite_is ∙ minus_one (neg_ℚ one_ℚ) ∙ neg_neg_q one_ℚ

back : (f g : Form ℕ) → SameMeaning g (scale (ratio (negsuc 0) (pos 1)) f) → SameMeaning f (scale (ratio (negsuc 0) (pos 1)) g)
back f g s =
    let x = ratio (negsuc 0) (pos 1) in
    same_sym ℕ_discrete (scale x g) f
    (same_trans ℕ_discrete (scale x g) (scale x (scale x f)) f (scale-same ℕ_discrete x g (scale x f) s)
    (same_trans ℕ_discrete (scale x (scale x f)) (scale (x *ℚ x) f) f (scale_scale ℕ_discrete x x f)
    (subst (λ y. SameMeaning (scale y f) f) (sym opposite_twice) (scale_one ℕ_discrete f))))

smaller : (a q t m L : ℕ) → 1 ≤ t → t * q ≡ m → a * m < L → a * q < L
smaller a q t m L h e f =
    let wide : q ≤ t * q = grind arith in
    let l : a * q ≤ a * m = mul-le-mul_left a (omega (arith, wide, e)) in
    omega (arith, l, f)

within_left : (a q m : ℤ) → pos 0 <ℤ a → pos 0 <ℤ q → Divides q (m *ℤ pos 1) → FitsLimits (a *ℤ m) → FitsLimits (a *ℤ q)
within_left (negsuc A) q m p g d f = absurd (omega (arith, ints))
within_left (pos A) (negsuc Q) m p g d f = absurd (omega (arith, ints))
within_left (pos A) (pos Q) m p g d f = by_times d.times d.positive d.is
  where
    by_times : (t : ℤ) → pos 0 <ℤ t → t *ℤ pos Q ≡ m *ℤ pos 1 → FitsLimits (pos A *ℤ pos Q)
    by_times (negsuc T) s e = absurd (omega (arith, ints))
    by_times (pos T) s e =
        let one : m *ℤ pos 1 ≡ m = omega (arith, ints) in
        let m_is : m ≡ pos (T * Q) = sym one ∙ sym e ∙ pos-*ℤ-pos T Q in
        let whole : unsigned_abs (pos A *ℤ m) ≡ A * (T * Q) = ap unsigned_abs (ap (λ z. pos A *ℤ z) m_is ∙ pos-*ℤ-pos A (T * Q)) in
        let part : unsigned_abs (pos A *ℤ pos Q) ≡ A * Q = ap unsigned_abs (pos-*ℤ-pos A Q) in
        let some : 1 ≤ T = omega (arith, ints) in
        subst (λ n. n < 2 ^ 127) (sym part) (smaller A Q T (T * Q) (2 ^ 127) some refl (subst (λ n. n < 2 ^ 127) whole f))

pub difference_within : MultipleDenominator → (p q m : Lin) → IsNormal p → IsNormal q → IsNormal m → SameMeaning (meaning m) (scale (ratio (negsuc 0) (pos 1)) (meaning q)) → FitsLimits (p.den *ℤ m.den) → FitsLimits (p.den *ℤ q.den)
difference_within law p q m np nq nm s f =
    within_left p.den q.den m.den np.positive nq.positive (law q m (negsuc 0) (pos 1) nq nm (let o : pos 0 <ℤ pos 1 = omega (arith, ints) in o) (back (meaning q) (meaning m) s)) f

-- ---- differences by opposites
pub difference_is : (f g h : Form ℕ) → SameMeaning g (scale (ratio (negsuc 0) (pos 1)) h) → SameMeaning (plus f g) (minus f h)
difference_is f g h s = plus-same ℕ_discrete f f g (scale (neg_ℚ one_ℚ) h) (same_refl ℕ_discrete f) (subst (λ x. SameMeaning g (scale x h)) opposite_is s)

pub difference_means : (f g h k : Form ℕ) → SameMeaning k (plus f g) → SameMeaning g (scale (ratio (negsuc 0) (pos 1)) h) → SameMeaning k (minus f h)
difference_means f g h k t s = same_trans ℕ_discrete k (plus f g) (minus f h) t (difference_is f g h s)
