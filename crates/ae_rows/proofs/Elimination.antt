-- The point that is built from the smallest name up makes each form of a closed set positive.
use Rattle.std.specs.Prelude.{ℕ, zero, suc, ◌≤◌, ◌+◌, Bool, true, false, ◌≡◌, List, [], ◌∷◌}
use mathlib.Core.Path.{refl, sym, ap, ◌∙◌, subst}
use native.Mathlib.Omega.{arith}
use native.Mathlib.Decide.{ℕ_discrete}
use Rattle.ae_base.proofs.Decided.{pick_no}
use Rattle.ae_math.specs.Fractions.{ℚ, zero_ℚ, one_ℚ, neg_ℚ, inverse_ℚ, ◌+ℚ◌, ◌*ℚ◌, is_below, is_positive}
use Rattle.ae_math.specs.Forms.{number as constant_form, plus, Form, scale, factor_in, SameForm, value}
use Rattle.ae_math.proofs.FractionLaws.{add_zero_q, field, times_inverse, mul_comm_q, mul_assoc_q, mul_zero_q, one_mul_q, one_mul_q', add_assoc_q, zero_add_q, neg_mul_q, neg_neg_q, neg_zero_q, add_mul_q}
use Rattle.ae_math.proofs.FractionOrder.{positive_sum, positive_product, positive_zero, neither_positive}
use Rattle.ae_math.proofs.FormLaws.{value-number, apart as apart_form, factor_in-append, factor_in-scale, value-plus, value-scale, value-same}
use Rattle.ae_rows.specs.Rows.{factor_at, IsOver, IsLower, IsUpper, combination, IsCovered, multiple, weaker, number, IsClosed, HasPositiveNumbers, rest_at, bound_at, LowerBound, UpperBound, IsPoint, IsSatisfied}
use Rattle.ae_base.proofs.Tests.{true_false}
use Rattle.ae_rows.proofs.Choosing.{above_lower, below_upper}

pub positive_nonzero : (c : ℚ) → is_positive c ≡ true → ¬ (c ≡ zero_ℚ)
positive_nonzero c p e = true_false (sym p ∙ ap is_positive e ∙ positive_zero)

negative_nonzero : (c : ℚ) → is_positive (neg_ℚ c) ≡ true → ¬ (c ≡ zero_ℚ)
negative_nonzero c p e = true_false (sym p ∙ ap is_positive (ap neg_ℚ e ∙ neg_zero_q) ∙ positive_zero)

-- a product with an inverse, undone
undo : (c x : ℚ) → ¬ (c ≡ zero_ℚ) → (x *ℚ inverse_ℚ c) *ℚ c ≡ x
undo c x n = mul_assoc_q x (inverse_ℚ c) c ∙ ap (λ t. x *ℚ t) (mul_comm_q (inverse_ℚ c) c ∙ times_inverse c n) ∙ one_mul_q' x

pub both_positive : (x y : ℚ) → is_positive x ≡ true → is_positive y ≡ true → is_positive (x *ℚ y) ≡ true
both_positive x y p q = positive_product x y q ∙ p

-- ---- one name apart
pub split : (e : ℕ → ℚ) (n : ℕ) (f : Form ℕ) → value e one_ℚ f ≡ factor_at n f *ℚ e n +ℚ rest_at e n f
split e n f = ap (λ t. t +ℚ one_ℚ *ℚ f.constant) (apart_form ℕ_discrete e n f.parts) ∙ add_assoc_q _ _ _

above_bound : (c v r : ℚ) → ¬ (c ≡ zero_ℚ) → (v +ℚ neg_ℚ (neg_ℚ r *ℚ inverse_ℚ c)) *ℚ c ≡ c *ℚ v +ℚ r
above_bound c v r n =
    let b = neg_ℚ r *ℚ inverse_ℚ c in
    let e : b *ℚ c ≡ neg_ℚ r = undo c (neg_ℚ r) n in
    add_mul_q v (neg_ℚ b) c ∙ (λ i. mul_comm_q v c i +ℚ neg_mul_q b c i) ∙ ap (λ t. c *ℚ v +ℚ neg_ℚ t) e ∙ ap (λ t. c *ℚ v +ℚ t) (neg_neg_q r)

below_bound : (c v r : ℚ) → ¬ (c ≡ zero_ℚ) → (neg_ℚ r *ℚ inverse_ℚ c +ℚ neg_ℚ v) *ℚ neg_ℚ c ≡ c *ℚ v +ℚ r
below_bound c v r n = turned (neg_ℚ r *ℚ inverse_ℚ c) v c ∙ above_bound c v r n
  where
    turned : (b v c : ℚ) → (b +ℚ neg_ℚ v) *ℚ neg_ℚ c ≡ (v +ℚ neg_ℚ b) *ℚ c
    turned b v c = simp field

pub positive_above : (e : ℕ → ℚ) (n : ℕ) (f : Form ℕ) → is_positive (factor_at n f) ≡ true → is_below (bound_at e n f) (e n) ≡ true → is_positive (value e one_ℚ f) ≡ true
positive_above e n f p b =
    ap is_positive (split e n f ∙ sym (above_bound (factor_at n f) (e n) (rest_at e n f) (positive_nonzero (factor_at n f) p))) ∙ both_positive _ (factor_at n f) b p

pub positive_below : (e : ℕ → ℚ) (n : ℕ) (f : Form ℕ) → is_positive (neg_ℚ (factor_at n f)) ≡ true → is_below (e n) (bound_at e n f) ≡ true → is_positive (value e one_ℚ f) ≡ true
positive_below e n f p b =
    ap is_positive (split e n f ∙ sym (below_bound (factor_at n f) (e n) (rest_at e n f) (negative_nonzero (factor_at n f) p))) ∙ both_positive _ (neg_ℚ (factor_at n f)) b p

-- ---- the bounds of two forms of which the combination is positive
crossed : (c d v r s : ℚ) → neg_ℚ d *ℚ (c *ℚ v +ℚ r) +ℚ c *ℚ (d *ℚ v +ℚ s) ≡ neg_ℚ d *ℚ r +ℚ c *ℚ s
crossed c d v r s = simp field

bounds_cross : (c d r s : ℚ) → ¬ (c ≡ zero_ℚ) → ¬ (d ≡ zero_ℚ)
    → (neg_ℚ s *ℚ inverse_ℚ d +ℚ neg_ℚ (neg_ℚ r *ℚ inverse_ℚ c)) *ℚ (neg_ℚ d *ℚ c) ≡ neg_ℚ d *ℚ r +ℚ c *ℚ s
bounds_cross c d r s m n =
    regroup (neg_ℚ s *ℚ inverse_ℚ d) (neg_ℚ r *ℚ inverse_ℚ c) c d ∙ (λ i. c *ℚ neg_ℚ (undo d (neg_ℚ s) n i) +ℚ d *ℚ undo c (neg_ℚ r) m i) ∙ finish c d r s
  where
    regroup : (x y c d : ℚ) → (x +ℚ neg_ℚ y) *ℚ (neg_ℚ d *ℚ c) ≡ c *ℚ neg_ℚ (x *ℚ d) +ℚ d *ℚ (y *ℚ c)
    regroup x y c d = simp field

    finish : (c d r s : ℚ) → c *ℚ neg_ℚ (neg_ℚ s) +ℚ d *ℚ neg_ℚ r ≡ neg_ℚ d *ℚ r +ℚ c *ℚ s
    finish c d r s = simp field

pub value_combination : (e : ℕ → ℚ) (n : ℕ) (p q : Form ℕ)
    → value e one_ℚ (combination n p q) ≡ neg_ℚ (factor_at n q) *ℚ rest_at e n p +ℚ factor_at n p *ℚ rest_at e n q
value_combination e n p q =
    value-plus e one_ℚ (scale (neg_ℚ (factor_at n q)) p) (scale (factor_at n p) q)
    ∙ (λ i. value-scale e one_ℚ (neg_ℚ (factor_at n q)) p i +ℚ value-scale e one_ℚ (factor_at n p) q i)
    ∙ (λ i. neg_ℚ (factor_at n q) *ℚ split e n p i +ℚ factor_at n p *ℚ split e n q i)
    ∙ crossed (factor_at n p) (factor_at n q) (e n) (rest_at e n p) (rest_at e n q)

pub bounds_apart : (e : ℕ → ℚ) (n : ℕ) (p q : Form ℕ) → is_positive (factor_at n p) ≡ true → is_positive (neg_ℚ (factor_at n q)) ≡ true
    → is_positive (value e one_ℚ (combination n p q)) ≡ true → is_below (bound_at e n p) (bound_at e n q) ≡ true
bounds_apart e n p q a b h =
    let c = factor_at n p in
    let d = factor_at n q in
    let both : is_positive (neg_ℚ d *ℚ c) ≡ true = both_positive (neg_ℚ d) c b a in
    sym (positive_product (bound_at e n q +ℚ neg_ℚ (bound_at e n p)) (neg_ℚ d *ℚ c) both)
    ∙ ap is_positive (bounds_cross c d (rest_at e n p) (rest_at e n q) (positive_nonzero c a) (negative_nonzero d b) ∙ sym (value_combination e n p q))
    ∙ h

-- ---- largest names
pub factor_combination : (n : ℕ) (p q : Form ℕ) (k : ℕ) → factor_at k (combination n p q) ≡ neg_ℚ (factor_at n q) *ℚ factor_at k p +ℚ factor_at n p *ℚ factor_at k q
factor_combination n p q k =
    factor_in-append ℕ_discrete (scale (neg_ℚ (factor_at n q)) p).parts (scale (factor_at n p) q).parts k
    ∙ (λ i. factor_in-scale ℕ_discrete (neg_ℚ (factor_at n q)) p.parts k i +ℚ factor_in-scale ℕ_discrete (factor_at n p) q.parts k i)

cancels : (c d : ℚ) → neg_ℚ d *ℚ c +ℚ c *ℚ d ≡ zero_ℚ
cancels c d = simp field

vanish : (c d : ℚ) → neg_ℚ d *ℚ zero_ℚ +ℚ c *ℚ zero_ℚ ≡ zero_ℚ
vanish c d = simp field

data AtLeast (n k : ℕ) : Type 0 where
  same : n ≡ k → AtLeast n k
  more : suc n ≤ k → AtLeast n k

at_least : (n k : ℕ) → n ≤ k → AtLeast n k
at_least zero zero h = same refl
at_least zero (suc k) h = more (omega arith)
at_least (suc n) zero h = absurd (omega arith)
at_least (suc n) (suc k) h = raised (at_least n k (omega arith))
  where
    raised : AtLeast n k → AtLeast (suc n) (suc k)
    raised (same e) = same (ap suc e)
    raised (more l) = more (omega arith)

-- the combination has no factor from its name on
pub over_combination : (n : ℕ) (p q : Form ℕ) → IsOver (suc n) p → IsOver (suc n) q → IsOver n (combination n p q)
over_combination n p q a b = record { absent = λ k h. factor_combination n p q k ∙ by_case k (at_least n k h) }
  where
    by_case : (k : ℕ) → AtLeast n k → neg_ℚ (factor_at n q) *ℚ factor_at k p +ℚ factor_at n p *ℚ factor_at k q ≡ zero_ℚ
    by_case k (same e) = subst (λ j. neg_ℚ (factor_at n q) *ℚ factor_at j p +ℚ factor_at n p *ℚ factor_at j q ≡ zero_ℚ) e (cancels (factor_at n p) (factor_at n q))
    by_case k (more l) = (λ i. neg_ℚ (factor_at n q) *ℚ a.absent k l i +ℚ factor_at n p *ℚ b.absent k l i) ∙ vanish (factor_at n p) (factor_at n q)

-- a multiple has no more names
over_multiple : (n : ℕ) (a : ℚ) (f r : Form ℕ) → IsOver n f → SameForm ℕ_discrete (scale a f) r → IsOver n r
over_multiple n a f r o s = record { absent = λ k h. sym (s.factors k) ∙ factor_in-scale ℕ_discrete a f.parts k ∙ ap (λ t. a *ℚ t) (o.absent k h) ∙ mul_zero_q a }

key_bound : List (ℕ × ℚ) → ℕ
key_bound [] = 0
key_bound (p ∷ ps) = suc p.0 + key_bound ps

no_factor : (ps : List (ℕ × ℚ)) (k : ℕ) → key_bound ps ≤ k → factor_in ℕ_discrete ps k ≡ zero_ℚ
unfolding key_bound
no_factor [] k h = refl
no_factor (p ∷ ps) k h = pick_no (ℕ_discrete p.0 k) _ _ (λ e. omega (arith, h, e)) ∙ no_factor ps k (omega (arith, h))

over_its_keys : (f : Form ℕ) → IsOver (key_bound f.parts) f
over_its_keys f = record { absent = λ k h. no_factor f.parts k h }

still_positive : (x t : ℚ) → is_positive x ≡ true → is_positive (neg_ℚ t) ≡ false → is_positive (x +ℚ t) ≡ true
still_positive x t p u = by_sign (is_positive t) refl
  where
    by_sign : (b : Bool) → is_positive t ≡ b → is_positive (x +ℚ t) ≡ true
    by_sign true h = positive_sum x t p h
    by_sign false h = ap (λ y. is_positive (x +ℚ y)) (neither_positive t h u) ∙ ap is_positive (add_zero_q x) ∙ p

-- ---- the induction on names
value_constant : (e : ℕ → ℚ) (f : Form ℕ) → IsOver 0 f → value e one_ℚ f ≡ f.constant
value_constant e f o =
    value-same ℕ_discrete e one_ℚ f (record { parts = []; constant = f.constant }) (record { factors = λ k. o.absent k (omega arith); constants = refl })
    ∙ zero_add_q _ ∙ one_mul_q _

module _ (R : Form ℕ → Type 0) (e : ℕ → ℚ) (closed : IsClosed R) (numbers : HasPositiveNumbers R) (point : IsPoint R e) where
  Done : ℕ → Type 0
  Done n = (f : Form ℕ) → R f → IsOver n f → is_positive (value e one_ℚ f) ≡ true

  covered_positive : (n : ℕ) → Done n → (f : Form ℕ) → IsOver n f → IsCovered R f → is_positive (value e one_ℚ f) ≡ true
  unfolding Done
  covered_positive n done f o (multiple a p r m s) =
      let same : a *ℚ value e one_ℚ f ≡ value e one_ℚ r = sym (value-scale e one_ℚ a f) ∙ value-same ℕ_discrete e one_ℚ (scale a f) r s in
      sym (positive_product (value e one_ℚ f) a p) ∙ ap is_positive (mul_comm_q (value e one_ℚ f) a ∙ same) ∙ done r m (over_multiple n a f r o s)
  covered_positive n done f o (weaker a p t u r m s) =
      let over : IsOver n r = record {
        absent = λ k h. sym (add_zero_q (factor_at k r)) ∙ sym (factor_in-append ℕ_discrete r.parts [] k) ∙ sym (s.factors k) ∙ factor_in-scale ℕ_discrete a f.parts k ∙ ap (λ x. a *ℚ x)
            (o.absent k h) ∙ mul_zero_q a;
      } in
      let sum : value e one_ℚ (plus r (constant_form t)) ≡ value e one_ℚ r +ℚ t = value-plus e one_ℚ r (constant_form t) ∙ ap (λ x. value e one_ℚ r +ℚ x) (value-number e one_ℚ t ∙ one_mul_q t) in
      let same : a *ℚ value e one_ℚ f ≡ value e one_ℚ r +ℚ t = sym (value-scale e one_ℚ a f) ∙ value-same ℕ_discrete e one_ℚ (scale a f) (plus r (constant_form t)) s ∙ sum in
      sym (positive_product (value e one_ℚ f) a p) ∙ ap is_positive (mul_comm_q (value e one_ℚ f) a ∙ same) ∙ still_positive (value e one_ℚ r) t (done r m over) u
  covered_positive n done f o (number z p) = ap is_positive (value_constant e f z) ∙ p

  apart_at : (n : ℕ) → Done n → (x y : ℚ) → LowerBound R e n x → UpperBound R e n y → is_below x y ≡ true
  apart_at n done x y (p, rp, lp, ep) (q, rq, uq, eq) =
      let c : is_positive (value e one_ℚ (combination n p q)) ≡ true =
      covered_positive n done (combination n p q) (over_combination n p q lp.largest uq.largest) (closed n p q rp rq lp uq) in
      (λ i. is_below (sym ep i) (sym eq i)) ∙ bounds_apart e n p q lp.sign uq.sign c

  lower_positive : (n : ℕ) → Done n → (f : Form ℕ) → R f → IsLower n f → is_positive (value e one_ℚ f) ≡ true
  lower_positive n done f r l =
      positive_above e n f l.sign (above_lower (LowerBound R e n) (UpperBound R e n) (e n) (point.chosen n) (apart_at n done) (bound_at e n f) (f, r, l, refl))

  upper_positive : (n : ℕ) → Done n → (f : Form ℕ) → R f → IsUpper n f → is_positive (value e one_ℚ f) ≡ true
  upper_positive n done f r l =
      positive_below e n f l.sign (below_upper (LowerBound R e n) (UpperBound R e n) (e n) (point.chosen n) (apart_at n done) (bound_at e n f) (f, r, l, refl))

  narrower : (n : ℕ) (f : Form ℕ) → IsOver (suc n) f → factor_at n f ≡ zero_ℚ → IsOver n f
  narrower n f o z = record { absent = λ k h. by_case k (at_least n k h) }
    where
      by_case : (k : ℕ) → AtLeast n k → factor_at k f ≡ zero_ℚ
      by_case k (same s) = subst (λ j. factor_at j f ≡ zero_ℚ) s z
      by_case k (more l) = o.absent k l

  all_done : (n : ℕ) → Done n
  unfolding Done
  all_done zero f r o = ap is_positive (value_constant e f o) ∙ numbers f r o
  all_done (suc n) f r o = by_sign (is_positive (factor_at n f)) (is_positive (neg_ℚ (factor_at n f))) refl refl (all_done n)
    where
      by_sign : (s t : Bool) → is_positive (factor_at n f) ≡ s → is_positive (neg_ℚ (factor_at n f)) ≡ t → Done n → is_positive (value e one_ℚ f) ≡ true
      by_sign true t p q done = lower_positive n done f r (record { largest = o; sign = p })
      by_sign false true p q done = upper_positive n done f r (record { largest = o; sign = q })
      by_sign false false p q done = done f r (narrower n f o (neither_positive (factor_at n f) p q))

pub elimination : (R : Form ℕ → Type 0) (e : ℕ → ℚ) → IsClosed R → HasPositiveNumbers R → IsPoint R e → IsSatisfied R e
unfolding Done
elimination R e closed numbers point f r = all_done R e closed numbers point (key_bound f.parts) f r (over_its_keys f)

-- so is each form that the set covers: multiples of its forms, and forms that a rounded one is below
pub covered_forms : (R : Form ℕ → Type 0) (e : ℕ → ℚ) → IsClosed R → HasPositiveNumbers R → IsPoint R e → (f : Form ℕ) → IsCovered R f → is_positive (value e one_ℚ f) ≡ true
unfolding Done
covered_forms R e closed numbers point f c = covered_positive R e closed numbers point (key_bound f.parts) (all_done R e closed numbers point (key_bound f.parts)) f (over_its_keys f) c
