-- The laws of linear forms.
use Rattle.std.specs.Prelude.{true, false, ℕ, zero, suc, List, [], ◌∷◌, ◌++◌, ◌≡◌, map, length, ◌≤◌}
use mathlib.Core.Path.{refl, sym, ap, ◌∙◌, subst}
use native.Mathlib.Omega.{arith}
use Rattle.ae_base.specs.Decided.{pick}
use Rattle.ae_base.proofs.Decided.{pick_yes, pick_no}
use Rattle.std.proofs.Common.{true≢false}
use Rattle.ae_math.specs.Fractions.{ℚ, ℚ_discrete, zero_ℚ, one_ℚ, neg_ℚ, ◌+ℚ◌, ◌*ℚ◌}
use Rattle.ae_math.specs.Forms.{Form, number, single, plus, scale, minus, is_zero, factor_in, factor, SameForm, without, substitute, sum_of, value}
use Rattle.ae_math.proofs.FractionLaws.{field, add_neg_q, add_assoc_q, add_left_comm_q, zero_add_q, add_zero_q, mul_add_q, add_mul_q, add_comm_q, mul_assoc_q, one_mul_q, mul_zero_q, zero_mul_q, neg_mul_q, same_from_zero_q, cancel_q}

-- minus one times a number
pub minus_one : (x : ℚ) → neg_ℚ one_ℚ *ℚ x ≡ neg_ℚ x
minus_one x = neg_mul_q one_ℚ x ∙ ap neg_ℚ (one_mul_q x)

-- ---- the test of a factor
pub is_zero_yes : (x : ℚ) → x ≡ zero_ℚ → is_zero x ≡ true
is_zero_yes x e = pick_yes (ℚ_discrete x zero_ℚ) true false e

pub is_zero_no : (x : ℚ) → ¬ (x ≡ zero_ℚ) → is_zero x ≡ false
is_zero_no x n = pick_no (ℚ_discrete x zero_ℚ) true false n

pub zero_is : (x : ℚ) → is_zero x ≡ true → x ≡ zero_ℚ
zero_is x e = elim (ℚ_discrete x zero_ℚ) [ yes p ↦ p | no n ↦ absurd (true≢false (sym e ∙ is_zero_no x n)) ]

pub zero_is_not : (x : ℚ) → is_zero x ≡ false → ¬ (x ≡ zero_ℚ)
zero_is_not x e p = true≢false (sym (is_zero_yes x p) ∙ e)

apart_yes : (a b c d : ℚ) → a *ℚ b +ℚ (c *ℚ b +ℚ d) ≡ (a +ℚ c) *ℚ b +ℚ d
apart_yes a b c d = simp field

-- ---- the value of sums and multiples
pub sum_of-append : {K : Type 0} (g : K → ℚ) (ps qs : List (K × ℚ)) → sum_of g (ps ++ qs) ≡ sum_of g ps +ℚ sum_of g qs
sum_of-append g [] qs = sym (zero_add_q _)
sum_of-append g (p ∷ ps) qs = ap (λ x. p.1 *ℚ g p.0 +ℚ x) (sum_of-append g ps qs) ∙ sym (add_assoc_q _ _ _)

pub sum_of-scale : {K : Type 0} (g : K → ℚ) (x : ℚ) (ps : List (K × ℚ)) → sum_of g (map (λ p. (p.0, x *ℚ p.1)) ps) ≡ x *ℚ sum_of g ps
sum_of-scale g x [] = sym (mul_zero_q x)
sum_of-scale g x (p ∷ ps) = (λ i. mul_assoc_q x p.1 (g p.0) i +ℚ sum_of-scale g x ps i) ∙ sym (mul_add_q x (p.1 *ℚ g p.0) (sum_of g ps))

mixed_sum : (p q u x y : ℚ) → p +ℚ q +ℚ u *ℚ (x +ℚ y) ≡ p +ℚ u *ℚ x +ℚ (q +ℚ u *ℚ y)
mixed_sum p q u x y = simp field

mixed_multiple : (p u x y : ℚ) → x *ℚ p +ℚ u *ℚ (x *ℚ y) ≡ x *ℚ (p +ℚ u *ℚ y)
mixed_multiple p u x y = simp field

pub value-plus : {K : Type 0} (g : K → ℚ) (u : ℚ) (a b : Form K) → value g u (plus a b) ≡ value g u a +ℚ value g u b
value-plus g u a b =
    ap (λ x. x +ℚ u *ℚ (a.constant +ℚ b.constant)) (sum_of-append g a.parts b.parts) ∙ mixed_sum (sum_of g a.parts) (sum_of g b.parts) u a.constant b.constant

pub value-scale : {K : Type 0} (g : K → ℚ) (u x : ℚ) (a : Form K) → value g u (scale x a) ≡ x *ℚ value g u a
value-scale g u x a = ap (λ y. y +ℚ u *ℚ (x *ℚ a.constant)) (sum_of-scale g x a.parts) ∙ mixed_multiple (sum_of g a.parts) u x a.constant

pub value-number : {K : Type 0} (g : K → ℚ) (u x : ℚ) → value g u (number x) ≡ u *ℚ x
value-number g u x = zero_add_q _

pub value-single : {K : Type 0} (g : K → ℚ) (u : ℚ) (k : K) → value g u (single k) ≡ g k
value-single g u k = (λ i. (one_mul_q (g k) i +ℚ zero_ℚ) +ℚ mul_zero_q u i) ∙ add_zero_q _ ∙ add_zero_q _

module _ {K : Type 0} (same : Discrete K) where
  pub factor_in-append : (ps qs : List (K × ℚ)) (t : K) → factor_in same (ps ++ qs) t ≡ factor_in same ps t +ℚ factor_in same qs t
  factor_in-append [] qs t = sym (zero_add_q _)
  factor_in-append (p ∷ ps) qs t =
      elim (same p.0 t) as (λ d. pick d (p.1 +ℚ factor_in same (ps ++ qs) t) (factor_in same (ps ++ qs) t) ≡ pick d (p.1 +ℚ factor_in same ps t) (factor_in same ps t) +ℚ factor_in same qs t) [
        | yes e ↦ ap (λ x. p.1 +ℚ x) (factor_in-append ps qs t) ∙ sym (add_assoc_q _ _ _)
        | no n ↦ factor_in-append ps qs t
      ]

  pub factor_in-scale : (x : ℚ) (ps : List (K × ℚ)) (t : K) → factor_in same (map (λ p. (p.0, x *ℚ p.1)) ps) t ≡ x *ℚ factor_in same ps t
  factor_in-scale x [] t = sym (mul_zero_q x)
  factor_in-scale x (p ∷ ps) t =
      let q : List (K × ℚ) = map (λ p. (p.0, x *ℚ p.1)) ps in
      elim (same p.0 t) as (λ d. pick d (x *ℚ p.1 +ℚ factor_in same q t) (factor_in same q t) ≡ x *ℚ pick d (p.1 +ℚ factor_in same ps t) (factor_in same ps t)) [
        | yes e ↦ ap (λ y. x *ℚ p.1 +ℚ y) (factor_in-scale x ps t) ∙ sym (mul_add_q x _ _)
        | no n ↦ factor_in-scale x ps t
      ]

  length-without : (t : K) (ps : List (K × ℚ)) → length (without same t ps) ≤ length ps
  length-without t [] = omega arith
  length-without t (p ∷ ps) =
      let ih = length-without t ps in
      elim (same p.0 t) as (λ d. length {A = K × ℚ} (pick d (without same t ps) (p ∷ without same t ps)) ≤ suc (length ps)) [ yes e ↦ omega arith | no n ↦ omega arith ]

  -- the part of one key, and the rest
  pub apart : (g : K → ℚ) (t : K) (ps : List (K × ℚ)) → sum_of g ps ≡ factor_in same ps t *ℚ g t +ℚ sum_of g (without same t ps)
  apart g t [] = sym (ap (λ x. x +ℚ zero_ℚ) (zero_mul_q (g t)) ∙ zero_add_q zero_ℚ)
  apart g t (p ∷ ps) =
      elim (same p.0 t) as (λ d. p.1 *ℚ g p.0 +ℚ sum_of g ps ≡ pick d (p.1 +ℚ factor_in same ps t) (factor_in same ps t) *ℚ g t +ℚ sum_of g (pick d (without same t ps) (p ∷ without same t ps))) [
        | yes e ↦ (λ i. p.1 *ℚ g (e i) +ℚ apart g t ps i) ∙ apart_yes p.1 (g t) (factor_in same ps t) (sum_of g (without same t ps))
        | no n ↦ ap (λ x. p.1 *ℚ g p.0 +ℚ x) (apart g t ps) ∙ add_left_comm_q (p.1 *ℚ g p.0) (factor_in same ps t *ℚ g t) (sum_of g (without same t ps))
      ]

  -- what is taken out has no factor, and the others keep theirs
  pub factor_in-without_same : (t : K) (ps : List (K × ℚ)) → factor_in same (without same t ps) t ≡ zero_ℚ
  factor_in-without_same t [] = refl
  factor_in-without_same t (p ∷ ps) =
      let ih = factor_in-without_same t ps in
      elim (same p.0 t) as (λ d. factor_in same (pick d (without same t ps) (p ∷ without same t ps)) t ≡ zero_ℚ) [
        | yes e ↦ ih
        | no n ↦ pick_no (same p.0 t) _ _ n ∙ ih
      ]

  pub factor_in-without_other : (t u : K) (ps : List (K × ℚ)) → ¬ (t ≡ u) → factor_in same (without same t ps) u ≡ factor_in same ps u
  factor_in-without_other t u [] m = refl
  factor_in-without_other t u (p ∷ ps) m =
      let ih = factor_in-without_other t u ps m in
      elim (same p.0 t) as (λ d. factor_in same (pick d (without same t ps) (p ∷ without same t ps)) u ≡ factor_in same (p ∷ ps) u) [
        | yes e ↦ ih ∙ sym (pick_no (same p.0 u) _ _ (λ f. m (sym e ∙ f)))
        | no n ↦ λ i. pick (same p.0 u) (p.1 +ℚ ih i) (ih i)
      ]

  without_head : (p : K × ℚ) (ps : List (K × ℚ)) → without same p.0 (p ∷ ps) ≡ without same p.0 ps
  without_head p ps = pick_yes (same p.0 p.0) _ _ refl

  zero_sum : (g : K → ℚ) (n : ℕ) (ps : List (K × ℚ)) → length ps ≤ n → ((t : K) → factor_in same ps t ≡ zero_ℚ) → sum_of g ps ≡ zero_ℚ
  zero_sum g n [] h z = refl
  zero_sum g zero (p ∷ ps) h z = absurd (omega arith)
  zero_sum g (suc n) (p ∷ ps) h z =
      let t = p.0 in
      let rest = without same t (p ∷ ps) in
      let e : length rest ≡ length (without same t ps) = ap length (without_head p ps) in
      let l = length-without t ps in
      let short : length rest ≤ n = omega arith in
      let none : (u : K) → factor_in same rest u ≡ zero_ℚ =
      λ u. elim (same t u) [ yes e ↦ subst (λ v. factor_in same rest v ≡ zero_ℚ) e (factor_in-without_same t (p ∷ ps)) | no m ↦ factor_in-without_other t u (p ∷ ps) m ∙ z u ] in
      apart g t (p ∷ ps) ∙ (λ i. z t i *ℚ g t +ℚ zero_sum g n rest short none i) ∙ ap (λ x. x +ℚ zero_ℚ) (zero_mul_q (g t)) ∙ zero_add_q zero_ℚ

  -- forms with the same factors have the same value
  pub value-same : (g : K → ℚ) (u : ℚ) (a b : Form K) → SameForm same a b → value g u a ≡ value g u b
  value-same g u a b s =
      let qs = map (λ p. (p.0, neg_ℚ one_ℚ *ℚ p.1)) b.parts in
      let none : (t : K) → factor_in same (a.parts ++ qs) t ≡ zero_ℚ =
      λ t. factor_in-append a.parts qs t ∙ (λ i. s.factors t i +ℚ factor_in-scale (neg_ℚ one_ℚ) b.parts t i) ∙ ap (λ x. factor same b t +ℚ x) (minus_one (factor same b t)) ∙ add_neg_q (factor same b t) in
      let zero' : sum_of g (a.parts ++ qs) ≡ zero_ℚ = zero_sum g (length (a.parts ++ qs)) (a.parts ++ qs) (omega arith) none in
      let gone : sum_of g a.parts +ℚ neg_ℚ (sum_of g b.parts) ≡ zero_ℚ =
      ap (λ x. sum_of g a.parts +ℚ x) (sym (minus_one (sum_of g b.parts)) ∙ sym (sum_of-scale g (neg_ℚ one_ℚ) b.parts)) ∙ sym (sum_of-append g a.parts qs) ∙ zero' in
      let even : sum_of g a.parts ≡ sum_of g b.parts = same_from_zero_q _ _ gone in
      λ i. even i +ℚ u *ℚ s.constants i

  -- ---- sameness
  pub same_refl : (f : Form K) → SameForm same f f
  same_refl f = record { factors = λ t. refl; constants = refl }

  pub same_sym : (f g : Form K) → SameForm same f g → SameForm same g f
  same_sym f g s = record { factors = λ t. sym (s.factors t); constants = sym s.constants }

  pub same_trans : (f g h : Form K) → SameForm same f g → SameForm same g h → SameForm same f h
  same_trans f g h s r = record { factors = λ t. s.factors t ∙ r.factors t; constants = s.constants ∙ r.constants }

  pub plus-same : (f f' g g' : Form K) → SameForm same f f' → SameForm same g g' → SameForm same (plus f g) (plus f' g')
  plus-same f f' g g' s r = record {
    factors = λ t. factor_in-append f.parts g.parts t ∙ (λ i. s.factors t i +ℚ r.factors t i) ∙ sym (factor_in-append f'.parts g'.parts t);
    constants = λ i. s.constants i +ℚ r.constants i;
  }

  pub scale-same : (a : ℚ) (f f' : Form K) → SameForm same f f' → SameForm same (scale a f) (scale a f')
  scale-same a f f' s = record {
    factors = λ t. factor_in-scale a f.parts t ∙ ap (λ x. a *ℚ x) (s.factors t) ∙ sym (factor_in-scale a f'.parts t);
    constants = ap (λ x. a *ℚ x) s.constants;
  }

  -- ---- sums and multiples
  pub plus_comm : (f g : Form K) → SameForm same (plus f g) (plus g f)
  plus_comm f g = record {
    factors = λ t. factor_in-append f.parts g.parts t ∙ add_comm_q _ _ ∙ sym (factor_in-append g.parts f.parts t);
    constants = add_comm_q _ _;
  }

  pub plus_assoc : (f g h : Form K) → SameForm same (plus (plus f g) h) (plus f (plus g h))
  plus_assoc f g h = record {
    factors = λ t.
        factor_in-append (f.parts ++ g.parts) h.parts t ∙ ap (λ x. x +ℚ factor same h t) (factor_in-append f.parts g.parts t) ∙ add_assoc_q _ _ _
        ∙ ap (λ x. factor same f t +ℚ x) (sym (factor_in-append g.parts h.parts t)) ∙ sym (factor_in-append f.parts (g.parts ++ h.parts) t);
    constants = add_assoc_q _ _ _;
  }

  pub zero_plus : (f : Form K) → SameForm same (plus (number zero_ℚ) f) f
  zero_plus f = record { factors = λ t. refl; constants = zero_add_q _ }

  pub scale_zero : (f : Form K) → SameForm same (scale zero_ℚ f) (number zero_ℚ)
  scale_zero f = record { factors = λ t. factor_in-scale zero_ℚ f.parts t ∙ zero_mul_q _; constants = zero_mul_q _ }

  pub scale_one : (f : Form K) → SameForm same (scale one_ℚ f) f
  scale_one f = record { factors = λ t. factor_in-scale one_ℚ f.parts t ∙ one_mul_q _; constants = one_mul_q _ }

  pub scale_scale : (a b : ℚ) (f : Form K) → SameForm same (scale a (scale b f)) (scale (a *ℚ b) f)
  scale_scale a b f = record {
    factors = λ t.
        factor_in-scale a (map (λ p. (p.0, b *ℚ p.1)) f.parts) t ∙ ap (λ x. a *ℚ x) (factor_in-scale b f.parts t) ∙ sym (mul_assoc_q a b (factor same f t))
        ∙ sym (factor_in-scale (a *ℚ b) f.parts t);
    constants = sym (mul_assoc_q a b f.constant);
  }

  pub scale_plus : (a : ℚ) (f g : Form K) → SameForm same (scale a (plus f g)) (plus (scale a f) (scale a g))
  scale_plus a f g = record {
    factors = λ t.
        factor_in-scale a (f.parts ++ g.parts) t ∙ ap (λ x. a *ℚ x) (factor_in-append f.parts g.parts t) ∙ mul_add_q a _ _
        ∙ (λ i. sym (factor_in-scale a f.parts t) i +ℚ sym (factor_in-scale a g.parts t) i)
        ∙ sym (factor_in-append (map (λ p. (p.0, a *ℚ p.1)) f.parts) (map (λ p. (p.0, a *ℚ p.1)) g.parts) t);
    constants = mul_add_q a _ _;
  }

  pub plus_scale : (a b : ℚ) (f : Form K) → SameForm same (scale (a +ℚ b) f) (plus (scale a f) (scale b f))
  plus_scale a b f = record {
    factors = λ t.
        factor_in-scale (a +ℚ b) f.parts t ∙ add_mul_q a b _ ∙ (λ i. sym (factor_in-scale a f.parts t) i +ℚ sym (factor_in-scale b f.parts t) i)
        ∙ sym (factor_in-append (map (λ p. (p.0, a *ℚ p.1)) f.parts) (map (λ p. (p.0, b *ℚ p.1)) f.parts) t);
    constants = add_mul_q a b _;
  }

  pub minus_self : (f : Form K) → SameForm same (minus f f) (number zero_ℚ)
  minus_self f = record {
    factors = λ t.
        factor_in-append f.parts (map (λ p. (p.0, neg_ℚ one_ℚ *ℚ p.1)) f.parts) t ∙ ap (λ x. factor same f t +ℚ x) (factor_in-scale (neg_ℚ one_ℚ) f.parts t ∙ minus_one _) ∙ add_neg_q _;
    constants = ap (λ x. f.constant +ℚ x) (minus_one f.constant) ∙ add_neg_q f.constant;
  }

  pub scale_cancel : (a : ℚ) (f g : Form K) → ¬ (a ≡ zero_ℚ) → SameForm same (scale a f) (scale a g) → SameForm same f g
  scale_cancel a f g n s = record {
    factors = λ t. cancel_q a _ _ n (sym (factor_in-scale a f.parts t) ∙ s.factors t ∙ factor_in-scale a g.parts t);
    constants = cancel_q a _ _ n s.constants;
  }

  -- ---- substitution
  pub substitute_there : (f : Form K) (k : K) (g : Form K) → factor same (substitute same f k g) k ≡ factor same f k *ℚ factor same g k
  substitute_there f k g =
      factor_in-append (without same k f.parts) (map (λ p. (p.0, factor same f k *ℚ p.1)) g.parts) k
      ∙ (λ i. factor_in-without_same k f.parts i +ℚ factor_in-scale (factor same f k) g.parts k i) ∙ zero_add_q _

  pub substitute_elsewhere : (f : Form K) (k : K) (g : Form K) (t : K) → ¬ (k ≡ t) → factor same (substitute same f k g) t ≡ factor same f t +ℚ factor same f k *ℚ factor same g t
  substitute_elsewhere f k g t m =
      factor_in-append (without same k f.parts) (map (λ p. (p.0, factor same f k *ℚ p.1)) g.parts) t
      ∙ (λ i. factor_in-without_other k t f.parts m i +ℚ factor_in-scale (factor same f k) g.parts t i)

  -- two forms agree after substitutions for one key where they do at that key and at each other one
  pub by_key : (k : K) (f g : Form K) → factor same f k ≡ factor same g k → ((t : K) → ¬ (k ≡ t) → factor same f t ≡ factor same g t) → f.constant ≡ g.constant → SameForm same f g
  by_key k f g here there constants = record {
    factors = λ t. elim (same k t) [ yes e ↦ subst (λ v. factor same f v ≡ factor same g v) e here | no m ↦ there t m ];
    constants = constants;
  }

  pub substitute-same : (f f' : Form K) (k : K) (g g' : Form K) → SameForm same f f' → SameForm same g g' → SameForm same (substitute same f k g) (substitute same f' k g')
  substitute-same f f' k g g' s r =
      by_key k (substitute same f k g) (substitute same f' k g')
      (substitute_there f k g ∙ (λ i. s.factors k i *ℚ r.factors k i) ∙ sym (substitute_there f' k g'))
      (λ t m. substitute_elsewhere f k g t m ∙ (λ i. s.factors t i +ℚ s.factors k i *ℚ r.factors t i) ∙ sym (substitute_elsewhere f' k g' t m))
      (λ i. s.constants i +ℚ s.factors k i *ℚ r.constants i)

  spread : (a b c d x : ℚ) → (a +ℚ b) +ℚ (c +ℚ d) *ℚ x ≡ (a +ℚ c *ℚ x) +ℚ (b +ℚ d *ℚ x)
  spread a b c d x = simp field

  drawn : (a b c x : ℚ) → a *ℚ b +ℚ (a *ℚ c) *ℚ x ≡ a *ℚ (b +ℚ c *ℚ x)
  drawn a b c x = simp field

  pub substitute_plus : (f g : Form K) (k : K) (h : Form K) → SameForm same (substitute same (plus f g) k h) (plus (substitute same f k h) (substitute same g k h))
  substitute_plus f g k h =
      by_key k (substitute same (plus f g) k h) (plus (substitute same f k h) (substitute same g k h))
      (substitute_there (plus f g) k h ∙ ap (λ x. x *ℚ factor same h k) (factor_in-append f.parts g.parts k) ∙ add_mul_q _ _ _
      ∙ (λ i. sym (substitute_there f k h) i +ℚ sym (substitute_there g k h) i) ∙ sym (factor_in-append (substitute same f k h).parts (substitute same g k h).parts k))
      (λ t m. substitute_elsewhere (plus f g) k h t m ∙ (λ i. factor_in-append f.parts g.parts t i +ℚ factor_in-append f.parts g.parts k i *ℚ factor same h t)
      ∙ spread (factor same f t) (factor same g t) (factor same f k) (factor same g k) (factor same h t)
      ∙ (λ i. sym (substitute_elsewhere f k h t m) i +ℚ sym (substitute_elsewhere g k h t m) i) ∙ sym (factor_in-append (substitute same f k h).parts (substitute same g k h).parts t))
      (ap (λ x. (f.constant +ℚ g.constant) +ℚ x *ℚ h.constant) (factor_in-append f.parts g.parts k) ∙ spread f.constant g.constant (factor same f k) (factor same g k) h.constant)

  pub substitute_scale : (a : ℚ) (f : Form K) (k : K) (h : Form K) → SameForm same (substitute same (scale a f) k h) (scale a (substitute same f k h))
  substitute_scale a f k h =
      by_key k (substitute same (scale a f) k h) (scale a (substitute same f k h))
      (substitute_there (scale a f) k h ∙ ap (λ x. x *ℚ factor same h k) (factor_in-scale a f.parts k) ∙ mul_assoc_q a _ _
      ∙ ap (λ x. a *ℚ x) (sym (substitute_there f k h)) ∙ sym (factor_in-scale a (substitute same f k h).parts k))
      (λ t m. substitute_elsewhere (scale a f) k h t m ∙ (λ i. factor_in-scale a f.parts t i +ℚ factor_in-scale a f.parts k i *ℚ factor same h t)
      ∙ drawn a (factor same f t) (factor same f k) (factor same h t)
      ∙ ap (λ x. a *ℚ x) (sym (substitute_elsewhere f k h t m)) ∙ sym (factor_in-scale a (substitute same f k h).parts t))
      (ap (λ x. a *ℚ f.constant +ℚ x *ℚ h.constant) (factor_in-scale a f.parts k) ∙ drawn a f.constant (factor same f k) h.constant)

  -- ---- the factors of differences
  pub minus_factor : (f g : Form K) (k : K) → factor same (minus f g) k ≡ factor same f k +ℚ neg_ℚ one_ℚ *ℚ factor same g k
  minus_factor f g k = factor_in-append f.parts (scale (neg_ℚ one_ℚ) g).parts k ∙ ap (λ y. factor same f k +ℚ y) (factor_in-scale (neg_ℚ one_ℚ) g.parts k)

  -- of a multiple of a key less a form
  pub key_factor : (x t : K) (a : ℚ) (f : Form K) → factor same (scale a (minus (single x) f)) t ≡ a *ℚ (factor same (single x) t +ℚ neg_ℚ one_ℚ *ℚ factor same f t)
  key_factor x t a f = factor_in-scale a (minus (single x) f).parts t ∙ ap (λ y. a *ℚ y) (minus_factor (single x) f t)

  -- ---- a form that is put for a key
  -- the key is gone where the form that is put for it lacks it
  pub substitute_gone : (f : Form K) (k : K) (h : Form K) → factor same h k ≡ zero_ℚ → factor same (substitute same f k h) k ≡ zero_ℚ
  substitute_gone f k h z = substitute_there f k h ∙ ap (λ x. factor same f k *ℚ x) z ∙ mul_zero_q _

  nothing_times : (a c x : ℚ) → c ≡ zero_ℚ → a +ℚ c *ℚ x ≡ a
  nothing_times a c x z = ap (λ y. a +ℚ y *ℚ x) z ∙ ap (λ y. a +ℚ y) (zero_mul_q x) ∙ add_zero_q a

  pub substitute_absent : (f : Form K) (k : K) (h : Form K) → factor same f k ≡ zero_ℚ → SameForm same (substitute same f k h) f
  substitute_absent f k h z =
      by_key k (substitute same f k h) f
      (substitute_there f k h ∙ ap (λ x. x *ℚ factor same h k) z ∙ zero_mul_q _ ∙ sym z)
      (λ t m. substitute_elsewhere f k h t m ∙ nothing_times _ _ _ z)
      (nothing_times _ _ _ z)

  moved : (s u c a x : ℚ) → s +ℚ u *ℚ c +ℚ a *ℚ x ≡ a *ℚ x +ℚ s +ℚ u *ℚ c
  moved s u c a x = simp field

  -- the value stays where the key has the value of the form that is put for it
  pub value-substitute : (e : K → ℚ) (u : ℚ) (f : Form K) (k : K) (h : Form K) → e k ≡ value e u h → value e u (substitute same f k h) ≡ value e u f
  value-substitute e u f k h z =
      let rest : Form K = record { parts = without same k f.parts; constant = f.constant } in
      value-plus e u rest (scale (factor same f k) h) ∙ ap (λ x. value e u rest +ℚ x) (value-scale e u (factor same f k) h ∙ ap (λ x. factor same f k *ℚ x) (sym z))
      ∙ moved (sum_of e (without same k f.parts)) u f.constant (factor same f k) (e k)
      ∙ ap (λ x. x +ℚ u *ℚ f.constant) (sym (apart e k f.parts))
