-- The linear form of a term with terms put for variables. What is constant stays so.
use Rattle.std.specs.Prelude.{ℤ, Bool, true, false, cond, ◌&&◌, List, [], ◌∷◌, ◌≡◌, map}
use Rattle.std.specs.List.{AllByRecursion, list_all}
use mathlib.Core.Path.{refl, sym, ap, ◌∙◌}
use Rattle.ae_math.specs.Fractions.{ℚ, zero_ℚ, one_ℚ, neg_ℚ, inverse_ℚ, ◌+ℚ◌, ◌*ℚ◌, ratio, ℚ_discrete}
use Rattle.ae_math.specs.Forms.{number, single, plus, scale, minus, is_zero, sum_of, value, factor_in}
use Rattle.ae_base.specs.Decided.{pick}
use Rattle.ae_base.proofs.Decided.{pick_yes}
use Rattle.ae_math.proofs.FractionLaws.{zero_add_q, add_zero_q, one_mul_q, one_mul_q', mul_zero_q, zero_mul_q, mul_comm_q, mul_assoc_q}
use Rattle.ae_math.proofs.FormLaws.{value-same, value-plus, value-scale, value-number, value-single}
use Rattle.ae_core.specs.Decided.{Term_discrete}
use Rattle.ae_core.specs.Inner.Induction.{by_terms}
use Rattle.ae_rules.specs.Linear.{Linear, form, applied, times, over, factor_of, is_number}
use Rattle.ae_core.specs.Putting.{put_terms}
use Rattle.ae_rules.proofs.LinearLaws.{form-Apply, form-Bound, form-Num, form-Fresh}
use Rattle.ae_core.proofs.PuttingLaws.{put_num, put_apply}
use Rattle.ae_core.specs.declared.terms.Sort.{Sort}
use Rattle.ae_core.specs.declared.terms.Head.{Head}
use Rattle.ae_core.specs.declared.terms.Head.TheVariants as head
use Rattle.ae_core.specs.declared.terms.Op.TheVariants as op
use Rattle.ae_core.specs.declared.terms.Term.{Term, Bound, Num, Fresh, Apply, Apply'}
use Rattle.ae_evaluation.proofs.Congruence.{constant_form}

-- ---- a form with the value of a constant everywhere is one
indicator : Term → Term → ℚ
indicator t u = pick (Term_discrete u t) one_ℚ zero_ℚ

sum_indicator : (t : Term) (ps : List (Term × ℚ)) → sum_of (indicator t) ps ≡ factor_in Term_discrete ps t
unfolding indicator
sum_indicator t [] = refl
sum_indicator t (p ∷ ps) =
    elim (Term_discrete p.0 t) as
    (λ d. p.1 *ℚ pick d one_ℚ zero_ℚ +ℚ sum_of (indicator t) ps ≡ pick d (p.1 +ℚ factor_in Term_discrete ps t)
    (factor_in Term_discrete ps t)) [
      | yes e ↦ λ i. one_mul_q' p.1 i +ℚ sum_indicator t ps i
      | no n ↦ (λ i. mul_zero_q p.1 i +ℚ sum_indicator t ps i) ∙ zero_add_q (factor_in Term_discrete ps t)
    ]

sum_nothing : (ps : List (Term × ℚ)) → sum_of (λ (u : Term). zero_ℚ) ps ≡ zero_ℚ
sum_nothing [] = refl
sum_nothing (p ∷ ps) = (λ i. mul_zero_q p.1 i +ℚ sum_nothing ps i) ∙ zero_add_q zero_ℚ

all_zero : (G : Term → ℚ) → ((t : Term) → G t ≡ zero_ℚ) → (ps : List (Term × ℚ)) → list_all (λ p. is_zero (G p.0)) ps ≡ true
all_zero G z [] = refl
all_zero G z (p ∷ ps) =
    let e : is_zero (G p.0) ≡ true = pick_yes (ℚ_discrete (G p.0) zero_ℚ) true false (z p.0) in
    λ i. e i && all_zero G z ps i

constant_by_value : (f : Linear) (k : ℚ) → ((e : Term → ℚ) (u : ℚ) → value e u f ≡ u *ℚ k) → (is_number f ≡ true) × (f.constant ≡ k)
constant_by_value f k h =
    let none : (t : Term) → factor_of f t ≡ zero_ℚ =
    λ t. sym (sum_indicator t f.parts) ∙ sym (add_zero_q _) ∙ ap (λ z. sum_of (indicator t) f.parts +ℚ z) (sym (zero_mul_q f.constant)) ∙ h
    (indicator t) zero_ℚ ∙ zero_mul_q k in
    let one : f.constant ≡ k =
    sym (one_mul_q f.constant) ∙ sym (zero_add_q _) ∙ ap (λ z. z +ℚ one_ℚ *ℚ f.constant) (sym (sum_nothing f.parts)) ∙ h (λ u. zero_ℚ) one_ℚ
    ∙ one_mul_q k in
    (all_zero (factor_of f) none f.parts, one)

value_of_constant : (f : Linear) → is_number f ≡ true → (e : Term → ℚ) (u : ℚ) → value e u f ≡ u *ℚ f.constant
value_of_constant f n e u = value-same Term_discrete e u f (number f.constant) (constant_form f n) ∙ value-number e u f.constant

module _ (ts : List Term) where
  abbrev put : Term → Term
  put = put_terms 0 ts

  -- the value of a variable, and of what is put for it
  inner : (Term → ℚ) → ℚ → Term → ℚ
  inner e u t = value e u (form (put t))

  abbrev KeepsValue : Term → Type 0
  KeepsValue t = (e : Term → ℚ) (u : ℚ) → value e u (form (put t)) ≡ value (inner e u) u (form t)

  opaque_case : (t : Term) → form t ≡ single t → KeepsValue t
  unfolding inner
  opaque_case t o e u = sym (value-single (inner e u) u t) ∙ ap (value (inner e u) u) (sym o)

  constant_stays : (t : Term) → KeepsValue t → is_number (form t) ≡ true
      → (is_number (form (put t)) ≡ true) × ((form (put t)).constant ≡ (form t).constant)
  constant_stays t h n = constant_by_value (form (put t)) (form t).constant (λ e u. h e u ∙ value_of_constant (form t) n (inner e u) u)

  form_put : (h : Head) (ss : List Sort) (us : List Term)
      → form (put (Apply h ss us)) ≡ applied (Apply h ss (map put us)) h (map (λ t. (t, form t)) (map put us))
  form_put h ss us = ap form (put_apply 0 ts h ss us) ∙ form-Apply h ss (map put us)

  plus_case : (a b : Term) → KeepsValue a → KeepsValue b → (e : Term → ℚ) (u : ℚ)
      → value e u (plus (form (put a)) (form (put b))) ≡ value (inner e u) u (plus (form a) (form b))
  plus_case a b p q e u =
      value-plus e u (form (put a)) (form (put b)) ∙ (λ i. p e u i +ℚ q e u i) ∙ sym (value-plus (inner e u) u (form a) (form b))

  scale_case : (a : Term) (x : ℚ) → KeepsValue a → (e : Term → ℚ) (u : ℚ)
      → value e u (scale x (form (put a))) ≡ value (inner e u) u (scale x (form a))
  scale_case a x p e u = value-scale e u x (form (put a)) ∙ ap (λ z. x *ℚ z) (p e u) ∙ sym (value-scale (inner e u) u x (form a))

  minus_case : (a b : Term) → KeepsValue a → KeepsValue b → (e : Term → ℚ) (u : ℚ)
      → value e u (minus (form (put a)) (form (put b))) ≡ value (inner e u) u (minus (form a) (form b))
  minus_case a b p q e u =
      value-plus e u (form (put a)) (scale (neg_ℚ one_ℚ) (form (put b))) ∙ (λ i. p e u i +ℚ scale_case b (neg_ℚ one_ℚ) q e u i) ∙ sym
      (value-plus (inner e u) u (form a) (scale (neg_ℚ one_ℚ) (form b)))

  turned : (u ka kb : ℚ) → ka *ℚ (u *ℚ kb) ≡ kb *ℚ (u *ℚ ka)
  turned u ka kb = sym (mul_assoc_q ka u kb) ∙ mul_comm_q (ka *ℚ u) kb ∙ ap (λ z. kb *ℚ z) (mul_comm_q ka u)

  -- w is the product before, v after
  times_case : (w v a b : Term) → KeepsValue a → KeepsValue b → (e : Term → ℚ) (u : ℚ) → (form w ≡ times w (form a) (form b))
      → (form (put w) ≡ times v (form (put a)) (form (put b))) → value e u (form (put w)) ≡ value (inner e u) u (form w)
  times_case w v a b p q e u fw fv = go (is_number (form a)) refl (is_number (form b)) refl
    where
      first : is_number (form a) ≡ true → value e u (form (put w)) ≡ value (inner e u) u (form w)
      first n =
          let c = constant_stays a p n in
          ap (value e u) (fv ∙ ap
          (λ (z : Bool). cond z (scale (form (put a)).constant (form (put b)))
          (cond (is_number (form (put b))) (scale (form (put b)).constant (form (put a))) (single v))) c.0
          ∙ ap (λ (k : ℚ). scale k (form (put b))) c.1)
          ∙ scale_case b (form a).constant q e u
          ∙ ap (value (inner e u) u)
          (sym (fw ∙ ap (λ (z : Bool). cond z (scale (form a).constant (form b))
          (cond (is_number (form b)) (scale (form b).constant (form a)) (single w))) n))

      second : is_number (form a) ≡ false → is_number (form b) ≡ true → value e u (form (put w)) ≡ value (inner e u) u (form w)
      second m n =
          let c = constant_stays b q n in
          ap (value e u) fv ∙ by_first (is_number (form (put a))) refl c
          ∙ scale_case a (form b).constant p e u
          ∙ ap (value (inner e u) u)
          (sym (fw ∙ (λ i. cond (m i) (scale (form a).constant (form b)) (cond (n i) (scale (form b).constant (form a)) (single w)))))
        where
          by_first : (z : Bool) → z ≡ is_number (form (put a))
              → (is_number (form (put b)) ≡ true) × ((form (put b)).constant ≡ (form b).constant)
              → value e u (cond z (scale (form (put a)).constant (form (put b)))
              (cond (is_number (form (put b))) (scale (form (put b)).constant (form (put a))) (single v))) ≡ value e u
              (scale (form b).constant (form (put a)))
          by_first false f c =
              ap (λ (g : Linear). value e u g)
              ((λ i. cond (c.0 i) (scale (form (put b)).constant (form (put a))) (single v)) ∙ ap (λ (k : ℚ). scale k (form (put a))) c.1)
          by_first true f c =
              value-scale e u (form (put a)).constant (form (put b)) ∙ ap (λ z. (form (put a)).constant *ℚ z)
              (value_of_constant (form (put b)) c.0 e u) ∙ turned u (form (put a)).constant (form (put b)).constant
              ∙ (λ i. c.1 i *ℚ sym (value_of_constant (form (put a)) (sym f) e u) i)
              ∙ sym (value-scale e u (form b).constant (form (put a)))

      third : is_number (form a) ≡ false → is_number (form b) ≡ false → value e u (form (put w)) ≡ value (inner e u) u (form w)
      third m n =
          opaque_case w
          (fw ∙ (λ i. cond (m i) (scale (form a).constant (form b)) (cond (n i) (scale (form b).constant (form a)) (single w)))) e u

      go : (x : Bool) → x ≡ is_number (form a) → (z : Bool) → z ≡ is_number (form b)
          → value e u (form (put w)) ≡ value (inner e u) u (form w)
      go true f z g = first (sym f)
      go false f true g = second (sym f) (sym g)
      go false f false g = third (sym f) (sym g)

  over_case : (w v a : Term) (x y : ℤ) (r : Bool) → KeepsValue a → (e : Term → ℚ) (u : ℚ) → form w ≡ over w (form a) (Num x y r)
      → form (put w) ≡ over v (form (put a)) (Num x y r) → value e u (form (put w)) ≡ value (inner e u) u (form w)
  over_case w v a x y r p e u fw fv = go (is_zero (ratio x y)) refl
    where
      go : (z : Bool) → z ≡ is_zero (ratio x y) → value e u (form (put w)) ≡ value (inner e u) u (form w)
      go true f = opaque_case w (fw ∙ ap (λ (b : Bool). cond b (single w) (scale (inverse_ℚ (ratio x y)) (form a))) (sym f)) e u
      go false f =
          ap (value e u) (fv ∙ ap (λ (b : Bool). cond b (single v) (scale (inverse_ℚ (ratio x y)) (form (put a)))) (sym f)) ∙ scale_case a
          (inverse_ℚ (ratio x y)) p e u
          ∙ ap (value (inner e u) u) (sym (fw ∙ ap (λ (b : Bool). cond b (single w) (scale (inverse_ℚ (ratio x y)) (form a))) (sym f)))

  quotient_case : (ss : List Sort) (a b : Term) → KeepsValue a → KeepsValue (Apply (head.Real op.Div) ss (a ∷ b ∷ []))
  quotient_case ss a (Bound n) p =
      opaque_case (Apply (head.Real op.Div) ss (a ∷ Bound n ∷ [])) (form-Apply (head.Real op.Div) ss (a ∷ Bound n ∷ []))
  quotient_case ss a (Fresh n s) p =
      opaque_case (Apply (head.Real op.Div) ss (a ∷ Fresh n s ∷ [])) (form-Apply (head.Real op.Div) ss (a ∷ Fresh n s ∷ []))
  quotient_case ss a (Apply' h os shape row) p =
      opaque_case (Apply (head.Real op.Div) ss (a ∷ Apply' h os shape row ∷ []))
      (form-Apply (head.Real op.Div) ss (a ∷ Apply' h os shape row ∷ []))
  quotient_case ss a (Num x y r) p = λ e u.
      over_case (Apply (head.Real op.Div) ss (a ∷ Num x y r ∷ []))
      (Apply (head.Real op.Div) ss (put a ∷ put (Num x y r) ∷ [])) a x y r p e u (form-Apply (head.Real op.Div) ss (a ∷ Num x y r ∷ []))
      (form_put (head.Real op.Div) ss (a ∷ Num x y r ∷ []) ∙ ap
      (λ (b : Term). over (Apply (head.Real op.Div) ss (put a ∷ put (Num x y r) ∷ [])) (form (put a)) b) (put_num 0 ts x y r))

  apply_case : (h : Head) (ss : List Sort) (us : List Term) → AllByRecursion KeepsValue us → KeepsValue (Apply h ss us)
  apply_case (head.Int op.Add) ss (a ∷ b ∷ []) is e u =
      ap (value e u) (form_put (head.Int op.Add) ss (a ∷ b ∷ [])) ∙ plus_case a b is.0 (is.1).0 e u
      ∙ ap (value (inner e u) u) (sym (form-Apply (head.Int op.Add) ss (a ∷ b ∷ [])))
  apply_case (head.Int op.Sub) ss (a ∷ b ∷ []) is e u =
      ap (value e u) (form_put (head.Int op.Sub) ss (a ∷ b ∷ [])) ∙ minus_case a b is.0 (is.1).0 e u
      ∙ ap (value (inner e u) u) (sym (form-Apply (head.Int op.Sub) ss (a ∷ b ∷ [])))
  apply_case (head.Int op.Neg) ss (a ∷ []) is e u =
      ap (value e u) (form_put (head.Int op.Neg) ss (a ∷ [])) ∙ scale_case a (neg_ℚ one_ℚ) is.0 e u
      ∙ ap (value (inner e u) u) (sym (form-Apply (head.Int op.Neg) ss (a ∷ [])))
  apply_case (head.Int op.Mul) ss (a ∷ b ∷ []) is e u =
      times_case (Apply (head.Int op.Mul) ss (a ∷ b ∷ [])) (Apply (head.Int op.Mul) ss (put a ∷ put b ∷ [])) a b is.0 (is.1).0 e u
      (form-Apply (head.Int op.Mul) ss (a ∷ b ∷ [])) (form_put (head.Int op.Mul) ss (a ∷ b ∷ []))
  apply_case (head.Real op.Add) ss (a ∷ b ∷ []) is e u =
      ap (value e u) (form_put (head.Real op.Add) ss (a ∷ b ∷ [])) ∙ plus_case a b is.0 (is.1).0 e u
      ∙ ap (value (inner e u) u) (sym (form-Apply (head.Real op.Add) ss (a ∷ b ∷ [])))
  apply_case (head.Real op.Sub) ss (a ∷ b ∷ []) is e u =
      ap (value e u) (form_put (head.Real op.Sub) ss (a ∷ b ∷ [])) ∙ minus_case a b is.0 (is.1).0 e u
      ∙ ap (value (inner e u) u) (sym (form-Apply (head.Real op.Sub) ss (a ∷ b ∷ [])))
  apply_case (head.Real op.Neg) ss (a ∷ []) is e u =
      ap (value e u) (form_put (head.Real op.Neg) ss (a ∷ [])) ∙ scale_case a (neg_ℚ one_ℚ) is.0 e u
      ∙ ap (value (inner e u) u) (sym (form-Apply (head.Real op.Neg) ss (a ∷ [])))
  apply_case (head.Real op.Mul) ss (a ∷ b ∷ []) is e u =
      times_case (Apply (head.Real op.Mul) ss (a ∷ b ∷ [])) (Apply (head.Real op.Mul) ss (put a ∷ put b ∷ [])) a b is.0 (is.1).0 e u
      (form-Apply (head.Real op.Mul) ss (a ∷ b ∷ [])) (form_put (head.Real op.Mul) ss (a ∷ b ∷ []))
  apply_case (head.Real op.Div) ss (a ∷ b ∷ []) is e u = quotient_case ss a b is.0 e u
  apply_case h ss us is e u = opaque_case (Apply h ss us) (form-Apply h ss us) e u

  keeps_value : (t : Term) → KeepsValue t
  keeps_value =
      by_terms KeepsValue (λ n. opaque_case (Bound n) (form-Bound n))
      (λ a b r e u. ap (value e u) (ap form (put_num 0 ts a b r) ∙ form-Num a b r) ∙ value-number e u (ratio a b) ∙ sym
      (value-number (inner e u) u (ratio a b)) ∙ ap (value (inner e u) u) (sym (form-Num a b r)))
      (λ n s. opaque_case (Fresh n s) (form-Fresh n s)) apply_case

  -- a term whose form is constant keeps it
  pub stays_constant : (t : Term) → is_number (form t) ≡ true → is_number (form (put_terms 0 ts t)) ≡ true
  stays_constant t n = (constant_stays t (keeps_value t) n).0
