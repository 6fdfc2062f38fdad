-- A term whose form is a number keeps it where terms are put for variables.
use Rattle.std.specs.Prelude.{ℤ, Bool, true, false, cond, ◌&&◌, ◌⊎◌, List, [], ◌∷◌, ◌≡◌, map}
use Rattle.std.specs.List.{AllByRecursion, list_all}
use Rattle.std.proofs.Common.{refl, sym, ap, ◌∙◌, inl, inr}
use Rattle.std.proofs.lemmas.Bool.{and_parts}
use Rattle.ae_base.specs.Decided.{pick}
use Rattle.ae_math.specs.Fractions.{ℚ, zero_ℚ, one_ℚ, neg_ℚ, inverse_ℚ, ◌+ℚ◌, ◌*ℚ◌, ratio}
use Rattle.ae_math.specs.Forms.{number, single, plus, scale, minus, is_zero, factor_in, sum_of, value}
use Rattle.ae_math.proofs.FractionLaws.{zero_add_q, add_zero_q, one_mul_q, one_mul_q', mul_zero_q, zero_mul_q, mul_comm_q, mul_assoc_q}
use Rattle.ae_math.proofs.FormLaws.{is_zero_yes, zero_is, value-same, value-plus, value-scale, value-number, value-single}
use Rattle.ae_core.specs.Decided.{Term_discrete}
use Rattle.ae_core.specs.Inner.Induction.{by_terms}
use Rattle.ae_core.specs.Putting.{put_terms}
use Rattle.ae_core.specs.declared.terms.Sort.{Sort}
use Rattle.ae_core.specs.declared.terms.Head.{Head}
use Rattle.ae_core.specs.declared.terms.Head.TheVariants as head
use Rattle.ae_core.specs.declared.terms.Op.TheVariants as op
use Rattle.ae_core.specs.declared.terms.Term.{Term, Bound, Num, Fresh, Apply, Apply'}
use Rattle.ae_core.proofs.PuttingLaws.{put_num, put_apply}
use Rattle.ae_rules.specs.Linear.{Linear, form, applied, times, over, factor_of, is_number, IsSame}
use Rattle.ae_rules.proofs.LinearLaws.{form-Apply, form-Bound, form-Num, form-Fresh}

-- ---- a form is a number exactly where its value is that of its constant, whatever its opaque terms are worth
no_factor : (g : Term → ℚ) (ps : List (Term × ℚ)) (k : Term) → list_all (λ p. is_zero (g p.0)) ps ≡ true → (factor_in Term_discrete ps k ≡ zero_ℚ) ⊎ (g k ≡ zero_ℚ)
no_factor g [] k e = inl refl
no_factor g (p ∷ ps) k e =
    let b = and_parts (is_zero (g p.0)) (list_all (λ q. is_zero (g q.0)) ps) e in
    elim (Term_discrete p.0 k) as (λ d. (pick d (p.1 +ℚ factor_in Term_discrete ps k) (factor_in Term_discrete ps k) ≡ zero_ℚ) ⊎ (g k ≡ zero_ℚ)) [
      | yes same ↦ inr (ap g (sym same) ∙ zero_is (g p.0) b.0)
      | no other ↦ no_factor g ps k b.1
    ]

only_constant : (f : Linear) → is_number f ≡ true → IsSame f (number f.constant)
only_constant f e = record {
  factors = λ k. elim (no_factor (factor_of f) f.parts k e) as (λ _. factor_of f k ≡ zero_ℚ) [ inl p ↦ p | inr p ↦ p ];
  constants = refl;
}

number_value : (f : Linear) → is_number f ≡ true → (e : Term → ℚ) (u : ℚ) → value e u f ≡ u *ℚ f.constant
number_value f n e u = value-same Term_discrete e u f (number f.constant) (only_constant f n) ∙ value-number e u f.constant

-- this term is worth 1, and each other one nothing
worth : Term → Term → ℚ
worth t k = pick (Term_discrete k t) one_ℚ zero_ℚ

worth_factor : (t : Term) (ps : List (Term × ℚ)) → sum_of (worth t) ps ≡ factor_in Term_discrete ps t
unfolding worth
worth_factor t [] = refl
worth_factor t (p ∷ ps) =
    elim (Term_discrete p.0 t) as (λ d. p.1 *ℚ pick d one_ℚ zero_ℚ +ℚ sum_of (worth t) ps ≡ pick d (p.1 +ℚ factor_in Term_discrete ps t) (factor_in Term_discrete ps t)) [
      | yes e ↦ λ i. one_mul_q' p.1 i +ℚ worth_factor t ps i
      | no n ↦ (λ i. mul_zero_q p.1 i +ℚ worth_factor t ps i) ∙ zero_add_q (factor_in Term_discrete ps t)
    ]

worth_nothing : (ps : List (Term × ℚ)) → sum_of (λ (k : Term). zero_ℚ) ps ≡ zero_ℚ
worth_nothing [] = refl
worth_nothing (p ∷ ps) = (λ i. mul_zero_q p.1 i +ℚ worth_nothing ps i) ∙ zero_add_q zero_ℚ

all_zero : (g : Term → ℚ) → ((t : Term) → g t ≡ zero_ℚ) → (ps : List (Term × ℚ)) → list_all (λ p. is_zero (g p.0)) ps ≡ true
all_zero g z [] = refl
all_zero g z (p ∷ ps) = λ i. is_zero_yes (g p.0) (z p.0) i && all_zero g z ps i

by_values : (f : Linear) (k : ℚ) → ((e : Term → ℚ) (u : ℚ) → value e u f ≡ u *ℚ k) → (is_number f ≡ true) × (f.constant ≡ k)
by_values f k h =
    let none : (t : Term) → factor_of f t ≡ zero_ℚ =
    λ t. sym (worth_factor t f.parts) ∙ sym (add_zero_q _) ∙ ap (λ z. sum_of (worth t) f.parts +ℚ z) (sym (zero_mul_q f.constant)) ∙ h (worth t) zero_ℚ ∙ zero_mul_q k in
    let one : f.constant ≡ k =
    sym (one_mul_q f.constant) ∙ sym (zero_add_q _) ∙ ap (λ z. z +ℚ one_ℚ *ℚ f.constant) (sym (worth_nothing f.parts)) ∙ h (λ k. zero_ℚ) one_ℚ ∙ one_mul_q k in
    (all_zero (factor_of f) none f.parts, one)

-- ---- the value of a product of which a factor is a number
left_value : (w : Term) (f g : Linear) → is_number f ≡ true → (e : Term → ℚ) (u : ℚ) → value e u (times w f g) ≡ f.constant *ℚ value e u g
left_value w f g n e u = ap (λ (b : Bool). value e u (cond b (scale f.constant g) (cond (is_number g) (scale g.constant f) (single w)))) n ∙ value-scale e u f.constant g

turned : (u a b : ℚ) → a *ℚ (u *ℚ b) ≡ b *ℚ (u *ℚ a)
turned u a b = sym (mul_assoc_q a u b) ∙ mul_comm_q (a *ℚ u) b ∙ ap (λ z. b *ℚ z) (mul_comm_q a u)

right_value : (w : Term) (f g : Linear) → is_number g ≡ true → (e : Term → ℚ) (u : ℚ) → value e u (times w f g) ≡ g.constant *ℚ value e u f
right_value w f g n e u = go (is_number f) refl
  where
    go : (b : Bool) → b ≡ is_number f → value e u (cond b (scale f.constant g) (cond (is_number g) (scale g.constant f) (single w))) ≡ g.constant *ℚ value e u f
    go true q =
        value-scale e u f.constant g ∙ ap (λ z. f.constant *ℚ z) (number_value g n e u) ∙ turned u f.constant g.constant
        ∙ ap (λ z. g.constant *ℚ z) (sym (number_value f (sym q) e u))
    go false q = ap (λ (b : Bool). value e u (cond b (scale g.constant f) (single w))) n ∙ value-scale e u g.constant f

-- ---- terms put for variables
module _ (ts : List Term) where
  abbrev put : Term → Term
  put = put_terms 0 ts

  -- what a term is worth, where the terms are put in it
  inner : (Term → ℚ) → ℚ → Term → ℚ
  inner e u t = value e u (form (put t))

  abbrev Keeps : Term → Type 0
  Keeps t = (e : Term → ℚ) (u : ℚ) → value e u (form (put t)) ≡ value (inner e u) u (form t)

  opaque_keeps : (t : Term) → form t ≡ single t → Keeps t
  unfolding inner
  opaque_keeps t o e u = sym (value-single (inner e u) u t) ∙ ap (value (inner e u) u) (sym o)

  number_stays : (t : Term) → Keeps t → is_number (form t) ≡ true → (is_number (form (put t)) ≡ true) × ((form (put t)).constant ≡ (form t).constant)
  number_stays t h n = by_values (form (put t)) (form t).constant (λ e u. h e u ∙ number_value (form t) n (inner e u) u)

  form_put : (h : Head) (ss : List Sort) (us : List Term) → form (put (Apply h ss us)) ≡ applied (Apply h ss (map put us)) h (map (λ t. (t, form t)) (map put us))
  form_put h ss us = ap form (put_apply 0 ts h ss us) ∙ form-Apply h ss (map put us)

  sum_value : (a b : Term) → Keeps a → Keeps b → (e : Term → ℚ) (u : ℚ) → value e u (plus (form (put a)) (form (put b))) ≡ value (inner e u) u (plus (form a) (form b))
  sum_value a b p q e u = value-plus e u (form (put a)) (form (put b)) ∙ (λ i. p e u i +ℚ q e u i) ∙ sym (value-plus (inner e u) u (form a) (form b))

  multiple_value : (a : Term) (x : ℚ) → Keeps a → (e : Term → ℚ) (u : ℚ) → value e u (scale x (form (put a))) ≡ value (inner e u) u (scale x (form a))
  multiple_value a x p e u = value-scale e u x (form (put a)) ∙ ap (λ z. x *ℚ z) (p e u) ∙ sym (value-scale (inner e u) u x (form a))

  difference_value : (a b : Term) → Keeps a → Keeps b → (e : Term → ℚ) (u : ℚ) → value e u (minus (form (put a)) (form (put b))) ≡ value (inner e u) u (minus (form a) (form b))
  difference_value a b p q e u =
      value-plus e u (form (put a)) (scale (neg_ℚ one_ℚ) (form (put b))) ∙ (λ i. p e u i +ℚ multiple_value b (neg_ℚ one_ℚ) q e u i)
      ∙ sym (value-plus (inner e u) u (form a) (scale (neg_ℚ one_ℚ) (form b)))

  -- a product w, and v with the terms put in the factors
  product_keeps : (w v a b : Term) → form w ≡ times w (form a) (form b) → form (put w) ≡ times v (form (put a)) (form (put b)) → Keeps a → Keeps b → Keeps w
  product_keeps w v a b fw fv p q e u = go (is_number (form a)) refl (is_number (form b)) refl
    where
      go : (x : Bool) → x ≡ is_number (form a) → (y : Bool) → y ≡ is_number (form b) → value e u (form (put w)) ≡ value (inner e u) u (form w)
      go true x y z =
          let c = number_stays a p (sym x) in
          ap (value e u) fv ∙ left_value v (form (put a)) (form (put b)) c.0 e u ∙ (λ i. c.1 i *ℚ q e u i)
          ∙ sym (left_value w (form a) (form b) (sym x) (inner e u) u) ∙ ap (value (inner e u) u) (sym fw)
      go false x true z =
          let c = number_stays b q (sym z) in
          ap (value e u) fv ∙ right_value v (form (put a)) (form (put b)) c.0 e u ∙ (λ i. c.1 i *ℚ p e u i)
          ∙ sym (right_value w (form a) (form b) (sym z) (inner e u) u) ∙ ap (value (inner e u) u) (sym fw)
      go false x false z =
          opaque_keeps w (fw ∙ (λ i. cond (sym x i) (scale (form a).constant (form b)) (cond (sym z i) (scale (form b).constant (form a)) (single w)))) e u

  -- a quotient by a numeral
  over_keeps : (w v a : Term) (x y : ℤ) (r : Bool) → form w ≡ over w (form a) (Num x y r) → form (put w) ≡ over v (form (put a)) (Num x y r) → Keeps a → Keeps w
  over_keeps w v a x y r fw fv p e u = go (is_zero (ratio x y)) refl
    where
      go : (z : Bool) → z ≡ is_zero (ratio x y) → value e u (form (put w)) ≡ value (inner e u) u (form w)
      go true z = opaque_keeps w (fw ∙ ap (λ (b : Bool). cond b (single w) (scale (inverse_ℚ (ratio x y)) (form a))) (sym z)) e u
      go false z =
          ap (value e u) (fv ∙ ap (λ (b : Bool). cond b (single v) (scale (inverse_ℚ (ratio x y)) (form (put a)))) (sym z)) ∙ multiple_value a (inverse_ℚ (ratio x y)) p e u
          ∙ ap (value (inner e u) u) (sym (fw ∙ ap (λ (b : Bool). cond b (single w) (scale (inverse_ℚ (ratio x y)) (form a))) (sym z)))

  quotient_keeps : (ss : List Sort) (a b : Term) → Keeps a → Keeps (Apply (head.Real op.Div) ss (a ∷ b ∷ []))
  quotient_keeps ss a (Bound n) p = opaque_keeps (Apply (head.Real op.Div) ss (a ∷ Bound n ∷ [])) (form-Apply (head.Real op.Div) ss (a ∷ Bound n ∷ []))
  quotient_keeps ss a (Fresh n s) p = opaque_keeps (Apply (head.Real op.Div) ss (a ∷ Fresh n s ∷ [])) (form-Apply (head.Real op.Div) ss (a ∷ Fresh n s ∷ []))
  quotient_keeps ss a (Apply' h os shape row) p =
      opaque_keeps (Apply (head.Real op.Div) ss (a ∷ Apply' h os shape row ∷ [])) (form-Apply (head.Real op.Div) ss (a ∷ Apply' h os shape row ∷ []))
  quotient_keeps ss a (Num x y r) p =
      over_keeps (Apply (head.Real op.Div) ss (a ∷ Num x y r ∷ [])) (Apply (head.Real op.Div) ss (put a ∷ put (Num x y r) ∷ [])) a x y r
      (form-Apply (head.Real op.Div) ss (a ∷ Num x y r ∷ []))
      (form_put (head.Real op.Div) ss (a ∷ Num x y r ∷ []) ∙ ap (λ (b : Term). over (Apply (head.Real op.Div) ss (put a ∷ put (Num x y r) ∷ [])) (form (put a)) b) (put_num 0 ts x y r)) p

  -- an application, by its form and the form with the terms put
  of_forms : (h : Head) (ss : List Sort) (us : List Term)
      → ((e : Term → ℚ) (u : ℚ) → value e u (applied (Apply h ss (map put us)) h (map (λ t. (t, form t)) (map put us))) ≡ value (inner e u) u (applied (Apply h ss us) h (map (λ t. (t, form t)) us)))
      → Keeps (Apply h ss us)
  of_forms h ss us k e u = ap (value e u) (form_put h ss us) ∙ k e u ∙ ap (value (inner e u) u) (sym (form-Apply h ss us))

  apply_keeps : (h : Head) (ss : List Sort) (us : List Term) → AllByRecursion Keeps us → Keeps (Apply h ss us)
  apply_keeps (head.Int op.Add) ss (a ∷ b ∷ []) k = of_forms (head.Int op.Add) ss (a ∷ b ∷ []) (sum_value a b k.0 (k.1).0)
  apply_keeps (head.Int op.Sub) ss (a ∷ b ∷ []) k = of_forms (head.Int op.Sub) ss (a ∷ b ∷ []) (difference_value a b k.0 (k.1).0)
  apply_keeps (head.Int op.Neg) ss (a ∷ []) k = of_forms (head.Int op.Neg) ss (a ∷ []) (multiple_value a (neg_ℚ one_ℚ) k.0)
  apply_keeps (head.Int op.Mul) ss (a ∷ b ∷ []) k =
      product_keeps (Apply (head.Int op.Mul) ss (a ∷ b ∷ [])) (Apply (head.Int op.Mul) ss (put a ∷ put b ∷ [])) a b
      (form-Apply (head.Int op.Mul) ss (a ∷ b ∷ [])) (form_put (head.Int op.Mul) ss (a ∷ b ∷ [])) k.0 (k.1).0
  apply_keeps (head.Real op.Add) ss (a ∷ b ∷ []) k = of_forms (head.Real op.Add) ss (a ∷ b ∷ []) (sum_value a b k.0 (k.1).0)
  apply_keeps (head.Real op.Sub) ss (a ∷ b ∷ []) k = of_forms (head.Real op.Sub) ss (a ∷ b ∷ []) (difference_value a b k.0 (k.1).0)
  apply_keeps (head.Real op.Neg) ss (a ∷ []) k = of_forms (head.Real op.Neg) ss (a ∷ []) (multiple_value a (neg_ℚ one_ℚ) k.0)
  apply_keeps (head.Real op.Mul) ss (a ∷ b ∷ []) k =
      product_keeps (Apply (head.Real op.Mul) ss (a ∷ b ∷ [])) (Apply (head.Real op.Mul) ss (put a ∷ put b ∷ [])) a b
      (form-Apply (head.Real op.Mul) ss (a ∷ b ∷ [])) (form_put (head.Real op.Mul) ss (a ∷ b ∷ [])) k.0 (k.1).0
  apply_keeps (head.Real op.Div) ss (a ∷ b ∷ []) k = quotient_keeps ss a b k.0
  apply_keeps h ss us k = opaque_keeps (Apply h ss us) (form-Apply h ss us)

  keeps : (t : Term) → Keeps t
  keeps =
      by_terms Keeps (λ n. opaque_keeps (Bound n) (form-Bound n))
      (λ a b r e u.
      ap (value e u) (ap form (put_num 0 ts a b r) ∙ form-Num a b r) ∙ value-number e u (ratio a b) ∙ sym (value-number (inner e u) u (ratio a b))
      ∙ ap (value (inner e u) u) (sym (form-Num a b r)))
      (λ n s. opaque_keeps (Fresh n s) (form-Fresh n s)) apply_keeps

  pub number_put : (t : Term) → is_number (form t) ≡ true → is_number (form (put_terms 0 ts t)) ≡ true
  number_put t n = (number_stays t (keeps t) n).0
