-- The two numbers whose product or sum leaves the limits are within them, where those of the forms are: the operands of a step are such, or come of earlier ones.
use Rattle.std.specs.Prelude.{ℕ, zero, suc, ◌/◌, ℤ, pos, neg_ℤ, ◌*ℤ◌, ◌<◌, ◌^◌, ◌≡◌, ◌⊎◌, true, false, cond, nat_eq, List, [], ◌∷◌, ◌++◌, map, Option, Some, None, unsigned_abs}
use Rattle.std.specs.List.{AllByRecursion, flat_map}
use Rattle.std.specs.Int.RustNames.{int_div}
use Rattle.std.proofs.Common.{refl, sym, ap, ◌∙◌, subst, arith, append_assoc, inl, inr}
use Rattle.std.proofs.Math.Nat.{div-le_self}
use Rattle.std.proofs.lemmas.Bool.{leb-false}
use Rattle.std.proofs.lemmas.Option.{same_Some}
use Rattle.ae_base.specs.Decided.{pick}
use Rattle.ae_base.proofs.AllOf.{all_back, all_before_map, all_front}
use Rattle.ae_base.proofs.Options.{never_some}
use Rattle.ae_base.proofs.Tests.{by_bool}
use Rattle.ae_journal.specs.Licences.{stated_steps}
use Rattle.ae_journal.specs.declared.answers.NumStep.{NumStep}
use Rattle.ae_journal.specs.declared.answers.NumStep.TheVariants as step
use Rattle.ae_num.specs.Forms.{IsNormal, sizes, factor_of, greatest_divisor, divided_part, lowest, parts_of, keys_of, Step, Product, Sum, outcome, is_wide, wide_of, first_wide, crossed}
use Rattle.ae_num.specs.Forms.{multiple_of, plus_steps, scale_steps, subst_steps, combine_steps, others, has_key}
use Rattle.ae_num.specs.Limits.{FitsLimits}
use Rattle.ae_num.specs.declared.forms.Lin.{Lin}
use Rattle.ae_num.specs.declared.forms.Part.{Part}
use Rattle.ae_num.specs.declared.numbers.Wide.{Wide}
use lib.IntN.{negsuc, ℤ_discrete}
use borrow.Author.Differences.{ints}

-- ---- steps one after another
-- the operands of the first that leaves the limits are within them
abbrev pub Ok : List Step → Type 0
Ok ss = (w : Wide) → first_wide ss ≡ Some w → FitsLimits w.left × FitsLimits w.right

abbrev OfStep : Step → Type 0
OfStep s = FitsLimits (wide_of s).left × FitsLimits (wide_of s).right

not_wide : (s : Step) → is_wide s ≡ false → FitsLimits (outcome s)
not_wide s e = let l = leb-false (2 ^ 127) (unsigned_abs (outcome s)) e in omega (arith, l)

ok_none : Ok []
ok_none w e = never_some w e

ok_step : (s : Step) (ss : List Step) → OfStep s → (FitsLimits (outcome s) → Ok ss) → Ok (s ∷ ss)
ok_step s ss o h w e =
    by_bool (is_wide s)
    (λ y. let same : wide_of s ≡ w = same_Some (wide_of s) w (sym (ap (λ b. cond b (Some (wide_of s)) (first_wide ss)) y) ∙ e) in
    (subst FitsLimits (ap (λ v. v.left) same) o.0, subst FitsLimits (ap (λ v. v.right) same) o.1))
    (λ n. h (not_wide s n) w (sym (ap (λ b. cond b (Some (wide_of s)) (first_wide ss)) n) ∙ e))

ok_crossed : (a b c d : ℤ) (ss : List Step) → FitsLimits a → FitsLimits b → FitsLimits c → FitsLimits d → Ok ss → Ok (crossed a b c d ++ ss)
ok_crossed a b c d ss p q r s h =
    ok_step (Product a b) (Product c d ∷ Sum (a *ℤ b) (c *ℤ d) ∷ ss) (p, q)
    (λ x. ok_step (Product c d) (Sum (a *ℤ b) (c *ℤ d) ∷ ss) (r, s) (λ y. ok_step (Sum (a *ℤ b) (c *ℤ d)) ss (x, y) (λ z. h)))

-- one for each key
ok_keys : (f : ℕ → List Step) → ((y : ℕ) (ss : List Step) → Ok ss → Ok (f y ++ ss)) → (ys : List ℕ) (ss : List Step) → Ok ss → Ok (flat_map f ys ++ ss)
ok_keys f each [] ss h = h
ok_keys f each (y ∷ ys) ss h = subst Ok (sym (append_assoc (f y) (flat_map f ys) ss)) (each y (flat_map f ys ++ ss) (ok_keys f each ys ss h))

first_cases : (ss ts : List Step) (w : Wide) → first_wide (ss ++ ts) ≡ Some w → (first_wide ss ≡ Some w) ⊎ ((first_wide ss ≡ None) × (first_wide ts ≡ Some w))
first_cases [] ts w e = inr (refl, e)
first_cases (s ∷ ss) ts w e =
    by_bool (is_wide s)
    (λ y. inl (ap (λ b. cond b (Some (wide_of s)) (first_wide ss)) y ∙ sym (ap (λ b. cond b (Some (wide_of s)) (first_wide (ss ++ ts))) y) ∙ e))
    (λ n. let past : first_wide (s ∷ ss) ≡ first_wide ss = ap (λ b. cond b (Some (wide_of s)) (first_wide ss)) n in
    elim (first_cases ss ts w (sym (ap (λ b. cond b (Some (wide_of s)) (first_wide (ss ++ ts))) n) ∙ e)) [ inl a ↦ inl (past ∙ a) | inr b ↦ inr (past ∙ b.0, b.1) ])

ok_append : (ss ts : List Step) → Ok ss → (first_wide ss ≡ None → Ok ts) → Ok (ss ++ ts)
ok_append ss ts h k w e = elim (first_cases ss ts w e) [ inl a ↦ h w a | inr b ↦ k b.0 w b.1 ]

-- none of them leaves the limits: each outcome is within
all_fit : (ss : List Step) → first_wide ss ≡ None → AllByRecursion (λ s. FitsLimits (outcome s)) ss
all_fit [] e = tt
all_fit (s ∷ ss) e =
    by_bool (is_wide s)
    (λ y. absurd (some_none (wide_of s) (sym (ap (λ b. cond b (Some (wide_of s)) (first_wide ss)) y) ∙ e)))
    (λ n. (not_wide s n, all_fit ss (sym (ap (λ b. cond b (Some (wide_of s)) (first_wide ss)) n) ∙ e)))
  where
    some_none : (w : Wide) → ◌≡◌ {A = Option Wide} (Some w) None → ⊥
    some_none w e = cc

-- ---- forms whose numbers are within the limits
abbrev Factors : List Part → Type 0
Factors ps = AllByRecursion (λ p. FitsLimits p.factor) ps

record IsSmall (l : Lin) : Type 0 where
  pub den : FitsLimits l.den
  pub constant : FitsLimits l.constant
  pub factors : Factors l.parts

normal_small : (l : Lin) → IsNormal l → IsSmall l
normal_small l n = record { den = n.within.0; constant = n.within.1.0; factors = all_before_map (λ n. n < 2 ^ 127) (λ p. unsigned_abs p.factor) l.parts n.within.1.1 }

zero_fits : FitsLimits (pos 0)
zero_fits = omega arith

factor_fits : (ps : List Part) → Factors ps → (y : ℕ) → FitsLimits (factor_of ps y)
factor_fits [] a y = zero_fits
factor_fits (p ∷ ps) a y =
    elim (nat_eq p.key y) as (λ b. FitsLimits (cond b p.factor (factor_of ps y))) [ true ↦ a.0 | false ↦ factor_fits ps a.1 y ]

others_fit : (ps : List Part) (key : ℕ) → Factors ps → Factors (others ps key)
others_fit [] key a = tt
others_fit (p ∷ ps) key a =
    elim (nat_eq p.key key) as (λ b. Factors (cond b (others ps key) (p ∷ others ps key))) [ true ↦ others_fit ps key a.1 | false ↦ (a.0, others_fit ps key a.1) ]

-- ---- the steps
plus_fit : (p q : Lin) → IsSmall p → IsSmall q → Ok (plus_steps p q)
plus_fit p q s t =
    ok_step (Product p.den q.den)
    (flat_map (λ y. crossed (factor_of p.parts y) q.den (factor_of q.parts y) p.den) (keys_of p.parts q.parts) ++ crossed p.constant q.den q.constant p.den) (s.den, t.den)
    (λ x. ok_keys (λ y. crossed (factor_of p.parts y) q.den (factor_of q.parts y) p.den)
    (λ y ss h. ok_crossed (factor_of p.parts y) q.den (factor_of q.parts y) p.den ss (factor_fits p.parts s.factors y) t.den (factor_fits q.parts t.factors y) s.den h)
    (keys_of p.parts q.parts) (crossed p.constant q.den q.constant p.den)
    (ok_crossed p.constant q.den q.constant p.den [] s.constant t.den t.constant s.den ok_none))

products_fit : (top : ℤ) (ps : List Part) (ss : List Step) → FitsLimits top → Factors ps → Ok ss → Ok (map (λ x. Product x.factor top) ps ++ ss)
products_fit top [] ss t a h = h
products_fit top (p ∷ ps) ss t a h = ok_step (Product p.factor top) (map (λ x. Product x.factor top) ps ++ ss) (a.0, t) (λ x. products_fit top ps ss t a.1 h)

scale_fit : (top bottom : ℤ) (p : Lin) → FitsLimits top → FitsLimits bottom → IsSmall p → Ok (scale_steps top bottom p)
scale_fit top bottom p t b s =
    ok_step (Product p.den bottom) (map (λ x. Product x.factor top) p.parts ++ Product p.constant top ∷ []) (s.den, b)
    (λ x. products_fit top p.parts (Product p.constant top ∷ []) t s.factors (ok_step (Product p.constant top) [] (s.constant, t) (λ y. ok_none)))

subst_fit : (p : Lin) (key : ℕ) (q : Lin) → IsSmall p → IsSmall q → Ok (subst_steps p key q)
subst_fit p key q s t =
    let c = factor_fits p.parts s.factors key in
    let rest = others_fit p.parts key s.factors in
    elim (has_key p.parts key) as (λ b. Ok (cond b
    (Product p.den q.den
    ∷ flat_map (λ y. crossed (factor_of (others p.parts key) y) q.den (factor_of p.parts key) (factor_of q.parts y)) (keys_of (others p.parts key) q.parts)
    ++ crossed p.constant q.den (factor_of p.parts key) q.constant)
    [])) [
      | true ↦ ok_step (Product p.den q.den)
          (flat_map (λ y. crossed (factor_of (others p.parts key) y) q.den (factor_of p.parts key) (factor_of q.parts y)) (keys_of (others p.parts key) q.parts)
          ++ crossed p.constant q.den (factor_of p.parts key) q.constant) (s.den, t.den)
          (λ x. ok_keys (λ y. crossed (factor_of (others p.parts key) y) q.den (factor_of p.parts key) (factor_of q.parts y))
          (λ y ss h. ok_crossed (factor_of (others p.parts key) y) q.den (factor_of p.parts key) (factor_of q.parts y) ss (factor_fits (others p.parts key) rest y) t.den c (factor_fits q.parts t.factors y) h)
          (keys_of (others p.parts key) q.parts) (crossed p.constant q.den (factor_of p.parts key) q.constant)
          (ok_crossed p.constant q.den (factor_of p.parts key) q.constant [] s.constant t.den c t.constant ok_none))
      | false ↦ ok_none
    ]

-- ---- a multiple whose products are within the limits
quotient_fits : (z : ℤ) (g : ℕ) → FitsLimits z → FitsLimits (int_div z (pos g))
quotient_fits (pos n) g h = let l = div-le_self n g in omega (arith, l, h)
quotient_fits (negsuc n) g h = let l = div-le_self (suc n) g in negated (suc n / g) (omega (arith, l, h))
  where
    negated : (n : ℕ) → n < 2 ^ 127 → FitsLimits (neg_ℤ (pos n))
    negated zero l = omega arith
    negated (suc n) l = l

divided_fit : (g : ℕ) (ps : List Part) → Factors ps → Factors (map (divided_part (pos g)) ps)
divided_fit g [] a = tt
divided_fit g (p ∷ ps) a = (quotient_fits p.factor g a.0, divided_fit g ps a.1)

lowest_small : (l : Lin) → IsSmall l → IsSmall (lowest l)
lowest_small l s =
    let g = greatest_divisor (unsigned_abs l.den) (sizes l.den l.parts l.constant) in
    record { den = quotient_fits l.den g s.den; constant = quotient_fits l.constant g s.constant; factors = divided_fit g l.parts s.factors }

kept_fit : (f : ℕ → ℤ) → ((y : ℕ) → FitsLimits (f y)) → (ys : List ℕ) → Factors (parts_of f ys)
kept_fit f h [] = tt
kept_fit f h (y ∷ ys) =
    elim (ℤ_discrete (f y) (pos 0)) as (λ d. Factors (pick d (parts_of f ys) (record { key = y; factor = f y } ∷ parts_of f ys))) [ yes z ↦ kept_fit f h ys | no n ↦ (h y, kept_fit f h ys) ]

times_fits : (top : ℤ) (ps : List Part) → AllByRecursion (λ p. FitsLimits (p.factor *ℤ top)) ps → (y : ℕ) → FitsLimits (factor_of ps y *ℤ top)
times_fits top [] a y = subst FitsLimits (nothing top) zero_fits
  where
    nothing : (z : ℤ) → pos 0 ≡ pos 0 *ℤ z
    nothing z = omega (arith, ints)
times_fits top (p ∷ ps) a y =
    elim (nat_eq p.key y) as (λ b. FitsLimits (cond b p.factor (factor_of ps y) *ℤ top)) [ true ↦ a.0 | false ↦ times_fits top ps a.1 y ]

multiple_small : (top bottom : ℤ) (p : Lin) → first_wide (scale_steps top bottom p) ≡ None → IsSmall (multiple_of top bottom p)
multiple_small top bottom p e =
    let a = all_fit (scale_steps top bottom p) e in
    let m = all_front (λ s. FitsLimits (outcome s)) (map (λ x. Product x.factor top) p.parts) (Product p.constant top ∷ []) a.1 in
    let c = all_back (λ s. FitsLimits (outcome s)) (map (λ x. Product x.factor top) p.parts) (Product p.constant top ∷ []) a.1 in
    lowest_small (record { den = p.den *ℤ bottom; parts = parts_of (λ y. factor_of p.parts y *ℤ top) (keys_of p.parts []); constant = p.constant *ℤ top }) (record {
      den = a.0;
      constant = c.0;
      factors = kept_fit (λ y. factor_of p.parts y *ℤ top) (times_fits top p.parts (all_before_map (λ s. FitsLimits (outcome s)) (λ x. Product x.factor top) p.parts m)) (keys_of p.parts []);
    })

opposite_fits : (z : ℤ) → FitsLimits z → FitsLimits (neg_ℤ z)
opposite_fits (pos zero) h = h
opposite_fits (pos (suc n)) h = h
opposite_fits (negsuc n) h = h

combine_fit : (f : Lin) (n : ℕ) (h : Lin) → IsSmall f → IsSmall h → Ok (combine_steps f n h)
combine_fit f n h s t =
    let e = neg_ℤ (factor_of h.parts n) in
    let c = factor_of f.parts n in
    let first = scale_steps e h.den f in
    let second = scale_steps c f.den h in
    let third = plus_steps (multiple_of e h.den f) (multiple_of c f.den h) in
    let ok_first = scale_fit e h.den f (opposite_fits (factor_of h.parts n) (factor_fits h.parts t.factors n)) t.den s in
    let ok_second = scale_fit c f.den h (factor_fits f.parts s.factors n) s.den t in
    let ok_all : Ok (first ++ (second ++ third)) =
    ok_append first (second ++ third) ok_first (λ x. ok_append second third ok_second (λ y. plus_fit (multiple_of e h.den f) (multiple_of c f.den h) (multiple_small e h.den f x) (multiple_small c f.den h y))) in
    subst Ok (sym (append_assoc first second third)) ok_all

-- ---- of each kind of step
pub operands_fit : (s : NumStep) (f : Lin) (k : Option ℕ) (h : Lin) → IsNormal f → IsNormal h → Ok (stated_steps s f k h)
operands_fit step.Plus f None h n m = plus_fit f h (normal_small f n) (normal_small h m)
operands_fit step.Plus f (Some k) h n m = ok_none
operands_fit step.Scale f None h n m = let t = normal_small h m in scale_fit h.constant h.den f t.constant t.den (normal_small f n)
operands_fit step.Scale f (Some k) h n m = ok_none
operands_fit step.Subst f None h n m = ok_none
operands_fit step.Subst f (Some k) h n m = subst_fit f k h (normal_small f n) (normal_small h m)
operands_fit step.Combine f None h n m = ok_none
operands_fit step.Combine f (Some k) h n m = combine_fit f k h (normal_small f n) (normal_small h m)
