-- The keys of two forms in order, and the first pair of factors.
use Rattle.std.specs.Prelude.{ℕ, pos, ◌≡◌, ◌<◌, ◌+◌, true, false, cond, nat_eq, nat_lt, List, [], ◌∷◌, map, drop, slice_get, Some, None}
use Rattle.std.specs.List.{AllByRecursion}
use Rattle.std.proofs.Common.{arith, refl, sym, ap, ◌∙◌, subst, zero, suc}
use Rattle.std.proofs.lemmas.Bool.{eq-eqb, lt-ltb, le-ltb}
use Rattle.ae_base.proofs.Tests.{nat_eq_below, nat_eq_above}
use Rattle.ae_num.specs.declared.forms.Part.{Part}
use Rattle.ae_num.specs.declared.pairs.Pair.{Pair}
use Rattle.ae_num.specs.declared.pairs.Taken.{Taken}
use Rattle.ae_num.specs.Forms.{factor_of, AllAbove, IsRising, with_key, with_keys, keys_of}
use Rattle.ae_num.specs.Inner.Pairs.{pair_at, pairs_of}

abbrev pub Above : ℕ → List ℕ → Type 0
Above k ys = AllByRecursion (λ y. k < y) ys

abbrev pub Increasing : List ℕ → Type 0
Increasing [] = Unit {0}
Increasing (y ∷ ys) = Above y ys × Increasing ys

-- ---- where a key goes
pub with_key_below : (k : ℕ) (ys : List ℕ) → Above k ys → with_key k ys ≡ k ∷ ys
with_key_below k [] a = refl
with_key_below k (y ∷ ys) a = ap (λ b. cond b (k ∷ y ∷ ys) (cond (nat_eq k y) (y ∷ ys) (y ∷ with_key k ys))) (lt-ltb k y a.0)

with_key_here : (k : ℕ) (ys : List ℕ) → with_key k (k ∷ ys) ≡ k ∷ ys
with_key_here k ys =
    ap (λ b. cond b (k ∷ k ∷ ys) (cond (nat_eq k k) (k ∷ ys) (k ∷ with_key k ys))) (le-ltb k k (omega arith))
    ∙ ap (λ b. cond b (k ∷ ys) (k ∷ with_key k ys)) (eq-eqb k k refl)

with_key_later : (x k : ℕ) (ys : List ℕ) → k < x → with_key x (k ∷ ys) ≡ k ∷ with_key x ys
with_key_later x k ys h =
    ap (λ b. cond b (x ∷ k ∷ ys) (cond (nat_eq x k) (k ∷ ys) (k ∷ with_key x ys))) (le-ltb x k (omega arith))
    ∙ ap (λ b. cond b (k ∷ ys) (k ∷ with_key x ys)) (nat_eq_above x k h)

with_keys_first : (k : ℕ) (ps : List Part) (ys : List ℕ) → AllAbove k ps → with_keys ps (k ∷ ys) ≡ k ∷ with_keys ps ys
with_keys_first k [] ys a = refl
with_keys_first k (p ∷ ps) ys a = ap (with_key p.key) (with_keys_first k ps ys a.1) ∙ with_key_later p.key k (with_keys ps ys) a.0

pub above_with_key : (k x : ℕ) (ys : List ℕ) → k < x → Above k ys → Above k (with_key x ys)
above_with_key k x [] h a = (h, tt)
above_with_key k x (y ∷ ys) h a =
    elim (nat_lt x y) as (λ b. Above k (cond b (x ∷ y ∷ ys) (cond (nat_eq x y) (y ∷ ys) (y ∷ with_key x ys)))) [
      | true ↦ (h, a)
      | false ↦ elim (nat_eq x y) as (λ b. Above k (cond b (y ∷ ys) (y ∷ with_key x ys))) [ true ↦ a | false ↦ (a.0, above_with_key k x ys h a.1) ]
    ]

above_with_keys : (k : ℕ) (ps : List Part) (ys : List ℕ) → AllAbove k ps → Above k ys → Above k (with_keys ps ys)
above_with_keys k [] ys a b = b
above_with_keys k (p ∷ ps) ys a b = above_with_key k p.key (with_keys ps ys) a.0 (above_with_keys k ps ys a.1 b)

above_keys : (k : ℕ) (ps : List Part) → AllAbove k ps → Above k (map (λ q. q.key) ps)
above_keys k [] a = tt
above_keys k (p ∷ ps) a = (a.0, above_keys k ps a.1)

pub lower : (j k : ℕ) (ps : List Part) → j < k → AllAbove k ps → AllAbove j ps
lower j k [] h a = tt
lower j k (p ∷ ps) h a = (let b = a.0 in omega arith, lower j k ps h a.1)

-- ---- factors
pub absent : (k : ℕ) (ps : List Part) → AllAbove k ps → factor_of ps k ≡ pos 0
absent k [] a = refl
absent k (p ∷ ps) a = ap (λ b. cond b p.factor (factor_of ps k)) (nat_eq_above p.key k a.0) ∙ absent k ps a.1

pub factor_head : (p : Part) (ps : List Part) → factor_of (p ∷ ps) p.key ≡ p.factor
factor_head p ps = ap (λ b. cond b p.factor (factor_of ps p.key)) (eq-eqb p.key p.key refl)

pub factor_tail : (p : Part) (ps : List Part) (y : ℕ) → p.key < y → factor_of (p ∷ ps) y ≡ factor_of ps y
factor_tail p ps y h = ap (λ b. cond b p.factor (factor_of ps y)) (nat_eq_below p.key y h)

-- above a key two pairs of lists have the same factors
record Agree (k : ℕ) (ps qs ps' qs' : List Part) : Type 0 where
  left : (y : ℕ) → k < y → factor_of ps y ≡ factor_of ps' y
  right : (y : ℕ) → k < y → factor_of qs y ≡ factor_of qs' y

same_pairs : (k : ℕ) (ps qs ps' qs' : List Part) (ys : List ℕ) → Agree k ps qs ps' qs' → Above k ys → map (pair_at ps qs) ys ≡ map (pair_at ps' qs') ys
same_pairs k ps qs ps' qs' [] g a = refl
same_pairs k ps qs ps' qs' (y ∷ ys) g a = λ i. record { key = y; left = g.left y a.0 i; right = g.right y a.0 i } ∷ same_pairs k ps qs ps' qs' ys g a.1 i

-- ---- the first pair
pub only_left : (p : Part) (ps : List Part) → IsRising (p ∷ ps) → pairs_of (p ∷ ps) [] ≡ record { key = p.key; left = p.factor; right = pos 0 } ∷ pairs_of ps []
only_left p ps r =
    ap (map (pair_at (p ∷ ps) [])) (with_key_below p.key (with_keys ps []) (above_with_keys p.key ps [] r.0 tt))
    ∙ (λ i. record { key = p.key; left = factor_head p ps i; right = pos 0 } ∷ same_pairs p.key (p ∷ ps) [] ps [] (with_keys ps []) (record { left = λ y h. factor_tail p ps y h; right = λ y h. refl }) (above_with_keys p.key ps [] r.0 tt) i)

pub only_right : (q : Part) (qs : List Part) → IsRising (q ∷ qs) → pairs_of [] (q ∷ qs) ≡ record { key = q.key; left = pos 0; right = q.factor } ∷ pairs_of [] qs
only_right q qs r =
    λ i. record { key = q.key; left = pos 0; right = factor_head q qs i } ∷ same_pairs q.key [] (q ∷ qs) [] qs (map (λ x. x.key) qs) (record { left = λ y h. refl; right = λ y h. factor_tail q qs y h }) (above_keys q.key qs r.0) i

pub left_first : (p q : Part) (ps qs : List Part) → IsRising (p ∷ ps) → IsRising (q ∷ qs) → p.key < q.key
    → pairs_of (p ∷ ps) (q ∷ qs) ≡ record { key = p.key; left = p.factor; right = pos 0 } ∷ pairs_of ps (q ∷ qs)
left_first p q ps qs r s h =
    let beyond : AllAbove p.key (q ∷ qs) = (h, lower p.key q.key qs h s.0) in
    let a = above_with_keys p.key ps (map (λ x. x.key) (q ∷ qs)) r.0 (above_keys p.key (q ∷ qs) beyond) in
    ap (map (pair_at (p ∷ ps) (q ∷ qs))) (with_key_below p.key (with_keys ps (map (λ x. x.key) (q ∷ qs))) a)
    ∙ (λ i. record { key = p.key; left = factor_head p ps i; right = absent p.key (q ∷ qs) beyond i } ∷ same_pairs p.key (p ∷ ps) (q ∷ qs) ps (q ∷ qs) (with_keys ps (map (λ x. x.key) (q ∷ qs))) (record { left = λ y g. factor_tail p ps y g; right = λ y g. refl }) a i)

pub right_first : (p q : Part) (ps qs : List Part) → IsRising (p ∷ ps) → IsRising (q ∷ qs) → q.key < p.key
    → pairs_of (p ∷ ps) (q ∷ qs) ≡ record { key = q.key; left = pos 0; right = q.factor } ∷ pairs_of (p ∷ ps) qs
right_first p q ps qs r s h =
    let beyond : AllAbove q.key (p ∷ ps) = (h, lower q.key p.key ps h r.0) in
    let a = above_with_keys q.key (p ∷ ps) (map (λ x. x.key) qs) beyond (above_keys q.key qs s.0) in
    ap (map (pair_at (p ∷ ps) (q ∷ qs))) (with_keys_first q.key (p ∷ ps) (map (λ x. x.key) qs) beyond)
    ∙ (λ i. record { key = q.key; left = absent q.key (p ∷ ps) beyond i; right = factor_head q qs i } ∷ same_pairs q.key (p ∷ ps) (q ∷ qs) (p ∷ ps) qs (with_keys (p ∷ ps) (map (λ x. x.key) qs)) (record { left = λ y g. refl; right = λ y g. factor_tail q qs y g }) a i)

pub both_first : (p q : Part) (ps qs : List Part) → IsRising (p ∷ ps) → IsRising (q ∷ qs) → p.key ≡ q.key
    → pairs_of (p ∷ ps) (q ∷ qs) ≡ record { key = p.key; left = p.factor; right = q.factor } ∷ pairs_of ps qs
both_first p q ps qs r s h =
    let k = p.key in
    let ys = map (λ x. x.key) qs in
    let other : AllAbove k qs = subst (λ j. AllAbove j qs) (sym h) s.0 in
    let a = above_with_keys k ps ys r.0 (above_keys k qs other) in
    let keys : keys_of (p ∷ ps) (q ∷ qs) ≡ k ∷ with_keys ps ys =
    ap (λ j. with_key k (with_keys ps (j ∷ ys))) (sym h) ∙ ap (with_key k) (with_keys_first k ps ys r.0) ∙ with_key_here k (with_keys ps ys) in
    let at : factor_of (q ∷ qs) k ≡ q.factor = ap (factor_of (q ∷ qs)) h ∙ factor_head q qs in
    let after : (y : ℕ) → k < y → factor_of (q ∷ qs) y ≡ factor_of qs y = λ y g. factor_tail q qs y (subst (λ j. j < y) h g) in
    ap (map (pair_at (p ∷ ps) (q ∷ qs))) keys
    ∙ (λ i. record { key = k; left = factor_head p ps i; right = at i } ∷ same_pairs k (p ∷ ps) (q ∷ qs) ps qs (with_keys ps ys) (record { left = λ y g. factor_tail p ps y g; right = after }) a i)

pub IsRising-drop : (n : ℕ) (ps : List Part) → IsRising ps → IsRising (drop n ps)
IsRising-drop zero ps r = r
IsRising-drop (suc n) [] r = tt
IsRising-drop (suc n) (p ∷ ps) r = IsRising-drop n ps r.1

-- ---- the first pair as it is taken
pub after_left : (ps qs : List Part) (p : Part) → IsRising ps → slice_get ps 0 ≡ Some p → slice_get qs 0 ≡ None
    → pairs_of ps qs ≡ record { key = p.key; left = p.factor; right = pos 0 } ∷ pairs_of (drop 1 ps) (drop 0 qs)
after_left [] qs p r e d = cc
after_left (x ∷ ps) (y ∷ qs) p r e d = cc
after_left (x ∷ ps) [] p r e d =
    let same : x ≡ p = cc in
    subst (λ z. pairs_of (x ∷ ps) [] ≡ record { key = z.key; left = z.factor; right = pos 0 } ∷ pairs_of ps []) same (only_left x ps r)

pub after_right : (ps qs : List Part) (q : Part) → IsRising qs → slice_get ps 0 ≡ None → slice_get qs 0 ≡ Some q
    → pairs_of ps qs ≡ record { key = q.key; left = pos 0; right = q.factor } ∷ pairs_of (drop 0 ps) (drop 1 qs)
after_right (x ∷ ps) qs q r e d = cc
after_right [] [] q r e d = cc
after_right [] (y ∷ qs) q r e d =
    let same : y ≡ q = cc in
    subst (λ z. pairs_of [] (y ∷ qs) ≡ record { key = z.key; left = pos 0; right = z.factor } ∷ pairs_of [] qs) same (only_right y qs r)

pub after_less : (ps qs : List Part) (p q : Part) → IsRising ps → IsRising qs → slice_get ps 0 ≡ Some p → slice_get qs 0 ≡ Some q → p.key < q.key
    → pairs_of ps qs ≡ record { key = p.key; left = p.factor; right = pos 0 } ∷ pairs_of (drop 1 ps) (drop 0 qs)
after_less [] qs p q r s e d h = cc
after_less (x ∷ ps) [] p q r s e d h = cc
after_less (x ∷ ps) (y ∷ qs) p q r s e d h =
    let same : x ≡ p = cc in
    let other : y ≡ q = cc in
    subst (λ z. pairs_of (x ∷ ps) (y ∷ qs) ≡ record { key = z.key; left = z.factor; right = pos 0 } ∷ pairs_of ps (y ∷ qs)) same
    (left_first x y ps qs r s (subst (λ z. z.key < y.key) (sym same) (subst (λ z. p.key < z.key) (sym other) h)))

pub after_greater : (ps qs : List Part) (p q : Part) → IsRising ps → IsRising qs → slice_get ps 0 ≡ Some p → slice_get qs 0 ≡ Some q → q.key < p.key
    → pairs_of ps qs ≡ record { key = q.key; left = pos 0; right = q.factor } ∷ pairs_of (drop 0 ps) (drop 1 qs)
after_greater [] qs p q r s e d h = cc
after_greater (x ∷ ps) [] p q r s e d h = cc
after_greater (x ∷ ps) (y ∷ qs) p q r s e d h =
    let same : x ≡ p = cc in
    let other : y ≡ q = cc in
    subst (λ z. pairs_of (x ∷ ps) (y ∷ qs) ≡ record { key = z.key; left = pos 0; right = z.factor } ∷ pairs_of (x ∷ ps) qs) other
    (right_first x y ps qs r s (subst (λ z. y.key < z.key) (sym same) (subst (λ z. z.key < p.key) (sym other) h)))

pub after_equal : (ps qs : List Part) (p q : Part) → IsRising ps → IsRising qs → slice_get ps 0 ≡ Some p → slice_get qs 0 ≡ Some q → p.key ≡ q.key
    → pairs_of ps qs ≡ record { key = p.key; left = p.factor; right = q.factor } ∷ pairs_of (drop 1 ps) (drop 1 qs)
after_equal [] qs p q r s e d h = cc
after_equal (x ∷ ps) [] p q r s e d h = cc
after_equal (x ∷ ps) (y ∷ qs) p q r s e d h =
    let same : x ≡ p = cc in
    let other : y ≡ q = cc in
    let keys : x.key ≡ y.key = ap (λ z. z.key) same ∙ h ∙ sym (ap (λ z. z.key) other) in
    subst (λ z. pairs_of (x ∷ ps) (y ∷ qs) ≡ record { key = z.key; left = z.factor; right = q.factor } ∷ pairs_of ps qs) same
    (subst (λ z. pairs_of (x ∷ ps) (y ∷ qs) ≡ record { key = x.key; left = x.factor; right = z.factor } ∷ pairs_of ps qs) other (both_first x y ps qs r s keys))

pub at_drop : (i : ℕ) (ps : List Part) → slice_get (drop i ps) 0 ≡ slice_get ps i
at_drop zero ps = refl
at_drop (suc i) [] = refl
at_drop (suc i) (p ∷ ps) = at_drop i ps

drop-drop : (i m : ℕ) (ps : List Part) → drop m (drop i ps) ≡ drop (i + m) ps
drop-drop zero m ps = ap (λ k. drop k ps) (omega arith)
drop-drop (suc i) m [] = drop_nothing m ∙ sym (drop_nothing (suc i + m))
  where
    drop_nothing : (k : ℕ) → ◌≡◌ {A = List Part} (drop k []) []
    drop_nothing zero = refl
    drop_nothing (suc k) = refl
drop-drop (suc i) m (p ∷ ps) =
    let e : suc i + m ≡ suc (i + m) = omega arith in
    drop-drop i m ps ∙ sym (ap (λ k. drop k (p ∷ ps)) e)

-- the same, for what was taken
pub taken : (ps qs : List Part) (i j : ℕ) (r : Pair) (m n : ℕ) (t : Taken) → t ≡ record { pair = r; left = m; right = n }
    → pairs_of (drop i ps) (drop j qs) ≡ r ∷ pairs_of (drop m (drop i ps)) (drop n (drop j qs)) → pairs_of (drop i ps) (drop j qs) ≡ t.pair ∷ pairs_of (drop (i + t.left) ps) (drop (j + t.right) qs)
taken ps qs i j r m n t e h =
    subst (λ u. pairs_of (drop i ps) (drop j qs) ≡ u.pair ∷ pairs_of (drop (i + u.left) ps) (drop (j + u.right) qs)) (sym e)
    (h ∙ (λ k. r ∷ pairs_of (drop-drop i m ps k) (drop-drop j n qs k)))

pub place_after : (ps : List Part) (i : ℕ) → slice_get ps i ≡ None → drop i ps ≡ []
place_after [] zero e = refl
place_after [] (suc i) e = refl
place_after (x ∷ ps) zero e = cc
place_after (x ∷ ps) (suc i) e = place_after ps i e
