use Rattle.std.proofs.Common.{◌≡◌, ℕ, ◌<◌, List, [], ◌∷◌, ◌++◌, refl, sym, ap, arith, Option, Some, None, inl, inr, if◌then◌else◌}
use Rattle.std.proofs.lemmas.Bool.{cases_order, eq-eqb, ne_eqb}
use Rattle.std.proofs.lemmas.Bool.Decides.{nat_tests}
use Rattle.ae_pmap.specs.Pairs.{put_in, take_out, found, with_at, AllAbove, Rises}

-- each key is below this one
abbrev pub AllBelow : ℕ → List (ℕ × ℕ) → Type 0
AllBelow key [] = Unit {0}
AllBelow key (p ∷ ps) = (p.0 < key) × AllBelow key ps

pub above_more : (a b : ℕ) (ps : List (ℕ × ℕ)) → a < b → AllAbove b ps → AllAbove a ps
above_more a b [] l h = tt
above_more a b (p ∷ ps) l h = (omega (arith, h.0), above_more a b ps l h.1)

above_part : (a k u : ℕ) (ps qs : List (ℕ × ℕ)) → AllAbove a (ps ++ (k, u) ∷ qs) → AllAbove a ps × (a < k) × AllAbove a qs
above_part a k u [] qs h = (tt, h.0, h.1)
above_part a k u (p ∷ ps) qs h = let r = above_part a k u ps qs h.1 in ((h.0, r.0), r.1, r.2)

-- what rises, at a pair inside
pub record Parted (k : ℕ) (ps qs : List (ℕ × ℕ)) : Type 0 where
  pub below : AllBelow k ps
  pub above : AllAbove k qs
  pub first : Rises ps
  pub second : Rises qs

pub parted : (k u : ℕ) (ps qs : List (ℕ × ℕ)) → Rises (ps ++ (k, u) ∷ qs) → Parted k ps qs
parted k u [] qs h = record { below = tt; above = h.0; first = tt; second = h.1 }
parted k u (p ∷ ps) qs h =
    let r = parted k u ps qs h.1 in
    let a = above_part p.0 k u ps qs h.0 in
    record { below = (a.1, r.below); above = r.above; first = (a.0, r.first); second = r.second }

pub put-left : (key v k u : ℕ) (ps qs : List (ℕ × ℕ)) → key < k → put_in key v (ps ++ (k, u) ∷ qs) ≡ put_in key v ps ++ (k, u) ∷ qs
put-left key v k u [] qs h = grind (arith, nat_tests)
put-left key v k u (p ∷ ps) qs h = grind (arith, nat_tests, put-left key v k u ps qs h)

pub put-here : (v k u : ℕ) (ps qs : List (ℕ × ℕ)) → AllBelow k ps → put_in k v (ps ++ (k, u) ∷ qs) ≡ ps ++ (k, v) ∷ qs
put-here v k u [] qs h = grind (arith, nat_tests)
put-here v k u (p ∷ ps) qs h = grind (arith, nat_tests, put-here v k u ps qs h.1, h.0)

pub put-right : (key v k u : ℕ) (ps qs : List (ℕ × ℕ)) → k < key → AllBelow k ps → put_in key v (ps ++ (k, u) ∷ qs) ≡ ps ++ (k, u) ∷ put_in key v qs
put-right key v k u [] qs l h = grind (arith, nat_tests)
put-right key v k u (p ∷ ps) qs l h = grind (arith, nat_tests, put-right key v k u ps qs l h.1, h.0)

-- nothing is taken out where every key is above
out-none : (key : ℕ) (ps : List (ℕ × ℕ)) → AllAbove key ps → take_out key ps ≡ ps
out-none key [] h = refl
out-none key (p ∷ ps) h = grind (arith, nat_tests, out-none key ps h.1, h.0)

pub out-left : (key k u : ℕ) (ps qs : List (ℕ × ℕ)) → key < k → AllAbove k qs → take_out key (ps ++ (k, u) ∷ qs) ≡ take_out key ps ++ (k, u) ∷ qs
out-left key k u [] qs h a = grind (arith, nat_tests, out-none key qs (above_more key k qs h a))
out-left key k u (p ∷ ps) qs h a = grind (arith, nat_tests, out-left key k u ps qs h a)

pub out-here : (k u : ℕ) (ps qs : List (ℕ × ℕ)) → AllBelow k ps → take_out k (ps ++ (k, u) ∷ qs) ≡ ps ++ qs
out-here k u [] qs h = grind (arith, nat_tests)
out-here k u (p ∷ ps) qs h = grind (arith, nat_tests, out-here k u ps qs h.1, h.0)

pub out-right : (key k u : ℕ) (ps qs : List (ℕ × ℕ)) → k < key → AllBelow k ps → take_out key (ps ++ (k, u) ∷ qs) ≡ ps ++ (k, u) ∷ take_out key qs
out-right key k u [] qs l h = grind (arith, nat_tests)
out-right key k u (p ∷ ps) qs l h = grind (arith, nat_tests, out-right key k u ps qs l h.1, h.0)

put_above : (a key v : ℕ) (ps : List (ℕ × ℕ)) → a < key → AllAbove a ps → AllAbove a (put_in key v ps)
put_above a key v [] l h = (l, tt)
put_above a key v (p ∷ ps) l h = grind (arith, nat_tests, put_above a key v ps l h.1, h.0, h.1)

out_above : (a key : ℕ) (ps : List (ℕ × ℕ)) → AllAbove a ps → AllAbove a (take_out key ps)
out_above a key [] h = tt
out_above a key (p ∷ ps) h = grind (arith, nat_tests, out_above a key ps h.1, h.0, h.1)

pub found_left : (q k u : ℕ) (ps qs : List (ℕ × ℕ)) → q < k → AllAbove k qs → found (ps ++ (k, u) ∷ qs) q ≡ found ps q
found_left q k u [] qs l h = grind (arith, nat_tests, found_none q qs (above_more q k qs l h))
  where
    found_none : (q : ℕ) (qs : List (ℕ × ℕ)) → AllAbove q qs → found qs q ≡ None
    found_none q [] h = refl
    found_none q (p ∷ ps) h = grind (arith, nat_tests, found_none q ps h.1, h.0)
found_left q k u (p ∷ ps) qs l h = grind (arith, nat_tests, found_left q k u ps qs l h)

pub found_right : (q k u : ℕ) (ps qs : List (ℕ × ℕ)) → k < q → AllBelow k ps → found (ps ++ (k, u) ∷ qs) q ≡ found qs q
found_right q k u [] qs l h = grind (arith, nat_tests)
found_right q k u (p ∷ ps) qs l h = grind (arith, nat_tests, found_right q k u ps qs l h.1, h.0)

pub found_here : (k u : ℕ) (ps qs : List (ℕ × ℕ)) → AllBelow k ps → found (ps ++ (k, u) ∷ qs) k ≡ Some u
found_here k u [] qs h = grind (arith, nat_tests)
found_here k u (p ∷ ps) qs h = grind (arith, nat_tests, found_here k u ps qs h.1, h.0)

pub put_rises : (key v : ℕ) (ps : List (ℕ × ℕ)) → Rises ps → Rises (put_in key v ps)
put_rises key v [] h = (tt, tt)
put_rises key v (p ∷ ps) h =
    elim (cases_order key p.0) as (λ _. Rises (put_in key v (p ∷ ps))) [
      | inl e ↦ grind (arith, nat_tests, h.0, h.1)
      | inr o ↦ elim o as (λ _. Rises (put_in key v (p ∷ ps))) [
        | inl lt ↦ grind (arith, nat_tests, above_more key p.0 ps lt h.0, h.0, h.1)
        | inr gt ↦ grind (arith, nat_tests, put_above p.0 key v ps gt h.0, put_rises key v ps h.1)
      ]
    ]

pub out_rises : (key : ℕ) (ps : List (ℕ × ℕ)) → Rises ps → Rises (take_out key ps)
out_rises key [] h = tt
out_rises key (p ∷ ps) h = grind (arith, nat_tests, out_above p.0 key ps h.0, out_rises key ps h.1, h.1)

-- ---- a map changed at a key
pub at_same : {A : Type 0} (m : ℕ → Option A) (key : ℕ) (o : Option A) → with_at m key o key ≡ o
at_same m key o = ap (λ b. if b then o else m key) (eq-eqb key key refl)

pub at_other : {A : Type 0} (m : ℕ → Option A) (key : ℕ) (o : Option A) (q : ℕ) → (q ≡ key → ⊥) → with_at m key o q ≡ m q
at_other m key o q n = ap (λ b. if b then o else m q) (ne_eqb key q (λ e. n (sym e)))
