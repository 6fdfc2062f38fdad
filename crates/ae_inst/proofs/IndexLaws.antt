-- A match that was taken stands under its owner and its first name.
use Rattle.std.specs.Prelude.{ℕ, zero, suc, ◌≡◌, ◌⊎◌, ◌<◌, ◌≤◌, ◌↔◌, Bool, true, false, ◌&&◌, ◌||◌, nat_eq, List, [], ◌∷◌, ◌++◌, length, slice_get, slice_index_or, Option, Some, None}
use Rattle.std.specs.List.{list_any, Contains}
use Rattle.std.proofs.Common.{refl, sym, ap, ◌∙◌, subst, arith, inl, inr}
use Rattle.std.proofs.lemmas.Bool.{and_parts, eqb-true, or_cases}
use Rattle.std.proofs.lemmas.Map.Keys.{any_passes_from_place}
use Rattle.std.proofs.lemmas.Option.{same_Some}
use Rattle.ae_base.specs.Options.{or_else, ◌>>=◌}
use Rattle.ae_base.proofs.ListFacts.{number_at}
use Rattle.ae_base.proofs.Tests.{same_truths}
use Rattle.ae_core.specs.Sorts.{same_sorts}
use Rattle.ae_store.specs.declared.nodes.Shape.{Shape}
use Rattle.ae_known.specs.Index.{is_listed}
use Rattle.ae_trigger.specs.declared.patterns.Subst.{Subst}
use Rattle.ae_inst.specs.declared.instances.Taken.{Taken}
use Rattle.ae_inst.specs.Index.{key, IsIndex}
use Rattle.ae_inst.specs.Matches.{are_same, is_match, is_match_at, is_match_under}

-- ---- lists
any_place : {X : Type 0} (p : X → Bool) (xs : List X) → list_any p xs ≡ true → (i : ℕ) × (x : X) × (slice_get xs i ≡ Some x) × (p x ≡ true)
any_place p [] e = cc e
any_place p (x ∷ xs) e = elim (or_cases (p x) (list_any p xs) e) as (λ _. (i : ℕ) × (y : _) × (slice_get (x ∷ xs) i ≡ Some y) × (p y ≡ true)) [
  | inl y ↦ (0, x, refl, y)
  | inr n ↦ let r = any_place p xs n in (suc r.0, r.1, r.2, r.3)
]

contains_any : (p : ℕ → Bool) (xs : List ℕ) (x k : ℕ) → k < length xs → slice_index_or xs k x ≡ x → p x ≡ true → list_any p xs ≡ true
contains_any p [] x k l e t = absurd (omega (arith, l))
contains_any p (y ∷ xs) x zero l e t = ap (λ b. b || list_any p xs) (ap p e ∙ t)
contains_any p (y ∷ xs) x (suc k) l e t = by (p y) (contains_any p xs x k (omega (arith, l)) e t)
  where
    by : (b : Bool) → list_any p xs ≡ true → (b || list_any p xs) ≡ true
    by true r = refl
    by false r = r

last_place : {X : Type 0} (xs : List X) (x : X) (i : ℕ) (y : X) → slice_get (xs ++ x ∷ []) i ≡ Some y → (slice_get xs i ≡ Some y) ⊎ ((length xs ≡ i) × (x ≡ y))
last_place [] x zero y e = inr (refl, same_Some x y e)
last_place [] x (suc i) y e = cc e
last_place (z ∷ xs) x zero y e = inl e
last_place (z ∷ xs) x (suc i) y e = elim (last_place xs x i y e) as (λ _. (slice_get (z ∷ xs) (suc i) ≡ Some y) ⊎ ((length (z ∷ xs) ≡ suc i) × (x ≡ y))) [ inl a ↦ inl a | inr b ↦ inr (ap suc b.0, b.1) ]

-- ---- names that are the same one by one
no_first : (alike : ℕ → ℕ → Bool) (ms ns : List ℕ) → are_same alike ms ns ≡ true → slice_get ns 0 ≡ None → slice_get ms 0 ≡ None
no_first alike [] ns e f = refl
no_first alike (m ∷ ms) [] e f = cc e
no_first alike (m ∷ ms) (n ∷ ns) e f = cc f

first_same : (alike : ℕ → ℕ → Bool) (ms ns : List ℕ) (n : ℕ) → are_same alike ms ns ≡ true → slice_get ns 0 ≡ Some n → (m : ℕ) × (slice_get ms 0 ≡ Some m) × (alike m n ≡ true)
first_same alike [] [] n e f = cc f
first_same alike [] (k ∷ ns) n e f = cc e
first_same alike (m ∷ ms) [] n e f = cc e
first_same alike (m ∷ ms) (k ∷ ns) n e f = (m, refl, subst (λ j. alike m j ≡ true) (same_Some k n f) (and_parts (alike m k) (are_same alike ms ns) e).0)

-- ---- what stands under a key
module _ (alike : ℕ → ℕ → Bool) (owner : ℕ) (s : Subst) (ts : List Taken) (places : Shape → Option (List ℕ)) (most : ℕ) (is : IsIndex ts places most) where
  abbrev same : Taken → Bool
  same = is_match alike owner s

  abbrev at_place : ℕ → Bool
  at_place = is_match_at alike owner s ts

  abbrev row : Option ℕ → List ℕ
  row first = or_else (places (key owner first)) []

  sound : (ps : List ℕ) → list_any at_place ps ≡ true → list_any same ts ≡ true
  sound ps e = let r = any_place at_place ps e in go r.1 (slice_get ts r.1) refl r.3
    where
      go : (i : ℕ) (o : Option Taken) → slice_get ts i ≡ o → or_else (o >>= λ t. Some (is_match alike owner s t)) false ≡ true → list_any same ts ≡ true
      go i None at e = cc e
      go i (Some t) at e = any_passes_from_place same ts i t at e

  of_owner : (t : Taken) → same t ≡ true → (t.owner ≡ owner) × (are_same alike t.terms s.terms ≡ true)
  of_owner t e =
      let p = and_parts (nat_eq t.owner owner && same_sorts t.sorts s.sorts) (are_same alike t.terms s.terms) e in
      (eqb-true t.owner owner (and_parts (nat_eq t.owner owner) (same_sorts t.sorts s.sorts) p.0).0, p.1)

  found : (i : ℕ) (t : Taken) (first : Option ℕ) → slice_get ts i ≡ Some t → same t ≡ true → slice_get t.terms 0 ≡ first → list_any at_place (row first) ≡ true
  found i t first at e f =
      let here : is_listed i (row first) ≡ true =
      subst (λ o. is_listed i (row o) ≡ true) f (subst (λ w. is_listed i (or_else (places (key w (slice_get t.terms 0))) []) ≡ true) (of_owner t e).0 (is.0 i t at)) in
      let k = number_at (row first) i here in
      any_passes_from_place at_place (row first) k.0 i k.1 (ap (λ o. or_else (o >>= λ u. Some (is_match alike owner s u)) false) at ∙ e)

  pub under_owner : slice_get s.terms 0 ≡ None → list_any at_place (row None) ≡ list_any same ts
  under_owner f =
      same_truths (list_any at_place (row None)) (list_any same ts) (sound (row None))
      (λ e. let r = any_place same ts e in found r.0 r.1 None r.2 r.3 (no_first alike (r.1).terms s.terms (of_owner r.1 r.3).1 f))

  pub under_first : (n count : ℕ) (names : List ℕ) → slice_get s.terms 0 ≡ Some n → most < count → ((m : ℕ) → m < count → Contains names m ↔ alike n m ≡ true) → ((m : ℕ) → alike m n ≡ true → alike n m ≡ true)
      → list_any (is_match_under alike owner s ts places) names ≡ list_any same ts
  under_first n count names f l all back =
      same_truths (list_any (is_match_under alike owner s ts places) names) (list_any same ts)
      (λ e. let r = any_place (is_match_under alike owner s ts places) names e in sound (row (Some r.1)) r.3)
      (λ e.
      let r = any_place same ts e in
      let a = first_same alike (r.1).terms s.terms n (of_owner r.1 r.3).1 f in
      let w : a.0 < count = omega (arith, is.1 r.0 r.1 a.0 r.2 a.1, l) in
      let c = (all a.0 w).1 (back a.0 a.2) in
      contains_any (is_match_under alike owner s ts places) names a.0 c.0 c.1 c.2 (found r.0 r.1 (Some a.0) r.2 r.3 a.1))

-- ---- what stands there after one more
module _ (ts : List Taken) (old new : Shape → Option (List ℕ)) (most : ℕ) (is : IsIndex ts old most) (grows : (k : Shape) (m : ℕ) → is_listed m (or_else (old k) []) ≡ true → is_listed m (or_else (new k) []) ≡ true) where
  pub index_stays : IsIndex ts new most
  index_stays = (λ i t at. grows (key t.owner (slice_get t.terms 0)) i (is.0 i t at), is.1)

  pub index_more : (t : Taken) (more : ℕ) → is_listed (length ts) (or_else (new (key t.owner (slice_get t.terms 0))) []) ≡ true → most ≤ more → ((a : ℕ) → slice_get t.terms 0 ≡ Some a → a ≤ more)
      → IsIndex (ts ++ t ∷ []) new more
  index_more t more own le top = (listed, bound)
    where
      listed : (i : ℕ) (u : Taken) → slice_get (ts ++ t ∷ []) i ≡ Some u → is_listed i (or_else (new (key u.owner (slice_get u.terms 0))) []) ≡ true
      listed i u at = elim (last_place ts t i u at) as (λ _. is_listed i (or_else (new (key u.owner (slice_get u.terms 0))) []) ≡ true) [
        | inl o ↦ grows (key u.owner (slice_get u.terms 0)) i (is.0 i u o)
        | inr p ↦ subst (λ j. is_listed j (or_else (new (key u.owner (slice_get u.terms 0))) []) ≡ true) p.0 (subst (λ (v : Taken). is_listed (length ts) (or_else (new (key v.owner (slice_get v.terms 0))) []) ≡ true) p.1 own)
      ]

      bound : (i : ℕ) (u : Taken) (a : ℕ) → slice_get (ts ++ t ∷ []) i ≡ Some u → slice_get u.terms 0 ≡ Some a → a ≤ more
      bound i u a at f = elim (last_place ts t i u at) as (λ _. a ≤ more) [
        | inl o ↦ omega (arith, is.1 i u a o f, le)
        | inr p ↦ top a (subst (λ (v : Taken). slice_get v.terms 0 ≡ Some a) (sym p.1) f)
      ]
