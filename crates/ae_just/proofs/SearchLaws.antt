-- A binary search over rising numbers answers the place of a number.
use Rattle.std.specs.Prelude.{ℕ, zero, suc, ◌<◌, ◌≤◌, Bool, true, false, cond, nat_eq, List, [], ◌∷◌, ◌≡◌, length, get_or, slice_get, Some}
use Rattle.std.specs.List.{HoldsAt}
use Rattle.std.specs.List.Sorted.{IsNonDecreasingBy, IsPartitionPoint}
use Rattle.std.specs.Ordering.{ordering_index}
use Rattle.std.proofs.Common.{refl, sym, ap, ◌∙◌, arith, inl, inr, Ordering, Less, Equal, Greater, nat_cmp}
use Rattle.std.proofs.lemmas.Bool.{cases_lt, eqb-true}
use Rattle.std.proofs.lemmas.Option.{slice_get_within, slice_get-get_or}
use Rattle.ae_base.proofs.Orders.{cmp_below, cmp_equal, cmp_above}
use Rattle.ae_just.specs.Needed.{IsRising}
use Rattle.ae_just.specs.Inner.Emitting.{place}
use Rattle.ae_just.proofs.EmitLaws.{place_is}

one_place : (ns : List ℕ) → IsRising ns → (i j k : ℕ) → slice_get ns i ≡ Some k → slice_get ns j ≡ Some k → i ≡ j
one_place ns r i j k e f = elim (cases_lt i j) [
  | inl l ↦ absurd (let w : k < k = r.each i j k k l e f in omega (arith, w))
  | inr l ↦ elim (cases_lt j i) [ inl m ↦ absurd (let w : k < k = r.each j i k k m f e in omega (arith, w)) | inr m ↦ omega (arith, l, m) ]
]

pub found_place : (ns : List ℕ) (i k : ℕ) → IsRising ns → i < length ns → HoldsAt (λ y. nat_cmp y k ≡ Equal) ns i → i ≡ place ns k
found_place ns i k r l h =
    let e : get_or ns i k ≡ k = cmp_equal (get_or ns i k) k (sym (h k)) in
    let f : slice_get ns i ≡ Some k = slice_get-get_or ns i k l ∙ ap Some e in
    one_place ns r i (place ns k) k f (place_is ns k (record { place = i; is = f }))

no_place : (ns : List ℕ) (k : ℕ) → ((j : ℕ) → slice_get ns j ≡ Some k → ⊥) → length ns ≡ place ns k
no_place [] k f = refl
no_place (n ∷ ns) k f = by (nat_eq n k) refl (no_place ns k (λ j e. f (suc j) e))
  where
    by : (b : Bool) → nat_eq n k ≡ b → length ns ≡ place ns k → suc (length ns) ≡ cond b 0 (suc (place ns k))
    by true e h = absurd (f 0 (ap Some (eqb-true n k e)))
    by false e h = ap suc h

rank : ℕ → ℕ → ℕ
rank k y = ordering_index (nat_cmp y k)

rises_by : (o p : Ordering) (a b k : ℕ) → o ≡ nat_cmp a k → p ≡ nat_cmp b k → a ≤ b → ordering_index o ≤ ordering_index p
rises_by Less p a b k e f l = omega arith
rises_by Equal Less a b k e f l = absurd (let x = cmp_equal a k e in let y = cmp_below b k f in omega (arith, x, y, l))
rises_by Equal Equal a b k e f l = omega arith
rises_by Equal Greater a b k e f l = omega arith
rises_by Greater Less a b k e f l = absurd (let x = cmp_above a k e in let y = cmp_below b k f in omega (arith, x, y, l))
rises_by Greater Equal a b k e f l = absurd (let x = cmp_above a k e in let y = cmp_equal b k f in omega (arith, x, y, l))
rises_by Greater Greater a b k e f l = omega arith

rises : (ns : List ℕ) (k : ℕ) → IsRising ns → IsNonDecreasingBy (λ y. ordering_index (nat_cmp y k)) ns
rises ns k r i j d l h = rises_by (nat_cmp (get_or ns i d) k) (nat_cmp (get_or ns j d) k) (get_or ns i d) (get_or ns j d) k refl refl (low ns r i j d l h)
  where
    low : (ns : List ℕ) → IsRising ns → (i j d : ℕ) → i ≤ j → j < length ns → get_or ns i d ≤ get_or ns j d
    low ns r i j d l h = elim (cases_lt i j) [
      | inl m ↦ (let w = r.each i j (get_or ns i d) (get_or ns j d) m (slice_get-get_or ns i d (omega (arith, m, h))) (slice_get-get_or ns j d h) in omega (arith, w))
      | inr m ↦ (let e : i ≡ j = omega (arith, l, m) in let q : get_or ns i d ≡ get_or ns j d = ap (λ n. get_or ns n d) e in omega (arith, q))
    ]

pub missing_place : (ns : List ℕ) (i k : ℕ) → IsRising ns → (IsNonDecreasingBy (λ y. ordering_index (nat_cmp y k)) ns → IsPartitionPoint (λ y. nat_cmp y k ≡ Less) (λ y. nat_cmp y k ≡ Greater) ns i) → length ns ≡ place ns k
missing_place ns i k r f = no_place ns k none
  where
    parts : IsPartitionPoint (λ y. nat_cmp y k ≡ Less) (λ y. nat_cmp y k ≡ Greater) ns i
    parts = f (rises ns k r)

    read : (ns : List ℕ) (j : ℕ) → slice_get ns j ≡ Some k → get_or ns j k ≡ k
    read [] j e = cc e
    read (n ∷ ns) zero e = cc e
    read (n ∷ ns) (suc j) e = read ns j e

    none : (j : ℕ) → slice_get ns j ≡ Some k → ⊥
    none j e =
        let l : j < length ns = slice_get_within ns j k e in
        let q : get_or ns j k ≡ k = read ns j e in
        elim (cases_lt j i) [
          | inl b ↦ (let w = cmp_below (get_or ns j k) k (sym (parts.0 j k (omega arith) b)) in omega (arith, w, q))
          | inr b ↦ (let w = cmp_above (get_or ns j k) k (sym (parts.1 j k b l)) in omega (arith, w, q))
        ]
