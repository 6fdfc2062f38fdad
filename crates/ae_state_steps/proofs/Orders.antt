-- Lists of the same names are orders of one another, with what stands for each name too.
use Rattle.std.specs.Prelude.{ℕ, ◌<◌, ◌≡◌, List, [], ◌∷◌, ◌++◌}
use Rattle.std.specs.List.{flat_map}
use Rattle.std.specs.List.Sorted.{IsPermutation}
use Rattle.std.proofs.Common.{sym, ap, ◌∙◌, subst, arith, inl, inr, append_assoc}
use Rattle.std.proofs.lemmas.Bool.{cases_eq}
use Rattle.std.proofs.lemmas.Grind.{flat_map-append}
use Rattle.std.proofs.lemmas.List.Sorted.{IsPermutation-refl, IsPermutation-trans, IsPermutation-append_comm, IsPermutation-append_left, IsPermutation-append_right}
use Rattle.ae_multiset.specs.Multisets.{count, IsSame}
use Rattle.ae_multiset.proofs.Counts.{count-append, count_same, count_other}

-- a name that is there parts the list
pub record Parts (x : ℕ) (ys : List ℕ) : Type 0 where
  pub before : List ℕ
  pub after : List ℕ
  pub is : ys ≡ before ++ x ∷ after

parts_at : (x : ℕ) (ys : List ℕ) → 0 < count x ys → Parts x ys
parts_at x [] h = absurd (omega (arith, h))
parts_at x (y ∷ ys) h = elim (cases_eq x y) [
  | inl e ↦ record { before = []; after = ys; is = ap (λ (z : ℕ). z ∷ ys) (sym e) }
  | inr d ↦ (
      let r = parts_at x ys (omega (arith, h, count_other x y ys d)) in
      record { before = y ∷ r.before; after = r.after; is = ap (λ (zs : List ℕ). y ∷ zs) r.is })
]

-- without it the counts are the same again
rest_same : (x : ℕ) (xs before after : List ℕ) → IsSame (x ∷ xs) (before ++ x ∷ after) → IsSame xs (before ++ after)
rest_same x xs before after s = record {
  each = λ z. elim (cases_eq z x) [
    | inl e ↦ subst (λ (w : ℕ). count w xs ≡ count w (before ++ after)) (sym e)
        (omega (arith, s.each x, count_same x xs, count-append x before (x ∷ after), count_same x after, count-append x before after))
    | inr d ↦ omega (arith, s.each z, count_other z x xs d, count-append z before (x ∷ after), count_other z x after d, count-append z before after)
  ];
}

module _ {X : Type 0} (f : ℕ → List X) where
  -- a piece moves to its place
  moved : (g p q : List X) → IsPermutation (g ++ (p ++ q)) (p ++ (g ++ q))
  moved g p q =
      subst (λ l. IsPermutation l (p ++ (g ++ q))) (append_assoc g p q) (subst (λ r. IsPermutation ((g ++ p) ++ q) r) (append_assoc p g q) (IsPermutation-append_left q (g ++ p) (p ++ g) (IsPermutation-append_comm g p)))

  pub same_orders : (xs ys : List ℕ) → IsSame xs ys → IsPermutation (flat_map f xs) (flat_map f ys)
  same_orders [] [] s = IsPermutation-refl []
  same_orders [] (y ∷ ys) s = absurd (omega (arith, s.each y, count_same y ys))
  same_orders (x ∷ xs) ys s =
      let r = parts_at x ys (omega (arith, s.each x, count_same x xs)) in
      let rest : IsSame xs (r.before ++ r.after) = rest_same x xs r.before r.after (subst (λ (l : List ℕ). IsSame (x ∷ xs) l) r.is s) in
      let ih : IsPermutation (flat_map f xs) (flat_map f r.before ++ flat_map f r.after) = subst (λ l. IsPermutation (flat_map f xs) l) (flat_map-append f r.before r.after) (same_orders xs (r.before ++ r.after) rest) in
      let there : flat_map f ys ≡ flat_map f r.before ++ (f x ++ flat_map f r.after) = ap (flat_map f) r.is ∙ flat_map-append f r.before (x ∷ r.after) in
      subst (λ l. IsPermutation (f x ++ flat_map f xs) l) (sym there)
      (IsPermutation-trans (f x ++ flat_map f xs) (f x ++ (flat_map f r.before ++ flat_map f r.after)) (flat_map f r.before ++ (f x ++ flat_map f r.after))
      (IsPermutation-append_right (f x) (flat_map f xs) (flat_map f r.before ++ flat_map f r.after) ih) (moved (f x) (flat_map f r.before) (flat_map f r.after)))
