-- Descents of multisets by representatives and by rules that are over representatives: what the representatives reduce to.
use Rattle.std.specs.Prelude.{ℕ, ◌<◌, List, [], ◌∷◌, ◌++◌, ◌≡◌, map}
use Rattle.std.proofs.Common.{refl, sym, ap, ◌∙◌, subst, arith, inl, inr}
use Rattle.std.proofs.lemmas.Bool.{cases_eq}
use Rattle.std.proofs.lemmas.List.{map-append}
use Rattle.ae_base.proofs.AllOf.{all_append, all_from_places}
use Rattle.ae_base.proofs.ListFacts.{cons_same}
use Rattle.ae_descents.specs.Descents.{Descends}
use Rattle.ae_descents.specs.Descents.Descends.{itself, by_name, by_rule}
use Rattle.ae_multiset.specs.Multisets.{count, IsSame, minus}
use Rattle.ae_multiset.specs.Rewriting.{ReducesTo, Joins}
use Rattle.ae_multiset.specs.Rewriting.ReducesTo.{done, more}
use Rattle.ae_multiset.proofs.Counts.{count-append, count-minus, count_same, count_other, length_same, same, then}
use Rattle.ae_multiset.proofs.Confluence.{from_same}
use Rattle.ae_multiset_steps.proofs.Lists.{counted, count_at}
use Rattle.ae_settled.specs.Swept.{AreOwn}

-- ---- multisets with other names
-- a name that stands in a list, with what stands before and after it
pub split_at : (x : ℕ) (ys : List ℕ) → 0 < count x ys → (l : List ℕ) × (r : List ℕ) × (ys ≡ l ++ x ∷ r)
split_at x [] h = absurd (omega (arith, h))
split_at x (y ∷ ys) h =
    elim (cases_eq x y) as (λ _. (l : List ℕ) × (r : List ℕ) × (y ∷ ys ≡ l ++ x ∷ r)) [
      | inl e ↦ ([], ys, ap (λ (z : ℕ). z ∷ ys) (sym e))
      | inr d ↦ let s = split_at x ys (omega (arith, h, count_other x y ys d)) in (y ∷ s.0, s.1, ap (λ (zs : List ℕ). y ∷ zs) s.2)
    ]

pub same_of : (a b : List ℕ) → a ≡ b → IsSame a b
same_of a b e = subst (IsSame a) e (same a)

-- one multiset with others in the place of its names is one multiset
pub same_mapped : (f : ℕ → ℕ) (a b : List ℕ) → IsSame a b → IsSame (map f a) (map f b)
same_mapped f [] [] s = same []
same_mapped f [] (y ∷ ys) s = absurd (let e = length_same [] (y ∷ ys) s in omega (arith, e))
same_mapped f (x ∷ xs) b s =
    let q = split_at x b (omega (arith, count_same x xs, s.each x)) in
    let l = q.0 in
    let r = q.1 in
    let whole : IsSame (x ∷ xs) (l ++ x ∷ r) = subst (IsSame (x ∷ xs)) q.2 s in
    let rest : IsSame xs (l ++ r) = record { each = λ y. omega (arith, whole.each y, count-append y l (x ∷ r), count-append y l r) } in
    let ih : IsSame (map f xs) (map f (l ++ r)) = same_mapped f xs (l ++ r) rest in
    subst (λ (zs : List ℕ). IsSame (f x ∷ map f xs) (map f zs)) (sym q.2)
    (record {
      each = λ y.
          omega (
            arith,
            ih.each y,
            ap (count y) (map-append f l r),
            ap (count y) (map-append f l (x ∷ r)),
            count-append y (map f l) (map f r),
            count-append y (map f l) (f x ∷ map f r),
          );
    })

-- ---- names that are their own representatives
pub own_is : (rep : ℕ → ℕ) (xs : List ℕ) → AreOwn rep xs → map rep xs ≡ xs
own_is rep [] a = refl
own_is rep (x ∷ xs) a = cons_same (rep x) x (map rep xs) xs a.0 (own_is rep xs a.1)

own_minus : (rep : ℕ → ℕ) (a b : List ℕ) → AreOwn rep a → AreOwn rep (minus a b)
own_minus rep a b o = all_from_places (λ n. rep n ≡ n) (minus a b) (λ k x e. counted (λ n. rep n ≡ n) x a o (let c = count_at (minus a b) k x e in omega (arith, c, count-minus x a b)))

-- what is put for a left side, beside what is left of another
pub own_result : (rep : ℕ → ℕ) (r a b : List ℕ) → AreOwn rep r → AreOwn rep a → AreOwn rep (r ++ minus a b)
own_result rep r a b o p = all_append (λ n. rep n ≡ n) r (minus a b) o (own_minus rep a b p)

-- ---- descents
module _ (rep : ℕ → ℕ) (R : List ℕ → List ℕ → Type 0) (own : (n : ℕ) → rep (rep n) ≡ rep n) (sides : (l r : List ℕ) → R l r → AreOwn rep l × AreOwn rep r) where
  mapped_beside : (l rest : List ℕ) → AreOwn rep l → map rep (l ++ rest) ≡ l ++ map rep rest
  mapped_beside l rest o = map-append rep l rest ∙ ap (λ (xs : List ℕ). xs ++ map rep rest) (own_is rep l o)

  pub descent_reduces : {a b : List ℕ} → Descends (λ n r. rep n ≡ r) R a b → ReducesTo R (map rep a) (map rep b)
  descent_reduces {a} {b} (itself s) = done (same_mapped rep a b s)
  descent_reduces {a} {b} (by_name n r rest s h d) =
      let e : rep n ≡ rep r = sym (own n) ∙ ap rep h in
      let here : IsSame (map rep a) (map rep (n ∷ rest)) = same_mapped rep a (n ∷ rest) s in
      let there : IsSame (map rep (n ∷ rest)) (map rep (r ∷ rest)) = same_of (map rep (n ∷ rest)) (map rep (r ∷ rest)) (ap (λ (z : ℕ). z ∷ map rep rest) e) in
      from_same R (then here there) (descent_reduces d)
  descent_reduces {a} {b} (by_rule l r rest s h d) =
      let o = sides l r h in
      more (record {
        left = l;
        right = r;
        rule = h;
        rest = map rep rest;
        before = then (same_mapped rep a (l ++ rest) s) (same_of (map rep (l ++ rest)) (l ++ map rep rest) (mapped_beside l rest o.0));
        after = same_of (map rep (r ++ rest)) (r ++ map rep rest) (mapped_beside r rest o.1);
      }) (descent_reduces d)

  -- where both descend to one multiset, their representatives join
  pub descents_join : (a b c : List ℕ) → Descends (λ n r. rep n ≡ r) R a c → Descends (λ n r. rep n ≡ r) R b c → Joins R (map rep a) (map rep b)
  descents_join a b c d e = record { at = map rep c; first = descent_reduces d; second = descent_reduces e }

  -- multisets of representatives join themselves
  pub own_join : (a b c : List ℕ) → AreOwn rep a → AreOwn rep b → Descends (λ n r. rep n ≡ r) R a c → Descends (λ n r. rep n ≡ r) R b c → Joins R a b
  own_join a b c o p d e = subst (λ (z : List ℕ × List ℕ). Joins R z.0 z.1) (λ i. (own_is rep a o i, own_is rep b p i)) (descents_join a b c d e)
