-- There is one rising list of the steps that a step rests on.
use Rattle.std.specs.Prelude.{ℕ, zero, suc, ◌<◌, ◌⊎◌, List, [], ◌∷◌, ◌≡◌, slice_get, Some}
use Rattle.std.proofs.Common.{refl, sym, ap, ◌∙◌, arith, inl, inr}
use Rattle.ae_store.specs.Parts.{IsIn}
use Rattle.ae_just.specs.declared.steps.Step.{Step}
use Rattle.ae_just.specs.Needed.{IsRising, AreNeeded, AreTags, tags}

head_in : (a : ℕ) (ks : List ℕ) → IsIn a (a ∷ ks)
head_in a ks = record { place = 0; is = refl }

tail_in : (n a : ℕ) (ks : List ℕ) → IsIn n ks → IsIn n (a ∷ ks)
tail_in n a ks h = record { place = suc h.place; is = h.is }

in_parts : (n a : ℕ) (ks : List ℕ) → IsIn n (a ∷ ks) → (n ≡ a) ⊎ IsIn n ks
in_parts n a ks h = by h.place h.is
  where
    by : (i : ℕ) → slice_get (a ∷ ks) i ≡ Some n → (n ≡ a) ⊎ IsIn n ks
    by zero e = inl (let f : a ≡ n = cc e in sym f)
    by (suc i) e = inr (record { place = i; is = e })

above_head : (n a : ℕ) (ks : List ℕ) → IsRising (a ∷ ks) → IsIn n ks → a < n
above_head n a ks r h = r.each 0 (suc h.place) a n (omega arith) refl h.is

rising_rest : (a : ℕ) (ks : List ℕ) → IsRising (a ∷ ks) → IsRising ks
rising_rest a ks r = record { each = λ i j b c l e f. r.each (suc i) (suc j) b c (omega (arith, l)) e f }

heads_same : (a b : ℕ) (ks ls : List ℕ) → IsRising (a ∷ ks) → IsRising (b ∷ ls) → IsIn a (b ∷ ls) → IsIn b (a ∷ ks) → a ≡ b
heads_same a b ks ls p q f g =
    elim (in_parts a b ls f) [
      | inl e ↦ e
      | inr h ↦ elim (in_parts b a ks g) [
        | inl e ↦ sym e
        | inr k ↦ absurd (let l : b < a = above_head a b ls q h in let m : a < b = above_head b a ks p k in omega (arith, l, m))
      ]
    ]

rest_in : (n a b : ℕ) (ks ls : List ℕ) → IsRising (a ∷ ks) → a ≡ b → IsIn n ks → IsIn n (b ∷ ls) → IsIn n ls
rest_in n a b ks ls p e h f =
    elim (in_parts n b ls f) [
      | inl q ↦ absurd (let l : a < n = above_head n a ks p h in omega (arith, l, e, q))
      | inr k ↦ k
    ]

pub rising_same : (ks ls : List ℕ) → IsRising ks → IsRising ls → ((n : ℕ) → IsIn n ks → IsIn n ls) → ((n : ℕ) → IsIn n ls → IsIn n ks) → ks ≡ ls
rising_same [] [] p q f g = refl
rising_same [] (b ∷ ls) p q f g = let h = g b (head_in b ls) in cc h.is
rising_same (a ∷ ks) [] p q f g = let h = f a (head_in a ks) in cc h.is
rising_same (a ∷ ks) (b ∷ ls) p q f g =
    let e = heads_same a b ks ls p q (f a (head_in a ks)) (g b (head_in b ls)) in
    let rest = rising_same ks ls (rising_rest a ks p) (rising_rest b ls q)
    (λ n h. rest_in n a b ks ls p e h (f n (tail_in n a ks h)))
    (λ n h. rest_in n b a ls ks q (sym e) h (g n (tail_in n b ls h))) in
    λ i. e i ∷ rest i

pub needed_same : (steps : List Step) (id : ℕ) (ks ls : List ℕ) → AreNeeded steps id ks → AreNeeded steps id ls → ks ≡ ls
needed_same steps id ks ls p q = rising_same ks ls p.rising q.rising (λ n h. q.all n (p.sound n h)) (λ n h. p.all n (q.sound n h))

pub tags_same : (steps : List Step) (id : ℕ) (found other : List ℕ) → AreTags steps id found → AreTags steps id other → found ≡ other
tags_same steps id found other p q = p.tags_are ∙ ap (tags steps) (needed_same steps id p.needed q.needed p.are_needed q.are_needed) ∙ sym q.tags_are
