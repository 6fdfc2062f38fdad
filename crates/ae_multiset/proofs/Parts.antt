-- Parts of rising lists, from one place of each on.
use Rattle.std.proofs.Common.{◌≡◌, ◌≢◌, Bool, true, false, Decides, MatchBool, nat_eq, refl, ℕ, zero, suc, ◌+◌, ◌<◌, ◌≤◌, List, [], ◌∷◌, length, get_or, drop, inl, inr, ap, subst, sym, ◌∙◌, arith}
use Rattle.std.proofs.lemmas.Bool.{cases_eq, false≢true}
use Rattle.std.proofs.lemmas.Bool.Decides.{Decides-eqb}
use Rattle.std.proofs.lemmas.List.{drop_all, drop_more}
use Rattle.ae_multiset.specs.Multisets.{count, IsPart}
use Rattle.ae_multiset.proofs.Counts.{count_same, count_other}
use Rattle.ae_multiset.proofs.Rising.{Rises}
use Rattle.ae_multiset.proofs.Merging.{none_from}

pub drop_rises : (xs : List ℕ) (i : ℕ) → Rises xs → Rises (drop i xs)
drop_rises xs zero h = h
drop_rises [] (suc i) h = tt
drop_rises (x ∷ xs) (suc i) h = drop_rises xs i h.1

-- whether the rests are a part and a whole as the lists are
pub record IsPartFrom (small large : List ℕ) (i j : ℕ) : Type 0 where
  pub small_in : i ≤ length small
  pub large_in : j ≤ length large
  pub rest : IsPart small large → IsPart (drop i small) (drop j large)
  pub whole : IsPart (drop i small) (drop j large) → IsPart small large

-- the same name in front of both changes their counts alike
split : (z x : ℕ) (xs ys : List ℕ) → count z (x ∷ xs) + count z ys ≡ count z (x ∷ ys) + count z xs
split z x xs ys = omega arith

module _ (small large : List ℕ) (i j : ℕ) (m : IsPartFrom small large i j) where
  here : (i_in : i < length small) → count (get_or small i 0) (drop i small) ≡ 1 + count (get_or small i 0) (drop (i + 1) small)
  here i_in = ap (count (get_or small i 0)) (drop_more small i 0 i_in) ∙ count_same (get_or small i 0) (drop (i + 1) small)

  -- a name that the whole lacks
  pub misses : Rises large → i < length small → j < length large → get_or small i 0 < get_or large j 0 → IsPart small large → ⊥
  misses r i_in j_in l p = omega (arith, (m.rest p).each (get_or small i 0), here i_in, none_from (get_or small i 0) large j (drop_rises large j r) j_in l)

  pub lacks : i < length small → length large ≤ j → IsPart small large → ⊥
  lacks i_in o p = omega (arith, (m.rest p).each (get_or small i 0), here i_in, ap (count (get_or small i 0)) (drop_all j large o))

  pub complete : length small ≤ i → IsPart small large
  complete o = m.whole (record { each = λ x. omega (arith, ap (count x) (drop_all i small o)) })

  -- a name that both have
  pub both_have : i < length small → j < length large → get_or small i 0 ≡ get_or large j 0 → IsPartFrom small large (i + 1) (j + 1)
  both_have i_in j_in e = record {
    small_in = omega arith;
    large_in = omega arith;
    rest = λ p. record { each = λ z. omega (arith, (m.rest p).each z, split z (get_or small i 0) (drop (i + 1) small) (drop (j + 1) large), at_small z, at_large z) };
    whole = λ p. m.whole (record { each = λ z. omega (arith, p.each z, split z (get_or small i 0) (drop (i + 1) small) (drop (j + 1) large), at_small z, at_large z) });
  }
    where
      at_small : (z : ℕ) → count z (drop i small) ≡ count z (get_or small i 0 ∷ drop (i + 1) small)
      at_small z = ap (count z) (drop_more small i 0 i_in)

      at_large : (z : ℕ) → count z (drop j large) ≡ count z (get_or small i 0 ∷ drop (j + 1) large)
      at_large z = ap (count z) (subst (λ (w : ℕ). drop j large ≡ w ∷ drop (j + 1) large) (sym e) (drop_more large j 0 j_in))

  -- a name that the part lacks
  pub passes : Rises small → i < length small → j < length large → get_or large j 0 < get_or small i 0 → IsPartFrom small large i (j + 1)
  passes r i_in j_in l = record {
    small_in = m.small_in;
    large_in = omega arith;
    rest = λ p. record { each = λ z. lighter z ((m.rest p).each z) };
    whole = λ p. m.whole (record { each = λ z. omega (arith, p.each z, at_large z, heavier z) });
  }
    where
      at_large : (z : ℕ) → count z (drop j large) ≡ count z (get_or large j 0 ∷ drop (j + 1) large)
      at_large z = ap (count z) (drop_more large j 0 j_in)

      heavier : (z : ℕ) → count z (drop (j + 1) large) ≤ count z (get_or large j 0 ∷ drop (j + 1) large)
      heavier z = omega arith

      lighter : (z : ℕ) → count z (drop i small) ≤ count z (drop j large) → count z (drop i small) ≤ count z (drop (j + 1) large)
      lighter z h = elim (cases_eq z (get_or large j 0)) as (λ _. count z (drop i small) ≤ count z (drop (j + 1) large)) [
        | inl q ↦ omega (arith, none_from z small i (drop_rises small i r) i_in (omega arith))
        | inr d ↦ omega (arith, h, at_large z, count_other z (get_or large j 0) (drop (j + 1) large) d)
      ]

pub by_equality : (m n : ℕ) (A B : Type 0) → (m ≡ n → A) → (m ≢ n → B) → MatchBool (nat_eq m n) A B
by_equality m n A B a b = by_answer (nat_eq m n) (Decides-eqb m n)
  where
    by_answer : (r : Bool) → Decides r (m ≡ n) → MatchBool r A B
    by_answer true d = a (d.0 refl)
    by_answer false d = b (λ e. absurd (false≢true (d.1 e)))
