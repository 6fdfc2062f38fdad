-- Lists as the writers put them: a blank before each value, and what closes the list.
use Rattle.std.proofs.Common.{ℕ, List, [], ◌∷◌, ◌++◌, ◌≡◌, Bool, true, false, not, ◌&&◌, suc, map, decimal, length, arith, sym, ap, ◌∙◌, append_assoc, append-nil, refl}
use Rattle.std.specs.List.{flat_map}
use Rattle.std.specs.Bool.{◌==◌}
use Rattle.std.proofs.lemmas.Bool.{eqb-true, eq-eqb}
use Rattle.ae_core.specs.declared.problems.Signature.{Signature}
use Rattle.ae_core.specs.declared.terms.Sort.{Sort}
use Rattle.ae_core.specs.declared.terms.Term.{Term}
use Rattle.ae_core.specs.declared.terms.Head.{Head}
use Rattle.ae_core.specs.declared.proofs.Scaled.{Scaled}
use Rattle.ae_codes.specs.Listings.{joined, listed_text, after_text}
use Rattle.ae_prooftext.specs.Texts.{sort_text, term_text, scaled_text, numbers_text, parts_text, applied_text}
use Rattle.ae_prooftext.specs.Words.{type_names, head_word, takes_sorts}
use Rattle.ae_prooftext.specs.Inner.Pieces.{spaced_terms, sorts_part, is_lone, opening_bytes, args_bytes, application_bytes, spaced_numbers, spaced_scaled}

module _ {X : Type 0} (t : X → List ℕ) where
  abbrev spaced : List X → List ℕ
  spaced xs = flat_map (λ x. 32 ∷ t x) xs

  pub joined_is : (last : ℕ) (x : X) (xs : List X) → joined last (t x) (map t xs) ≡ (t x ++ spaced xs) ++ last ∷ []
  joined_is last x [] = ap (λ z. z ++ last ∷ []) (sym (append-nil (t x)))
  joined_is last x (y ∷ ys) =
      ap (λ z. (t x ++ 32 ∷ []) ++ z) (joined_is last y ys)
      ∙ append_assoc (t x) (32 ∷ []) ((t y ++ spaced ys) ++ last ∷ [])
      ∙ sym (append_assoc (t x) (32 ∷ (t y ++ spaced ys)) (last ∷ []))

  pub after_is : (last : ℕ) (xs : List X) → after_text last (map t xs) ≡ spaced xs ++ last ∷ []
  after_is last [] = refl
  after_is last (x ∷ xs) = ap (λ z. 32 ∷ z) (joined_is last x xs)

  pub listed_empty : (last : ℕ) (xs : List X) → length xs ≡ 0 → listed_text last (map t xs) ≡ last ∷ []
  listed_empty last [] e = refl
  listed_empty last (x ∷ xs) e = absurd (omega (arith, e))

  pub listed_first : (last : ℕ) (xs : List X) (x : X) (rest : List X) → xs ≡ x ∷ rest → listed_text last (map t xs) ≡ t x ++ (spaced rest ++ last ∷ [])
  listed_first last xs x rest e = ap (λ z. listed_text last (map t z)) e ∙ joined_is last x rest ∙ append_assoc (t x) (spaced rest) (last ∷ [])

pub numbers_are : (ns : List ℕ) → numbers_text ns ≡ spaced_numbers ns ++ 10 ∷ []
unfolding numbers_text
numbers_are ns = after_is decimal 10 ns

pub parts_are : (xs : List Scaled) → parts_text xs ≡ spaced_scaled xs ++ 10 ∷ []
unfolding parts_text
parts_are xs = after_is scaled_text 10 xs

module _ (sig : Signature) where
  sorted_group : (w a b : List ℕ) → 40 ∷ ((w ++ 32 ∷ []) ++ (91 ∷ (a ++ (b ++ 41 ∷ [])))) ≡ ((40 ∷ w) ++ (32 ∷ 91 ∷ a)) ++ (b ++ 41 ∷ [])
  sorted_group w a b = ap (λ z. 40 ∷ z) (append_assoc w (32 ∷ []) (91 ∷ (a ++ (b ++ 41 ∷ []))) ∙ sym (append_assoc w (32 ∷ 91 ∷ a) (b ++ 41 ∷ [])))

  plain_group : (w a b : List ℕ) → 40 ∷ ((w ++ 32 ∷ []) ++ ((a ++ b) ++ 41 ∷ [])) ≡ ((40 ∷ w) ++ []) ++ (((32 ∷ a) ++ b) ++ 41 ∷ [])
  plain_group w a b = ap (λ z. 40 ∷ z) (append_assoc w (32 ∷ []) ((a ++ b) ++ 41 ∷ []) ∙ ap (λ z. z ++ (32 ∷ ((a ++ b) ++ 41 ∷ []))) (sym (append-nil w)))

  opens : (b : Bool) (w : List ℕ) (ss : List Sort) (ts : List Term) → (not b && (length ts == 0)) ≡ false
      → applied_text b w (map (sort_text (type_names sig)) ss) (map (term_text sig) ts) ≡ ((40 ∷ w) ++ sorts_part sig b ss) ++ args_bytes sig ts
  unfolding sorts_part
  opens true w ss ts e =
      ap (λ z. 40 ∷ ((w ++ 32 ∷ []) ++ (91 ∷ (listed_text 93 (map (sort_text (type_names sig)) ss) ++ z)))) (after_is (term_text sig) 41 ts)
      ∙ sorted_group w (listed_text 93 (map (sort_text (type_names sig)) ss)) (spaced_terms sig ts)
  opens false w ss [] e = let z : (0 == 0) ≡ true = eq-eqb 0 0 refl in absurd cc
  opens false w ss (t ∷ ts) e =
      ap (λ z. 40 ∷ ((w ++ 32 ∷ []) ++ z)) (joined_is (term_text sig) 41 t ts)
      ∙ plain_group w (term_text sig t) (spaced_terms sig ts)

  alone : (b : Bool) (w : List ℕ) (ss : List Sort) (ts : List Term) → (not b && (length ts == 0)) ≡ true → applied_text b w (map (sort_text (type_names sig)) ss) (map (term_text sig) ts) ≡ w
  alone true w ss ts e = absurd cc
  alone false w ss [] e = refl
  alone false w ss (t ∷ ts) e = let z : suc (length ts) ≡ 0 = eqb-true (suc (length ts)) 0 e in absurd (omega arith)

  pub application_opens : (h : Head) (ss : List Sort) (ts : List Term) → is_lone sig h ts ≡ false → application_bytes sig h ss ts ≡ opening_bytes sig h ss ++ args_bytes sig ts
  unfolding application_bytes opening_bytes
  application_opens h ss ts e = opens (takes_sorts sig h) (head_word sig h) ss ts e

  pub application_lone : (h : Head) (ss : List Sort) (ts : List Term) → is_lone sig h ts ≡ true → application_bytes sig h ss ts ≡ head_word sig h
  unfolding application_bytes
  application_lone h ss ts e = alone (takes_sorts sig h) (head_word sig h) ss ts e

-- what was put last completes the text
pub closed : (old mid new a b w : List ℕ) → mid ≡ old ++ a → w ≡ a ++ b → new ≡ mid ++ b → new ≡ old ++ w
closed old mid new a b w p q r = r ∙ ap (λ z. z ++ b) p ∙ append_assoc old a b ∙ ap (λ z. old ++ z) (sym q)

pub closed_twice : (old mid mid' new a b c w : List ℕ) → mid ≡ old ++ a → mid' ≡ mid ++ b → w ≡ a ++ (b ++ c) → new ≡ mid' ++ c → new ≡ old ++ w
closed_twice old mid mid' new a b c w p p' q r = closed old mid' new (a ++ b) c w (p' ∙ ap (λ z. z ++ b) p ∙ append_assoc old a b) (q ∙ sym (append_assoc a b c)) r
