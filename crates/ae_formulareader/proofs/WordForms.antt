-- Words of formulas: their forms, and what a word or its place names.
use Rattle.std.proofs.Common.{ℕ, zero, suc, ◌+◌, ◌<◌, ◌≤◌, Bool, true, false, IsTrue, nat_eq, List, [], ◌∷◌, ◌≡◌, map, length, get_or, refl, sym, ap, ◌∙◌, subst, arith}
use Rattle.std.specs.Str.{bytes_eq}
use Rattle.std.proofs.lemmas.Bool.{eq-eqb}
use Rattle.std.proofs.lemmas.List.FromFn.{get_or-range_with_len, length-range_with_len}
use Rattle.std.proofs.lemmas.Slice.Eq.{bytes_eq-Decides}
use Rattle.ae_codes.specs.Numbers.{and_both}
use Rattle.ae_core.specs.declared.problems.Signature.{Signature}
use Rattle.ae_prooftext.specs.FormulaTexts.{same, same_is, word_fine, leaf_fine}
use Rattle.ae_prooftext.specs.Words.{symbol_name, symbols, symbol_of}
use Rattle.ae_readers.specs.Names.{form_of}
use Rattle.ae_readers.specs.Readers.{place_of}
use Rattle.ae_readers.specs.declared.names.Form.TheVariants as form
use Rattle.ae_termreader.proofs.TermReading.{named_at}

word_at : (w : List ℕ) → word_fine w ≡ form_of form.Word w
word_at [] = refl
word_at (x ∷ xs) = refl

pub word_form : word_fine ≡ form_of form.Word
word_form i w = word_at w i

leaf_at : (w : List ℕ) → leaf_fine w ≡ form_of form.Leaf w
leaf_at [] = refl
leaf_at (x ∷ xs) = refl

pub leaf_form : leaf_fine ≡ form_of form.Leaf
leaf_form i w = leaf_at w i

-- ---- two ways to compare words
pub same_self : (w : List ℕ) → IsTrue (same w w)
same_self [] = refl
same_self (x ∷ w) = and_both (nat_eq x x) (same w w) (eq-eqb x x refl) (same_self w)

turned : (a b : Bool) (w u : List ℕ) → same w u ≡ a → bytes_eq u w ≡ b → a ≡ b
turned true true w u e f = refl
turned false false w u e f = refl
turned true false w u e f = let z : bytes_eq u w ≡ true = (bytes_eq-Decides u w).1 (sym (same_is w u e)) in absurd cc
turned false true w u e f = let z : same w u ≡ true = subst (λ y. IsTrue (same y u)) ((bytes_eq-Decides u w).0 f) (same_self u) in absurd cc

pub same_turned : (w u : List ℕ) → same w u ≡ bytes_eq u w
same_turned w u = turned (same w u) (bytes_eq u w) w u refl refl

straight : (a b : Bool) (w u : List ℕ) → same w u ≡ a → bytes_eq w u ≡ b → a ≡ b
straight true true w u e f = refl
straight false false w u e f = refl
straight true false w u e f = let z : bytes_eq w u ≡ true = (bytes_eq-Decides w u).1 (same_is w u e) in absurd cc
straight false true w u e f = let z : same w u ≡ true = subst (λ y. IsTrue (same w y)) ((bytes_eq-Decides w u).0 f) (same_self w) in absurd cc

pub same_straight : (w u : List ℕ) → bytes_eq w u ≡ same w u
same_straight w u = sym (straight (same w u) (bytes_eq w u) w u refl refl)

-- ---- the symbol that a word names
module _ (sig : Signature) where
  symbol_is : (w : List ℕ) → symbol_of sig w ≡ get_or (symbols sig) (place_of (map (symbol_name sig) (symbols sig)) w) 0
  unfolding symbol_of
  symbol_is w = named_at (symbol_name sig) 0 (symbols sig) w

  pub symbol_below : (w : List ℕ) (n : ℕ) → n ≡ place_of (map (symbol_name sig) (symbols sig)) w → n < length sig.symbols → n ≡ symbol_of sig w
  symbol_below w n e l = let z : 0 + n ≡ n = omega arith in sym (symbol_is w ∙ ap (λ p. get_or (symbols sig) p 0) (sym e) ∙ get_or-range_with_len 0 (length sig.symbols) n 0 l ∙ z)

  past : (xs : List ℕ) (n : ℕ) → length xs ≤ n → get_or xs n 0 ≡ 0
  past [] zero l = refl
  past [] (suc n) l = refl
  past (x ∷ xs) zero l = absurd (omega arith)
  past (x ∷ xs) (suc n) l = past xs n (omega arith)

  pub symbol_above : (w : List ℕ) (n : ℕ) → n ≡ place_of (map (symbol_name sig) (symbols sig)) w → length sig.symbols ≤ n → 0 ≡ symbol_of sig w
  symbol_above w n e l = let k = length-range_with_len 0 (length sig.symbols) in sym (symbol_is w ∙ ap (λ p. get_or (symbols sig) p 0) (sym e) ∙ past (symbols sig) n (omega (arith, k)))
