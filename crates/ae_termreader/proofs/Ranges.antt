-- Numbers in a row, and lists that loops make.
use Rattle.std.proofs.Common.{ℕ, zero, suc, ◌+◌, ◌≡◌, ◌∷◌, ◌++◌, ◌∙◌, [], List, Bool, true, false, cond, not, map, ap, refl, arith, append_assoc}
use Rattle.std.specs.List.{filter, flat_map, range_with_len}
use Rattle.ae_core.specs.declared.problems.Signature.{Signature}
use Rattle.ae_core.specs.declared.terms.Head.{Head}
use Rattle.ae_core.specs.declared.terms.Head.TheVariants as head
use Rattle.ae_prooftext.specs.Words.{lone_heads, lone_symbols, symbols, takes_sorts, has_variables}
use Rattle.ae_termreader.specs.Inner.Tables.{kept}

-- one more number at the end
pub range_more : (a n : ℕ) → range_with_len a (n + 1) ≡ range_with_len a n ++ (a + n) ∷ []
range_more a zero = let e : a ≡ a + 0 = omega arith in ap (λ z. z ∷ []) e
range_more a (suc n) = let e : (a + 1) + n ≡ a + suc n = omega arith in let f : suc n + 1 ≡ suc (n + 1) = omega arith in ap (range_with_len a) f ∙ ap (λ z. a ∷ z) (range_more (a + 1) n ∙ ap (λ z. range_with_len (a + 1) n ++ z ∷ []) e)

keep_by : (b : Bool) (out xs : List ℕ) (n : ℕ) → (out ++ kept b n) ++ xs ≡ out ++ cond b (n ∷ xs) xs
keep_by true out xs n = append_assoc out (n ∷ []) xs
keep_by false out xs n = append_assoc out [] xs

pub keep_more : (p : ℕ → Bool) (out ns : List ℕ) (n : ℕ) → (out ++ kept (p n) n) ++ filter p ns ≡ out ++ filter p (n ∷ ns)
keep_more p out ns n = keep_by (p n) out (filter p ns) n

pub more_flat : {A B : Type 0} (f : A → List B) (out : List B) (x : A) (xs : List A) → (out ++ f x) ++ flat_map f xs ≡ out ++ flat_map f (x ∷ xs)
more_flat f out x xs = append_assoc out (f x) (flat_map f xs)

-- constants by their numbers
module _ (sig : Signature) where
  lone_step : (b : Bool) (n : ℕ) (xs : List Head) (ys : List ℕ) → xs ≡ map (λ n. head.Symbol n) ys → cond b (head.Symbol n ∷ xs) xs ≡ map (λ n. head.Symbol n) (cond b (n ∷ ys) ys)
  lone_step true n xs ys e = ap (λ z. head.Symbol n ∷ z) e
  lone_step false n xs ys e = e

  lone_ones : (ns : List ℕ) → filter (λ h. not (takes_sorts sig h)) (map (λ n. head.Symbol n) ns) ≡ map (λ n. head.Symbol n) (filter (λ n. not (has_variables sig n)) ns)
  unfolding takes_sorts
  lone_ones [] = refl
  lone_ones (n ∷ ns) = lone_step (not (has_variables sig n)) n (filter (λ h. not (takes_sorts sig h)) (map (λ n. head.Symbol n) ns)) (filter (λ n. not (has_variables sig n)) ns) (lone_ones ns)

  pub constants_are : lone_heads sig ≡ head.True ∷ head.False ∷ head.Void ∷ map (λ n. head.Symbol n) (lone_symbols sig)
  unfolding lone_heads lone_symbols
  constants_are = ap (λ z. head.True ∷ head.False ∷ head.Void ∷ z) (lone_ones (symbols sig))
