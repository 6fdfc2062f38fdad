-- The last bytes of lists, and lists behind which a line break stands.
use Rattle.std.proofs.Common.{ℕ, List, [], ◌∷◌, ◌++◌, ◌≡◌, ◌⊎◌, inl, inr, refl, sym, ap, ◌∙◌, append_assoc, append-nil}
use Rattle.std.proofs.lemmas.List.{same_from_push}

-- a list is empty, or it has a last byte
pub last_cut : (xs : List ℕ) → (xs ≡ []) ⊎ ((ys : List ℕ) × (y : ℕ) × (xs ≡ ys ++ y ∷ []))
last_cut [] = inl refl
last_cut (x ∷ xs) = elim (last_cut xs) [
  | inl e ↦ inr ([], x, ap (λ z. x ∷ z) e)
  | inr m ↦ inr (x ∷ m.0, m.1, ap (λ z. x ∷ z) m.2)
]

-- a front of bytes with a line break behind them is all of it, or a front of the bytes
pub break_cut : (rest more after : List ℕ) → rest ++ 10 ∷ [] ≡ more ++ after → (more ≡ rest ++ 10 ∷ []) ⊎ ((init : List ℕ) × (rest ≡ more ++ init) × (after ≡ init ++ 10 ∷ []))
break_cut rest more after e = elim (last_cut after) [
  | inl n ↦ inl (sym (e ∙ ap (λ z. more ++ z) n ∙ append-nil more))
  | inr m ↦ let r = same_from_push rest (more ++ m.0) 10 m.1 (e ∙ ap (λ z. more ++ z) m.2 ∙ sym (append_assoc more m.0 (m.1 ∷ []))) in inr (m.0, r.0, m.2 ∙ ap (λ z. m.0 ++ z ∷ []) (sym r.1))
]
