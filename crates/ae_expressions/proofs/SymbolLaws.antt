-- What a name stands for outside the bound names, from the number of its symbol.
use Rattle.std.proofs.Common.{arith, ◌≡◌, ◌∙◌, ℕ, suc, ◌+◌, Bool, true, false, List, [], ◌∷◌, Option, Some, None, refl, sym, ap, slice_get}
use Rattle.std.specs.Str.{bytes_eq}
use Rattle.std.proofs.lemmas.Option.{none-some, same_Some}
use Rattle.ae_core.specs.declared.problems.SymbolEntry.{SymbolEntry}
use Rattle.ae_elab.specs.Scope.{Named, unknown, by_result, symbol_from, first_place, after_one}

module _ (name : List ℕ) where
  abbrev is_named : SymbolEntry → Bool
  is_named e = bytes_eq name e.name

  abbrev choose : Bool → Option ℕ → Option ℕ
  choose b o = elim b [ true ↦ Some 0 | false ↦ after_one o ]

  none_parts : (b : Bool) (o : Option ℕ) → choose b o ≡ None → (b ≡ false) × (o ≡ None)
  none_parts true o e = absurd (none-some 0 (sym e))
  none_parts false None e = (refl, refl)
  none_parts false (Some n) e = absurd (none-some (suc n) (sym e))

  abbrev pick : Bool → ℕ → SymbolEntry → List SymbolEntry → Named
  pick b k e es = elim b [ true ↦ by_result k e e.result | false ↦ symbol_from (suc k) es name ]

  pub symbol_none : (k : ℕ) (es : List SymbolEntry) → first_place is_named es ≡ None → symbol_from k es name ≡ unknown
  symbol_none k [] h = refl
  symbol_none k (e ∷ es) h =
      let n = none_parts (is_named e) (first_place is_named es) h in
      ap (λ b. pick b k e es) n.0 ∙ symbol_none (suc k) es n.1

  pub symbol_some : (k : ℕ) (es : List SymbolEntry) (i : ℕ) (d : SymbolEntry) → first_place is_named es ≡ Some i → slice_get es i ≡ Some d → symbol_from k es name ≡ by_result (k + i) d d.result
  symbol_some k [] i d h g = absurd (none-some i h)
  symbol_some k (e ∷ es) i d h g = by_test (is_named e) refl (λ n f q. symbol_some (suc k) es n d f q)
    where
      at_first : (j : ℕ) → Some 0 ≡ Some j → slice_get (e ∷ es) j ≡ Some d → by_result k e e.result ≡ by_result (k + j) d d.result
      at_first j p q =
          let z : 0 ≡ j = same_Some 0 j p in
          let same : e ≡ d = same_Some e d (ap (slice_get (e ∷ es)) z ∙ q) in
          ap (λ x. by_result k x x.result) same ∙ ap (λ n. by_result n d d.result) (let s : k ≡ k + j = omega (arith, z) in s)

      at_later : (o : Option ℕ) (j : ℕ) → ((n : ℕ) → first_place is_named es ≡ Some n → slice_get es n ≡ Some d → symbol_from (suc k) es name ≡ by_result (suc k + n) d d.result) → first_place is_named es ≡ o → after_one o ≡ Some j
          → slice_get (e ∷ es) j ≡ Some d → symbol_from (suc k) es name ≡ by_result (k + j) d d.result
      at_later None j later f p q = absurd (none-some j p)
      at_later (Some n) j later f p q =
          let z : suc n ≡ j = same_Some (suc n) j p in
          later n f (ap (slice_get (e ∷ es)) z ∙ q) ∙ ap (λ m. by_result m d d.result) (let s : suc k + n ≡ k + j = omega (arith, z) in s)

      by_test : (b : Bool) → is_named e ≡ b → ((n : ℕ) → first_place is_named es ≡ Some n → slice_get es n ≡ Some d → symbol_from (suc k) es name ≡ by_result (suc k + n) d d.result)
          → symbol_from k (e ∷ es) name ≡ by_result (k + i) d d.result
      by_test true t later = ap (λ b. pick b k e es) t ∙ at_first i (ap (λ b. choose b (first_place is_named es)) (sym t) ∙ h) g
      by_test false t later =
          ap (λ b. pick b k e es) t ∙ at_later (first_place is_named es) i later refl (ap (λ b. choose b (first_place is_named es)) (sym t) ∙ h) g

  pub symbol_there : (es : List SymbolEntry) (i : ℕ) → first_place is_named es ≡ Some i → slice_get es i ≡ None → ⊥
  symbol_there [] i h n = absurd (none-some i h)
  symbol_there (e ∷ es) i h n = by_test (is_named e) h (λ k f q. symbol_there es k f q)
    where
      later : (o : Option ℕ) → ((k : ℕ) → first_place is_named es ≡ Some k → slice_get es k ≡ None → ⊥) → first_place is_named es ≡ o → after_one o ≡ Some i → ⊥
      later None rest f p = absurd (none-some i p)
      later (Some k) rest f p = rest k f (ap (slice_get (e ∷ es)) (same_Some (suc k) i p) ∙ n)

      by_test : (b : Bool) → choose b (first_place is_named es) ≡ Some i → ((k : ℕ) → first_place is_named es ≡ Some k → slice_get es k ≡ None → ⊥) → ⊥
      by_test true p rest = absurd (none-some e (sym (ap (slice_get (e ∷ es)) (same_Some 0 i p) ∙ n)))
      by_test false p rest = later (first_place is_named es) rest refl p
