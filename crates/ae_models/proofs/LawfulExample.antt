-- The example's signature is lawful.
use Rattle.std.specs.Prelude.{ℕ, zero, suc, Bool, true, false, ◌&&◌, nat_lt, List, [], ◌∷◌, ◌++◌, ◌≡◌, ◌↔◌, map, slice_get, Some}
use Rattle.std.specs.List.{list_all, flat_map, IsDistinct}
use Rattle.std.specs.Str.{bytes_eq}
use Rattle.std.proofs.Common.{refl, sym, ap, ◌∙◌, subst}
use Rattle.std.proofs.lemmas.Option.{same_Some}
use Rattle.std.proofs.lemmas.Map.Made.{AllPairs-from_IsDistinct}
use Rattle.std.proofs.lemmas.Slice.Eq.{bytes_eq-Decides}
use Rattle.ae_base.proofs.Options.{never_some}
use Rattle.ae_core.specs.Signatures.{is_name, taken_names, fields_of, AreDistinct, is_sort_over, is_field_sort, names_below, names_below_step, IsChoice, IsLawfulType, IsLawfulSymbol, IsLawful}
use Rattle.ae_core.proofs.SortLaws.{ok_named, ok_real}
use Rattle.ae_core.specs.declared.terms.Sort.{Real, fold-roll-Sort}
use Rattle.ae_core.specs.declared.terms.Sort.TheOpen as sort_layer
use Rattle.ae_core.specs.declared.terms.Sort.TheVariants.{rolls-Real}
use Rattle.ae_core.specs.declared.problems.SymbolEntry.{SymbolEntry}
use Rattle.ae_core.specs.declared.problems.TypeEntry.{TypeEntry}
use Rattle.ae_core.specs.declared.problems.Nature.{Nature}
use Rattle.ae_core.specs.declared.problems.Nature.TheVariants.{Free, Ac, Choice}
use Rattle.ae_models.specs.Examples.{count, colour, example_types, example_symbols, example_signature}

distinct : (names : List (List ℕ)) → IsDistinct bytes_eq names → AreDistinct names
distinct names d = AllPairs-from_IsDistinct bytes_eq-Decides names d

good_names : list_all is_name (map (λ e. e.name) example_types ++ map (λ e. e.name) example_symbols ++ flat_map (λ e. map (λ f. f.name) (fields_of e)) example_types) ≡ true
unfolding taken_names
good_names = refl

count_over : is_sort_over example_signature 0 count ≡ true
count_over = ok_named example_signature _ _ 0 []

two_counts : list_all (is_sort_over example_signature 0) (count ∷ count ∷ []) ≡ true
two_counts = λ i. count_over i && (count_over i && true)

real_field : is_field_sort example_signature 2 0 Real ≡ true
unfolding names_below
real_field = λ i. ok_real example_signature (λ k. nat_lt k 0) (λ k. false) i && names_below_real i
  where
    names_below_real : names_below 2 Real ≡ true
    names_below_real = ap (names_below 2) (sym rolls-Real) ∙ fold-roll-Sort Bool (names_below_step 2) sort_layer.Real

colour_over : is_sort_over example_signature 0 colour ≡ true
colour_over = ok_named example_signature _ _ 1 []

at_place : (k place symbol : ℕ) → Choice 1 k ≡ Choice 1 place → slice_get (1 ∷ 2 ∷ []) k ≡ Some symbol → slice_get (1 ∷ 2 ∷ []) place ≡ Some symbol
at_place k place symbol e g = let same : k ≡ place = cc in ap (slice_get (1 ∷ 2 ∷ [])) (sym same) ∙ g

two_choices : (symbol place : ℕ) → (slice_get (1 ∷ 2 ∷ []) place ≡ Some symbol) ↔ IsChoice example_signature symbol 1 place
two_choices symbol place = (there place, back symbol)
  where
    there : (place : ℕ) → slice_get (1 ∷ 2 ∷ []) place ≡ Some symbol → IsChoice example_signature symbol 1 place
    there zero e = subst (λ s. IsChoice example_signature s 1 0) (same_Some 1 symbol e) (_, refl, refl)
    there (suc zero) e = subst (λ s. IsChoice example_signature s 1 1) (same_Some 2 symbol e) (_, refl, refl)
    there (suc (suc place)) e = never_some symbol e

    back : (symbol : ℕ) → IsChoice example_signature symbol 1 place → slice_get (1 ∷ 2 ∷ []) place ≡ Some symbol
    back zero c = let h : ◌≡◌ {A = Nature} Ac (Choice 1 place) = ap (λ x. x.nature) (same_Some _ c.0 c.1) ∙ c.2 in cc h
    back (suc zero) c = at_place 0 place 1 (ap (λ x. x.nature) (same_Some _ c.0 c.1) ∙ c.2) refl
    back (suc (suc zero)) c = at_place 1 place 2 (ap (λ x. x.nature) (same_Some _ c.0 c.1) ∙ c.2) refl
    back (suc (suc (suc zero))) c = let h : ◌≡◌ {A = Nature} Free (Choice 1 place) = ap (λ x. x.nature) (same_Some _ c.0 c.1) ∙ c.2 in cc h
    back (suc (suc (suc (suc n)))) c = never_some c.0 c.1

lawful_type : (n : ℕ) (e : TypeEntry) → slice_get example_types n ≡ Some e → IsLawfulType example_signature n e
lawful_type zero e g = subst (IsLawfulType example_signature 0) (same_Some _ e g) tt
lawful_type (suc zero) e g = subst (IsLawfulType example_signature 1) (same_Some _ e g) (record { no_parameters = refl; some = λ h. cc; each = two_choices })
lawful_type (suc (suc zero)) e g = subst (IsLawfulType example_signature 2) (same_Some _ e g) (λ h. cc, λ i. real_field i && (real_field i && true))
lawful_type (suc (suc (suc n))) e g = never_some e g

lawful_symbol : (n : ℕ) (e : SymbolEntry) → slice_get example_symbols n ≡ Some e → IsLawfulSymbol example_signature e
lawful_symbol zero e g = subst (IsLawfulSymbol example_signature) (same_Some _ e g) (two_counts, count_over, (count, refl, refl))
lawful_symbol (suc zero) e g = subst (IsLawfulSymbol example_signature) (same_Some _ e g) (refl, colour_over, (refl, refl, refl, (_, _, refl, refl)))
lawful_symbol (suc (suc zero)) e g = subst (IsLawfulSymbol example_signature) (same_Some _ e g) (refl, colour_over, (refl, refl, refl, (_, _, refl, refl)))
lawful_symbol (suc (suc (suc zero))) e g = subst (IsLawfulSymbol example_signature) (same_Some _ e g) (two_counts, count_over, tt)
lawful_symbol (suc (suc (suc (suc n)))) e g = never_some e g

types_apart : IsDistinct bytes_eq (map (λ e. e.name) example_types)
unfolding IsDistinct
types_apart = ((refl, (refl, tt)), ((refl, tt), (tt, tt)))

symbols_apart : IsDistinct bytes_eq (map (λ e. e.name) example_symbols)
unfolding IsDistinct
symbols_apart = ((refl, (refl, (refl, tt))), ((refl, (refl, tt)), ((refl, tt), (tt, tt))))

fields_apart : IsDistinct bytes_eq (flat_map (λ e. map (λ f. f.name) (fields_of e)) example_types)
unfolding IsDistinct
fields_apart = ((refl, tt), (tt, tt))

pub example_lawful : IsLawful example_signature
example_lawful = record {
  names = good_names;
  type_names = distinct _ types_apart;
  symbol_names = distinct _ symbols_apart;
  field_names = distinct _ fields_apart;
  types = lawful_type;
  symbols = lawful_symbol;
}
