-- The examples' signature is lawful.
use Rattle.std.specs.Prelude.{ℕ, zero, suc, ◌<◌, Bool, true, false, ◌&&◌, nat_lt, List, [], ◌∷◌, ◌++◌, ◌≡◌, map, slice_get, Some}
use Rattle.std.specs.List.{list_all}
use lib.ListN.{get_or}
use mathlib.Core.Path.{refl}
use native.Mathlib.Omega.{arith}
use Rattle.ae_core.specs.Signatures.{IsLawful, IsLawfulType, IsLawfulSymbol, is_sort_over, is_name, names_below, names_below_step, taken_names}
use Rattle.ae_core.specs.declared.problems.FieldEntry.{FieldEntry}
use Rattle.ae_core.specs.declared.problems.SymbolEntry.{SymbolEntry}
use Rattle.ae_core.specs.declared.problems.TypeEntry.{TypeEntry}
use Rattle.ae_core.proofs.Recursion.{fold_named}
use Rattle.ae_core.proofs.SortLaws.{ok_named}
use Rattle.ae_evaluation.proofs.ExampleState.{codes_differ}
use Rattle.ae_system_checks.specs.Examples.{signature, T, abstract_type, record_type, constant_entry, f_entry, u_entry}
use Rattle.ae_system_checks.proofs.Entries.{of_two, of_four}

good_names : list_all is_name
    (map (λ (e : TypeEntry). e.name) signature.types ++ map (λ (e : SymbolEntry). e.name) signature.symbols ++ (112 ∷ []) ∷ []) ≡ true
unfolding taken_names
good_names = refl

abbrev names : List (List ℕ)
names = (97 ∷ []) ∷ (98 ∷ []) ∷ (102 ∷ []) ∷ (117 ∷ []) ∷ []

different_names : (i j : ℕ) (d : List ℕ) → i < j → j < 4 → get_or names i d ≡ get_or names j d → ⊥
different_names i zero d h k e = omega (arith, h)
different_names zero (suc zero) d h k e = codes_differ 97 98 (omega arith) e
different_names zero (suc (suc zero)) d h k e = codes_differ 97 102 (omega arith) e
different_names zero (suc (suc (suc zero))) d h k e = codes_differ 97 117 (omega arith) e
different_names (suc zero) (suc (suc zero)) d h k e = codes_differ 98 102 (omega arith) e
different_names (suc zero) (suc (suc (suc zero))) d h k e = codes_differ 98 117 (omega arith) e
different_names (suc (suc zero)) (suc (suc (suc zero))) d h k e = codes_differ 102 117 (omega arith) e
different_names i j d h k e = omega (arith, h, k)

two_types : (i j : ℕ) (d : List ℕ) → i < j → j < 2 → get_or ((116 ∷ []) ∷ (114 ∷ []) ∷ []) i d ≡ get_or ((116 ∷ []) ∷ (114 ∷ []) ∷ []) j d → ⊥
two_types i zero d h k e = omega (arith, h)
two_types zero (suc zero) d h k e = codes_differ 116 114 (omega arith) e
two_types (suc i) (suc zero) d h k e = omega (arith, h)
two_types i (suc (suc j)) d h k e = omega (arith, k)

T_over : is_sort_over signature 0 T ≡ true
T_over = ok_named signature (λ i. nat_lt i 0) (λ i. false) 0 []

T_below : names_below 1 T ≡ true
unfolding names_below
T_below = fold_named Bool (names_below_step 1) 0 []

lawful_types : (n : ℕ) (e : TypeEntry) → slice_get signature.types n ≡ Some e → IsLawfulType signature n e
lawful_types =
    of_two abstract_type record_type (λ n e. IsLawfulType signature n e) tt (not_empty _ [], λ i. (T_over i && T_below i) && true)
  where
    not_empty : (f : FieldEntry) (fs : List FieldEntry) → f ∷ fs ≡ [] → ⊥
    not_empty f fs e = cc

lawful_symbols : (n : ℕ) (e : SymbolEntry) → slice_get signature.symbols n ≡ Some e → IsLawfulSymbol signature e
lawful_symbols =
    of_four (constant_entry 97) (constant_entry 98) f_entry u_entry (λ n e. IsLawfulSymbol signature e) (refl, T_over, tt) (refl, T_over, tt)
    ((λ i. T_over i && true), T_over, tt) ((λ i. T_over i && (T_over i && true)), T_over, (T, refl, refl))

pub lawful : IsLawful signature
lawful = record {
  names = good_names;
  type_names = two_types;
  symbol_names = different_names;
  field_names = λ i j d h k. absurd (omega (arith, h, k));
  types = lawful_types;
  symbols = lawful_symbols;
}
