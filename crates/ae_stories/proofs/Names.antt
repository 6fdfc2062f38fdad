-- The terms of the first names, one more.
use Rattle.std.specs.Prelude.{ℕ, ◌+◌, List, [], ◌∷◌, ◌++◌, ◌≡◌, length, slice_get, Some, take}
use Rattle.std.proofs.Common.{sym, ap, ◌∙◌}
use Rattle.std.proofs.lemmas.List.{take_more, length-map}
use Rattle.std.proofs.lemmas.Option.{slice_get_within, get_or_from_slice_get}
use Rattle.ae_core.specs.declared.terms.Term.{Term}
use Rattle.ae_store.proofs.TermLaws.{length_terms}
use Rattle.ae_store.specs.Shapes.{shapes, shape_of}
use Rattle.ae_store.specs.Stores.{Stored}
use Rattle.ae_theory.specs.Names.{terms_in}

pub term_pushed : (ts old new : List Term) (i : ℕ) (t : Term) → old ≡ take i ts → new ≡ old ++ t ∷ [] → slice_get ts i ≡ Some t → new ≡ take (i + 1) ts
term_pushed ts old new i t e p at =
    p ∙ ap (λ us. us ++ t ∷ []) e ∙ sym (take_more ts i t (slice_get_within ts i t at) ∙ ap (λ u. take i ts ++ u ∷ []) (get_or_from_slice_get ts i t t at))

pub as_many : (s : Stored) → length (terms_in s) ≡ length s.nodes
as_many s = length_terms (shapes s.nodes) ∙ length-map s.nodes shape_of
