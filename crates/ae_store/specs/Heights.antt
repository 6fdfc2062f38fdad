-- A number for each sort that falls from a record's sort to those of its fields.
use Rattle.std.specs.List.{list_all}
use Rattle.std.specs.Prelude.{true, ℕ, suc, max, ◌+◌, ◌<◌, List, [], ◌∷◌, ◌++◌, ◌≡◌, map, slice_get, Some}
use Rattle.ae_base.specs.Options.{or_else}
use Rattle.ae_core.specs.Putting.{put_sort}
use Rattle.ae_core.specs.Signatures.{fields_of, names_below}
use Rattle.ae_core.specs.declared.terms.Sort.{Sort, Sort-F, Named, fold-Sort}
use Rattle.ae_core.specs.declared.terms.Sort.TheOpen as sort_layer
use Rattle.ae_core.specs.declared.problems.Signature.{Signature}
use Rattle.ae_core.specs.declared.problems.TypeEntry.{TypeEntry}
use Rattle.ae_core.specs.declared.problems.FieldEntry.{FieldEntry}

abbrev pub largest : List ℕ → ℕ
largest [] = 0
largest (n ∷ ns) = max n (largest ns)

abbrev pub height_step : List ℕ → Sort-F ℕ → ℕ
height_step ws (sort_layer.Named h hs) = or_else (slice_get ws h) 0 + largest hs
height_step ws _ = 0

-- the height of a sort, where the types have these weights
unfoldable pub height : List ℕ → Sort → ℕ
height ws = fold-Sort ℕ (height_step ws)

-- more than the height of each field's sort
abbrev pub weight : List ℕ → TypeEntry → ℕ
weight ws e = suc (largest (map (λ f. height ws f.sort) (fields_of e)))

abbrev pub weights_after : List ℕ → List TypeEntry → List ℕ
weights_after ws [] = ws
weights_after ws (e ∷ es) = weights_after (ws ++ weight ws e ∷ []) es

unfoldable pub weights : Signature → List ℕ
weights sig = weights_after [] sig.types

-- the sort of a record's field names only types of smaller number
pub record HasEarlierFields (sig : Signature) : Type 0 where
  pub fields : (n : ℕ) (e : TypeEntry) → slice_get sig.types n ≡ Some e → list_all (λ f. names_below n f.sort) (fields_of e) ≡ true

-- the heights fall from a record to its fields
pub record FieldsFall (sig : Signature) : Type 0 where
  pub falls : (n : ℕ) (ss : List Sort) (e : TypeEntry) (k : ℕ) (f : FieldEntry) → slice_get sig.types n ≡ Some e → slice_get (fields_of e) k ≡ Some f
      → height (weights sig) (put_sort ss f.sort) < height (weights sig) (Named n ss)
