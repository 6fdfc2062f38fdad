-- Indexes: of names, where each of them stands first; and of the fields of record types.
use Rattle.std.specs.Prelude.{ℕ, suc, ◌≡◌, List, [], ◌∷◌, ◌++◌, map, Option}
use Rattle.std.specs.Str.{bytes_eq}
use Rattle.ae_core.specs.declared.problems.FieldEntry.{FieldEntry}
use Rattle.ae_core.specs.declared.problems.TypeEntry.{TypeEntry}
use Rattle.ae_core.specs.Signatures.{fields_of}
use Rattle.ae_elab.specs.declared.fields.FieldPlace.{FieldPlace}
use Rattle.ae_elab.specs.Scope.{first_place}

-- it finds each name where it stands first
abbrev pub IsIndex : List (List ℕ) → (List ℕ → Option ℕ) → Type 0
IsIndex names found = (name : List ℕ) → found name ≡ first_place (bytes_eq name) names

-- the names of all fields, type by type
abbrev pub field_names : List TypeEntry → List (List ℕ)
field_names [] = []
field_names (e ∷ es) = map (λ f. f.name) (fields_of e) ++ field_names es

-- the places of the fields of the type of number n, from place i on
abbrev pub places_in : ℕ → ℕ → List FieldEntry → List FieldPlace
places_in n i [] = []
places_in n i (f ∷ fs) = record { of = n; place = i } ∷ places_in n (suc i) fs

-- the places of all fields, of types that are numbered from n on
abbrev pub field_places : ℕ → List TypeEntry → List FieldPlace
field_places n [] = []
field_places n (e ∷ es) = places_in n 0 (fields_of e) ++ field_places (suc n) es

pub record IsFieldIndex (types : List TypeEntry) (names : List (List ℕ)) (places : List FieldPlace) : Type 0 where
  pub names_are : field_names types ≡ names
  pub places_are : field_places 0 types ≡ places
