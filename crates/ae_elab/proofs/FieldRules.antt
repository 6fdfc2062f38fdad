-- The index of the fields of record types.
use Rattle.std.proofs.Common.{arith, ◌≡◌, ◌∙◌, ℕ, suc, ◌+◌, Bool, true, false, Option, Some, None, List, [], ◌∷◌, ◌++◌, map, length, slice_get, refl, sym, ap, append_assoc}
use Rattle.std.specs.Option.{option_map}
use Rattle.std.specs.Str.{bytes_eq}
use Rattle.std.proofs.lemmas.List.{append-nil, map_push}
use Rattle.ae_core.specs.declared.problems.FieldEntry.{FieldEntry}
use Rattle.ae_core.specs.declared.problems.TypeEntry.{TypeEntry}
use Rattle.ae_core.specs.Signatures.{fields_of}
use Rattle.ae_elab.specs.declared.fields.FieldPlace.{FieldPlace}
use Rattle.ae_elab.specs.Scope.{first_place, after_one, in_type, field_from}
use Rattle.ae_elab.specs.Inner.Index.{IsFieldIndex, field_names, places_in, field_places}

-- ---- the value that stands where the first element stands
abbrev value_for : {A B : Type 0} → (A → Bool) → List A → List B → Option B
value_for p [] ys = None
value_for p (x ∷ xs) [] = None
value_for p (x ∷ xs) (y ∷ ys) = elim (p x) [ true ↦ Some y | false ↦ value_for p xs ys ]

abbrev pub value_at : {B : Type 0} → Option ℕ → List B → Option B
value_at None ys = None
value_at (Some n) ys = slice_get ys n

abbrev first_of : {B : Type 0} → Option B → Option B → Option B
first_of (Some y) o = Some y
first_of None o = o

module _ {A B : Type 0} (p : A → Bool) where
  none_at : (o : Option ℕ) → value_at {B = B} o [] ≡ None
  none_at None = refl
  none_at (Some n) = refl

  later_at : (o : Option ℕ) (y : B) (ys : List B) → value_at (after_one o) (y ∷ ys) ≡ value_at o ys
  later_at None y ys = refl
  later_at (Some n) y ys = refl

  test_at : (b : Bool) (o : Option ℕ) (y : B) (ys : List B) (v : Option B) → value_at o ys ≡ v
      → value_at (elim b [ true ↦ Some 0 | false ↦ after_one o ]) (y ∷ ys) ≡ elim b [ true ↦ Some y | false ↦ v ]
  test_at true o y ys v e = refl
  test_at false o y ys v e = later_at o y ys ∙ e

  pub value_of_place : (xs : List A) (ys : List B) → value_at (first_place p xs) ys ≡ value_for p xs ys
  value_of_place [] ys = refl
  value_of_place (x ∷ xs) [] = none_at (first_place p (x ∷ xs))
  value_of_place (x ∷ xs) (y ∷ ys) = test_at (p x) (first_place p xs) y ys (value_for p xs ys) (value_of_place xs ys)

  parted : (b : Bool) (y : B) (o v w : Option B) → o ≡ first_of v w → elim b [ true ↦ Some y | false ↦ o ] ≡ first_of (elim b [ true ↦ Some y | false ↦ v ]) w
  parted true y o v w e = refl
  parted false y o v w e = e

  value_for_append : (xs us : List A) (ys vs : List B) → length xs ≡ length ys → value_for p (xs ++ us) (ys ++ vs) ≡ first_of (value_for p xs ys) (value_for p us vs)
  value_for_append [] us [] vs e = refl
  value_for_append [] us (y ∷ ys) vs e = absurd (omega arith)
  value_for_append (x ∷ xs) us [] vs e = absurd (omega arith)
  value_for_append (x ∷ xs) us (y ∷ ys) vs e =
      parted (p x) y (value_for p (xs ++ us) (ys ++ vs)) (value_for p xs ys) (value_for p us vs) (value_for_append xs us ys vs (omega arith))

-- ---- fields
abbrev here : ℕ → ℕ → FieldPlace
here n i = record { of = n; place = i }

places_length : (n i : ℕ) (fs : List FieldEntry) → length (map (λ f. f.name) fs) ≡ length (places_in n i fs)
places_length n i [] = refl
places_length n i (f ∷ fs) = ap suc (places_length n (suc i) fs)

module _ (p : List ℕ → Bool) (n : ℕ) where
  moved : (b : Bool) (i : ℕ) (o : Option ℕ) (v : Option FieldPlace) → v ≡ option_map (λ k. here n (suc i + k)) o
      → elim b [ true ↦ Some (here n i) | false ↦ v ] ≡ option_map (λ k. here n (i + k)) (elim b [ true ↦ Some 0 | false ↦ after_one o ])
  moved true i o v e = let h : i ≡ i + 0 = omega arith in ap (λ (k : ℕ). Some (here n k)) h
  moved false i None v e = e
  moved false i (Some k) v e = let h : suc i + k ≡ i + suc k = omega arith in e ∙ ap (λ (j : ℕ). Some (here n j)) h

  in_fields : (i : ℕ) (fs : List FieldEntry) → value_for p (map (λ f. f.name) fs) (places_in n i fs) ≡ option_map (λ k. here n (i + k)) (first_place (λ f. p f.name) fs)
  in_fields i [] = refl
  in_fields i (f ∷ fs) = moved (p f.name) i (first_place (λ g. p g.name) fs) (value_for p (map (λ g. g.name) fs) (places_in n (suc i) fs)) (in_fields (suc i) fs)

type_of : (n : ℕ) (o : Option ℕ) (later : Option FieldPlace) → in_type n o later ≡ first_of (option_map (λ k. here n (0 + k)) o) later
type_of n None later = refl
type_of n (Some k) later = let h : k ≡ 0 + k = omega arith in ap (λ (j : ℕ). Some (here n j)) h

pub field_found : (n : ℕ) (es : List TypeEntry) (name : List ℕ) → field_from n es name ≡ value_for (bytes_eq name) (field_names es) (field_places n es)
field_found n [] name = refl
field_found n (e ∷ es) name =
    let fs = fields_of e in
    type_of n (first_place (λ f. bytes_eq name f.name) fs) (field_from (suc n) es name)
    ∙ ap (first_of (option_map (λ k. here n (0 + k)) (first_place (λ f. bytes_eq name f.name) fs))) (field_found (suc n) es name)
    ∙ ap (λ o. first_of o (value_for (bytes_eq name) (field_names es) (field_places (suc n) es))) (sym (in_fields (bytes_eq name) n 0 fs))
    ∙ sym (value_for_append (bytes_eq name) (map (λ f. f.name) fs) (field_names es) (places_in n 0 fs) (field_places (suc n) es) (places_length n 0 fs))

-- what the index finds
pub index_finds : (es : List TypeEntry) (names : List (List ℕ)) (places : List FieldPlace) (name : List ℕ) → IsFieldIndex es names places
    → value_at (first_place (bytes_eq name) names) places ≡ field_from 0 es name
index_finds es names places name i =
    ap (λ (ns : List (List ℕ)). value_at (first_place (bytes_eq name) ns) places) (sym i.names_are)
    ∙ ap (value_at (first_place (bytes_eq name) (field_names es))) (sym i.places_are)
    ∙ value_of_place (bytes_eq name) (field_names es) (field_places 0 es)
    ∙ sym (field_found 0 es name)

-- ---- one more type, and one more field
names_push : (es : List TypeEntry) (e : TypeEntry) → field_names (es ++ e ∷ []) ≡ field_names es ++ map (λ f. f.name) (fields_of e)
names_push [] e = append-nil (map (λ f. f.name) (fields_of e))
names_push (d ∷ es) e = ap (λ ns. map (λ f. f.name) (fields_of d) ++ ns) (names_push es e) ∙ sym (append_assoc (map (λ f. f.name) (fields_of d)) (field_names es) (map (λ f. f.name) (fields_of e)))

places_push : (n : ℕ) (es : List TypeEntry) (e : TypeEntry) → field_places n (es ++ e ∷ []) ≡ field_places n es ++ places_in (n + length es) 0 (fields_of e)
places_push n [] e = let h : n ≡ n + 0 = omega arith in append-nil (places_in n 0 (fields_of e)) ∙ ap (λ (k : ℕ). places_in k 0 (fields_of e)) h
places_push n (d ∷ es) e =
    let h : suc n + length es ≡ n + length (d ∷ es) = omega arith in
    ap (λ ps. places_in n 0 (fields_of d) ++ ps) (places_push (suc n) es e)
    ∙ sym (append_assoc (places_in n 0 (fields_of d)) (field_places (suc n) es) (places_in (suc n + length es) 0 (fields_of e)))
    ∙ ap (λ (k : ℕ). (places_in n 0 (fields_of d) ++ field_places (suc n) es) ++ places_in k 0 (fields_of e)) h

place_push : (n i : ℕ) (fs : List FieldEntry) (f : FieldEntry) → places_in n i (fs ++ f ∷ []) ≡ places_in n i fs ++ here n (i + length fs) ∷ []
place_push n i [] f = let h : i ≡ i + 0 = omega arith in ap (λ (k : ℕ). here n k ∷ []) h
place_push n i (g ∷ fs) f =
    let h : suc i + length fs ≡ i + length (g ∷ fs) = omega arith in
    ap (λ ps. here n i ∷ ps) (place_push n (suc i) fs f ∙ ap (λ (k : ℕ). places_in n (suc i) fs ++ here n k ∷ []) h)

pub index_type : (es : List TypeEntry) (e : TypeEntry) (names : List (List ℕ)) (places : List FieldPlace) → fields_of e ≡ [] → IsFieldIndex es names places
    → IsFieldIndex (es ++ e ∷ []) names places
index_type es e names places h i = record {
  names_are = names_push es e ∙ ap (λ fs. field_names es ++ map (λ f. f.name) fs) h ∙ append-nil (field_names es) ∙ i.names_are;
  places_are = places_push 0 es e ∙ ap (λ fs. field_places 0 es ++ places_in (0 + length es) 0 fs) h ∙ append-nil (field_places 0 es) ∙ i.places_are;
}

pub index_field : (es : List TypeEntry) (e d : TypeEntry) (fs : List FieldEntry) (f : FieldEntry) (names : List (List ℕ)) (places : List FieldPlace)
    → fields_of e ≡ fs → fields_of d ≡ fs ++ f ∷ [] → IsFieldIndex (es ++ e ∷ []) names places
    → IsFieldIndex (es ++ d ∷ []) (names ++ f.name ∷ []) (places ++ here (length es) (length fs) ∷ [])
index_field es e d fs f names places h k i = record {
  names_are = names_push es d
      ∙ ap (λ gs. field_names es ++ map (λ g. g.name) gs) k
      ∙ ap (λ ns. field_names es ++ ns) (map_push (λ g. g.name) fs f)
      ∙ sym (append_assoc (field_names es) (map (λ g. g.name) fs) (f.name ∷ []))
      ∙ ap (λ ns. ns ++ f.name ∷ []) (ap (λ gs. field_names es ++ map (λ g. g.name) gs) (sym h) ∙ sym (names_push es e) ∙ i.names_are);
  places_are = places_push 0 es d
      ∙ ap (λ gs. field_places 0 es ++ places_in (0 + length es) 0 gs) k
      ∙ ap (λ ps. field_places 0 es ++ ps) (place_push (0 + length es) 0 fs f)
      ∙ ap (λ (m : ℕ). field_places 0 es ++ (places_in (0 + length es) 0 fs ++ here m (0 + length fs) ∷ [])) first
      ∙ ap (λ (m : ℕ). field_places 0 es ++ (places_in (0 + length es) 0 fs ++ here (length es) m ∷ [])) last
      ∙ sym (append_assoc (field_places 0 es) (places_in (0 + length es) 0 fs) (here (length es) (length fs) ∷ []))
      ∙ ap (λ ps. ps ++ here (length es) (length fs) ∷ []) (ap (λ gs. field_places 0 es ++ places_in (0 + length es) 0 gs) (sym h) ∙ sym (places_push 0 es e) ∙ i.places_are);
}
  where
    first : 0 + length es ≡ length es
    first = omega arith

    last : 0 + length fs ≡ length fs
    last = omega arith
