-- What a lawful signature says of its names.
use Rattle.std.specs.Prelude.{ℕ, ◌≤◌, ◌≡◌, ◌⊎◌, Bool, true, false, not, ◌&&◌, ◌||◌, nat_eq, nat_le, List, [], ◌∷◌, ◌++◌, map, slice_get, Some}
use Rattle.std.specs.List.{flat_map, list_all, list_any}
use Rattle.std.specs.Str.{bytes_eq}
use Rattle.std.proofs.Common.{refl, sym, ◌∙◌, arith, inl, inr}
use Rattle.std.proofs.lemmas.Bool.{and_parts, and_from, or_left, not-true, eqb-true, ne_eqb, leb-true}
use Rattle.std.proofs.lemmas.List.Folds.{list_all-append}
use Rattle.std.proofs.lemmas.Slice.Eq.{bytes_eq-Decides}
use Rattle.ae_base.proofs.Tests.{three_parts, false_true, by_either}
use Rattle.ae_base.proofs.ListFacts.{get_map, list_all_at}
use Rattle.ae_codes.specs.Names.{Clean, Listed}
use Rattle.ae_core.specs.Signatures.{IsLawful, is_name, begins_name, continues_name, taken_names, fields_of}
use Rattle.ae_core.specs.declared.problems.Signature.{Signature}
use Rattle.ae_core.specs.declared.problems.SymbolEntry.{SymbolEntry}
use Rattle.ae_core.specs.declared.problems.TypeEntry.{TypeEntry}
use Rattle.ae_core.specs.declared.problems.FieldEntry.{FieldEntry}
use Rattle.ae_legal_texts.proofs.Places.{part_stands}

-- ---- a name as its first byte and the rest
pub record IsNamed (w : List ℕ) : Type 0 where
  pub first : ℕ
  pub rest : List ℕ
  pub is : w ≡ first ∷ rest
  pub begins : begins_name first ≡ true
  pub goes_on : list_all continues_name w ≡ true
  pub free : list_any (bytes_eq w) taken_names ≡ false

continues_of : (b : ℕ) → begins_name b ≡ true → continues_name b ≡ true
continues_of b h = or_left _ _ (or_left _ _ (or_left _ _ h))

pub name_is : (w : List ℕ) → is_name w ≡ true → IsNamed w
name_is [] h = false_true h
name_is (b ∷ bs) h =
    let p = three_parts (begins_name b) (list_all continues_name bs) (not (list_any (bytes_eq (b ∷ bs)) taken_names)) h in
    record { first = b; rest = bs; is = refl; begins = p.0; goes_on = and_from (continues_name b) (list_all continues_name bs) (continues_of b p.0) p.1; free = not-true (list_any (bytes_eq (b ∷ bs)) taken_names) p.2 }

-- which bytes begin a name
pub first_range : (b : ℕ) → begins_name b ≡ true → (65 ≤ b) × (b ≤ 122) × (nat_eq b 93 ≡ false)
first_range b h =
    by_either (nat_le 65 b && nat_le b 90 || nat_le 97 b && nat_le b 122) (nat_eq b 95) h
    (λ l. by_either (nat_le 65 b && nat_le b 90) (nat_le 97 b && nat_le b 122) l
    (λ u. let p = and_parts (nat_le 65 b) (nat_le b 90) u in let x = leb-true 65 b p.0 in let y = leb-true b 90 p.1 in (x, omega (arith, y), ne_eqb b 93 (λ e. omega (arith, y, e))))
    (λ u. let p = and_parts (nat_le 97 b) (nat_le b 122) u in let x = leb-true 97 b p.0 in let y = leb-true b 122 p.1 in (omega (arith, x), y, ne_eqb b 93 (λ e. omega (arith, x, e)))))
    (λ e. let q = eqb-true b 95 e in (omega (arith, q), omega (arith, q), ne_eqb b 93 (λ z. omega (arith, q, z))))

-- which bytes a name goes on with
pub byte_range : (b : ℕ) → continues_name b ≡ true → (46 ≤ b) × (b ≤ 122) × (nat_eq b 93 ≡ false)
byte_range b h =
    by_either (begins_name b || (nat_le 48 b && nat_le b 57) || nat_eq b 63) (nat_eq b 46) h
    (λ l. by_either (begins_name b || (nat_le 48 b && nat_le b 57)) (nat_eq b 63) l
    (λ m. by_either (begins_name b) (nat_le 48 b && nat_le b 57) m
    (λ u. let r = first_range b u in let x = r.0 in (omega (arith, x), r.1, r.2))
    (λ u. let p = and_parts (nat_le 48 b) (nat_le b 57) u in let x = leb-true 48 b p.0 in let y = leb-true b 57 p.1 in (omega (arith, x), omega (arith, y), ne_eqb b 93 (λ e. omega (arith, y, e)))))
    (λ e. let q = eqb-true b 63 e in (omega (arith, q), omega (arith, q), ne_eqb b 93 (λ z. omega (arith, q, z)))))
    (λ e. let q = eqb-true b 46 e in (omega (arith, q), omega (arith, q), ne_eqb b 93 (λ z. omega (arith, q, z))))

-- no byte of a name closes, where no byte that names go on with does
pub clean_bytes : (fine : List ℕ → Bool) (table : List (List ℕ)) (ends : ℕ → Bool) → ((x : ℕ) → continues_name x ≡ true → ends x ≡ false) → (w : List ℕ) → list_all continues_name w ≡ true → Clean fine table ends w
clean_bytes fine table ends apart [] h = tt
clean_bytes fine table ends apart (x ∷ w) h = let p = and_parts (continues_name x) (list_all continues_name w) h in (apart x p.0, clean_bytes fine table ends apart w p.1)

-- a name is none of the taken words
taken_step : (w t : List ℕ) (ts : List (List ℕ)) (b : Bool) → bytes_eq w t ≡ b → b || list_any (bytes_eq w) ts ≡ false → (list_any (bytes_eq w) ts ≡ false → Listed ts w → ⊥) → (w ≡ t) ⊎ Listed ts w → ⊥
taken_step w t ts true e f ih j = false_true (sym f)
taken_step w t ts false e f ih (inl q) = false_true (sym e ∙ (bytes_eq-Decides w t).1 q)
taken_step w t ts false e f ih (inr j) = ih f j

taken_by : (ts : List (List ℕ)) (w : List ℕ) → list_any (bytes_eq w) ts ≡ false → Listed ts w → ⊥
taken_by [] w h i = absurd i
taken_by (t ∷ ts) w h i = taken_step w t ts (bytes_eq w t) refl h (taken_by ts w) i

pub not_taken : (w : List ℕ) → IsNamed w → Listed taken_names w → ⊥
not_taken w n i = taken_by taken_names w n.free i

-- ---- the names of a lawful signature
module _ (sig : Signature) (lawful : IsLawful sig) where
  abbrev type_list : List (List ℕ)
  type_list = map (λ e. e.name) sig.types

  abbrev symbol_list : List (List ℕ)
  symbol_list = map (λ e. e.name) sig.symbols

  abbrev fields_named : TypeEntry → List (List ℕ)
  fields_named e = map (λ f. f.name) (fields_of e)

  abbrev field_list : List (List ℕ)
  field_list = flat_map fields_named sig.types

  two_lists : list_all is_name (type_list ++ symbol_list) ≡ true
  two_lists = (and_parts (list_all is_name (type_list ++ symbol_list)) (list_all is_name field_list) (sym (list_all-append is_name (type_list ++ symbol_list) field_list) ∙ lawful.names)).0

  pub type_named : (n : ℕ) (e : TypeEntry) → slice_get sig.types n ≡ Some e → IsNamed e.name
  type_named n e g =
      name_is e.name (list_all_at is_name type_list n e.name (and_parts (list_all is_name type_list) (list_all is_name symbol_list) (sym (list_all-append is_name type_list symbol_list) ∙ two_lists)).0
      (get_map (λ (e : TypeEntry). e.name) sig.types n e g))

  pub symbol_named : (n : ℕ) (e : SymbolEntry) → slice_get sig.symbols n ≡ Some e → IsNamed e.name
  symbol_named n e g =
      name_is e.name (list_all_at is_name symbol_list n e.name (and_parts (list_all is_name type_list) (list_all is_name symbol_list) (sym (list_all-append is_name type_list symbol_list) ∙ two_lists)).1
      (get_map (λ (e : SymbolEntry). e.name) sig.symbols n e g))

  pub field_named : (n p : ℕ) (e : TypeEntry) (f : FieldEntry) → slice_get sig.types n ≡ Some e → slice_get (fields_of e) p ≡ Some f → IsNamed f.name
  field_named n p e f g h =
      let r = part_stands fields_named sig.types n p e f.name g (get_map (λ (f : FieldEntry). f.name) (fields_of e) p f h) in
      name_is f.name (list_all_at is_name field_list r.0 f.name (and_parts (list_all is_name (type_list ++ symbol_list)) (list_all is_name field_list)
      (sym (list_all-append is_name (type_list ++ symbol_list) field_list) ∙ lawful.names)).1 r.1)
