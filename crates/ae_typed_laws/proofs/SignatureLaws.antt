-- What makes a signature lawful, and that it stays so where types and symbols are added.
use Rattle.std.proofs.Common.{arith, ◌≡◌, ◌≢◌, ◌∙◌, ◌≤◌, ◌<◌, ◌+◌, ◌⊎◌, inl, inr, ℕ, zero, suc, Bool, true, false, not, ◌||◌, nat_eq, nat_lt, List}
use Rattle.std.proofs.Common.{[], ◌∷◌, ◌++◌, map, length, refl, sym, ap, subst, Option, Some, None, slice_get}
use Rattle.std.specs.List.{AllByRecursion, list_all, list_any, flat_map}
use Rattle.std.specs.Str.{bytes_eq}
use Rattle.std.proofs.lemmas.Bool.{and_parts, and_from}
use Rattle.std.proofs.lemmas.List.Kept.{AllPairs-cons}
use Rattle.std.proofs.lemmas.List.Elements.{All-from_recursion}
use Rattle.std.proofs.lemmas.Option.{none-some, slice_get_within}
use Rattle.std.proofs.lemmas.Slice.Eq.{bytes_eq-Decides}
use Rattle.ae_base.specs.Options.{or_else, ◌>>=◌}
use Rattle.ae_base.proofs.AllOf.{all_append, all_push, test_of_all}
use Rattle.ae_base.proofs.ListFacts.{get_append, list_all_weaker}
use Rattle.ae_base.proofs.Tests.{false_true, not_both}
use Rattle.ae_core.specs.Sorts.{type_fits}
use Rattle.ae_core.specs.Signatures.{is_name, fields_of, AreDistinct, is_sort_over, is_field_sort, names_below, IsChoice, IsEnumeration, IsLawfulType}
use Rattle.ae_core.specs.Signatures.{IsEnumerated, IsLawfulNature, is_result, IsLawfulSymbol, IsLawful}
use Rattle.ae_core.specs.declared.terms.Sort.{Sort, Named}
use Rattle.ae_core.specs.declared.problems.Signature.{Signature}
use Rattle.ae_core.specs.declared.problems.SymbolEntry.{SymbolEntry}
use Rattle.ae_core.specs.declared.problems.TypeEntry.{TypeEntry}
use Rattle.ae_core.specs.declared.problems.FieldEntry.{FieldEntry}
use Rattle.ae_core.specs.declared.problems.Kind.{Kind}
use Rattle.ae_core.specs.declared.problems.Kind.TheVariants.{Abstract, Choices, Fields}
use Rattle.ae_core.specs.declared.problems.Nature.{Nature}
use Rattle.ae_core.specs.declared.problems.Nature.TheVariants.{Free, Ac, Choice}
use Rattle.ae_elab.specs.Scope.{first_place, after_one, in_type, field_from, is_among}
use Rattle.ae_elab.specs.declared.fields.FieldPlace.{FieldPlace}
use Rattle.ae_typed_laws.proofs.SortRules.{ok_weaker}

-- ---- names, each of which is another one
abbrev pub Unlike : List ℕ → List (List ℕ) → Type 0
Unlike x ys = AllByRecursion (λ y. y ≢ x) ys

abbrev pub Apart : List (List ℕ) → Type 0
Apart [] = Unit {0}
Apart (x ∷ xs) = AllByRecursion (λ y. x ≢ y) xs × Apart xs

pub apart_push : (xs : List (List ℕ)) (y : List ℕ) → Apart xs → Unlike y xs → Apart (xs ++ y ∷ [])
apart_push [] y a d = (tt, tt)
apart_push (x ∷ xs) y a d = (all_push (λ z. x ≢ z) xs y a.0 d.0, apart_push xs y a.1 d.1)

distinct : (xs : List (List ℕ)) → Apart xs → AreDistinct xs
distinct [] a = λ i j d l k. absurd (omega (arith, k))
distinct (x ∷ xs) a = AllPairs-cons (λ x y. x ≢ y) x xs (All-from_recursion (λ y. x ≢ y) xs a.0) (distinct xs a.1)

-- ---- names that are looked up and not found
missed : (b : Bool) (o : Option ℕ) → ◌≡◌ {A = Option ℕ} (elim b [ true ↦ Some 0 | false ↦ after_one o ]) None → (b ≡ false) × (o ≡ None)
missed true o e = absurd (none-some 0 (sym e))
missed false None e = (refl, refl)
missed false (Some n) e = absurd (none-some (suc n) (sym e))

other_name : (new old : List ℕ) → bytes_eq new old ≡ false → old ≢ new
other_name new old e i = not_both (bytes_eq new old) ((bytes_eq-Decides new old).1 (sym i)) e

pub not_found : {X : Type 0} (name : X → List ℕ) (new : List ℕ) (xs : List X) → first_place (λ x. bytes_eq new (name x)) xs ≡ None → Unlike new (map name xs)
not_found name new [] e = tt
not_found name new (x ∷ xs) e =
    let p = missed (bytes_eq new (name x)) (first_place (λ x. bytes_eq new (name x)) xs) e in
    (other_name new (name x) p.0, not_found name new xs p.1)

pub not_either : (a b : Bool) → not (a || b) ≡ true → (a ≡ false) × (b ≡ false)
not_either true b e = false_true e
not_either false true e = false_true e
not_either false false e = (refl, refl)

pub not_among : (new : List ℕ) (seen : List (List ℕ)) → is_among new seen ≡ false → Unlike new seen
not_among new [] e = tt
not_among new (x ∷ xs) e =
    let p = not_either (bytes_eq new x) (list_any (bytes_eq new) xs) (ap not e) in
    (other_name new x p.0, not_among new xs p.1)

-- ---- fields
abbrev pub field_names_of : TypeEntry → List (List ℕ)
field_names_of e = map (λ f. f.name) (fields_of e)

abbrev pub field_names : List TypeEntry → List (List ℕ)
field_names es = flat_map (λ e. map (λ f. f.name) (fields_of e)) es

no_type : (n : ℕ) (o : Option ℕ) (later : Option FieldPlace) → in_type n o later ≡ None → (o ≡ None) × (later ≡ None)
no_type n (Some k) later e = absurd (none-some (record { of = n; place = k }) (sym e))
no_type n None later e = (refl, e)

pub no_field : (n : ℕ) (es : List TypeEntry) (name : List ℕ) → field_from n es name ≡ None → Unlike name (field_names es)
no_field n [] name e = tt
no_field n (t ∷ es) name e =
    let p = no_type n (first_place (λ (f : FieldEntry). bytes_eq name f.name) (fields_of t)) (field_from (suc n) es name) e in
    all_append (λ y. y ≢ name) (field_names_of t) (field_names es) (not_found (λ (f : FieldEntry). f.name) name (fields_of t) p.0) (no_field (suc n) es name p.1)

-- ---- places in two lists
pub in_either : {X : Type 0} (xs ys : List X) (k : ℕ) (y : X) → slice_get (xs ++ ys) k ≡ Some y → (slice_get xs k ≡ Some y) ⊎ ((j : ℕ) × (k ≡ length xs + j) × (slice_get ys j ≡ Some y))
in_either [] ys k y e = inr (k, omega arith, e)
in_either (x ∷ xs) ys zero y e = inl e
in_either (x ∷ xs) ys (suc k) y e =
    elim (in_either xs ys k y e) [
      | inl h ↦ inl h
      | inr h ↦ inr (h.0, let i = h.1 in omega (arith, i), h.2)
    ]

-- ---- a signature that is lawful, name by name
abbrev pub IsNm : List ℕ → Type 0
IsNm x = is_name x ≡ true

abbrev pub type_names : Signature → List (List ℕ)
type_names sig = map (λ e. e.name) sig.types

abbrev pub symbol_names : Signature → List (List ℕ)
symbol_names sig = map (λ e. e.name) sig.symbols

pub record Sane (sig : Signature) : Type 0 where
  pub named_types : AllByRecursion IsNm (type_names sig)
  pub named_symbols : AllByRecursion IsNm (symbol_names sig)
  pub named_fields : AllByRecursion IsNm (field_names sig.types)
  pub apart_types : Apart (type_names sig)
  pub apart_symbols : Apart (symbol_names sig)
  pub apart_fields : Apart (field_names sig.types)
  pub types : (n : ℕ) (e : TypeEntry) → slice_get sig.types n ≡ Some e → IsLawfulType sig n e
  pub symbols : (n : ℕ) (e : SymbolEntry) → slice_get sig.symbols n ≡ Some e → IsLawfulSymbol sig e

all_names : (xs : List (List ℕ)) → AllByRecursion IsNm xs → list_all is_name xs ≡ true
all_names xs a = test_of_all IsNm is_name (λ x h. h) xs a

pub sane_lawful : (sig : Signature) → Sane sig → IsLawful sig
sane_lawful sig s = record {
  names = all_names (map (λ (e : TypeEntry). e.name) sig.types ++ map (λ (e : SymbolEntry). e.name) sig.symbols ++ field_names sig.types)
      (all_append IsNm (type_names sig ++ symbol_names sig) (field_names sig.types) (all_append IsNm (type_names sig) (symbol_names sig) s.named_types s.named_symbols) s.named_fields);
  type_names = distinct (type_names sig) s.apart_types;
  symbol_names = distinct (symbol_names sig) s.apart_symbols;
  field_names = distinct (field_names sig.types) s.apart_fields;
  types = s.types;
  symbols = s.symbols;
}

-- ---- more types and symbols
module _ (sig sig' : Signature) (ts : List TypeEntry) (ss : List SymbolEntry) (types_are : sig'.types ≡ sig.types ++ ts) (symbols_are : sig'.symbols ≡ sig.symbols ++ ss) where
  type_stays : (h : ℕ) (e : TypeEntry) → slice_get sig.types h ≡ Some e → slice_get sig'.types h ≡ Some e
  type_stays h e g = ap (λ xs. slice_get xs h) types_are ∙ get_append sig.types ts h e g

  symbol_stays : (h : ℕ) (e : SymbolEntry) → slice_get sig.symbols h ≡ Some e → slice_get sig'.symbols h ≡ Some e
  symbol_stays h e g = ap (λ xs. slice_get xs h) symbols_are ∙ get_append sig.symbols ss h e g

  fits_case : (h n : ℕ) (o : Option TypeEntry) → slice_get sig.types h ≡ o → or_else (o >>= λ (e : TypeEntry). Some (nat_eq e.arity n)) false ≡ true → type_fits sig' h n ≡ true
  fits_case h n (Some e) g f = ap (λ o. or_else (o >>= λ (e : TypeEntry). Some (nat_eq e.arity n)) false) (type_stays h e g) ∙ f
  fits_case h n None g f = false_true f

  pub fits_stays : (h n : ℕ) → type_fits sig h n ≡ true → type_fits sig' h n ≡ true
  fits_stays h n f = fits_case h n (slice_get sig.types h) refl f

  pub over_stays : (n : ℕ) (s : Sort) → is_sort_over sig n s ≡ true → is_sort_over sig' n s ≡ true
  over_stays n s h = ok_weaker sig sig' (λ i. nat_lt i n) (λ i. false) (λ i. nat_lt i n) (λ i. false) fits_stays (λ i e. e) (λ i e. e) s h

  -- no new symbol is a constructor of an old type
  module _ (choices : (j : ℕ) (e : SymbolEntry) (of place : ℕ) → slice_get ss j ≡ Some e → e.nature ≡ Choice of place → length sig.types ≤ of) where
    choice_back : (symbol n place : ℕ) → n < length sig.types → IsChoice sig' symbol n place → IsChoice sig symbol n place
    choice_back symbol n place l c =
        elim (in_either sig.symbols ss symbol c.0 (sym (ap (λ xs. slice_get xs symbol) symbols_are) ∙ c.1)) [
          | inl h ↦ (c.0, h, c.2)
          | inr h ↦ absurd (let k = choices h.0 c.0 n place h.2 c.2 in omega arith)
        ]

    enumeration_stays : (n arity : ℕ) (cs : List ℕ) → n < length sig.types → IsEnumeration sig n arity cs → IsEnumeration sig' n arity cs
    enumeration_stays n arity cs l h = record {
      no_parameters = h.no_parameters;
      some = h.some;
      each = λ symbol place. (
        (λ e. let c = (h.each symbol place).0 e in (c.0, symbol_stays symbol c.0 c.1, c.2)),
        λ c. (h.each symbol place).1 (choice_back symbol n place l c),
      );
    }

    kind_stays : (n : ℕ) (e : TypeEntry) (k : Kind) → n < length sig.types → e.kind ≡ k → IsLawfulType sig n e → IsLawfulType sig' n e
    kind_stays n e Abstract l q h = rw q tt
    kind_stays n e (Choices cs) l q h =
        let old : IsEnumeration sig n e.arity cs = rw q at h in
        rw q (enumeration_stays n e.arity cs l old)
    kind_stays n e (Fields fs) l q h =
        let old : (fs ≢ []) × (list_all (λ (f : FieldEntry). is_field_sort sig n e.arity f.sort) fs ≡ true) = rw q at h in
        rw q (
          old.0,
          list_all_weaker (λ (f : FieldEntry). is_field_sort sig n e.arity f.sort) (λ (f : FieldEntry). is_field_sort sig' n e.arity f.sort)
              (λ f g. let p = and_parts (is_sort_over sig e.arity f.sort) (names_below n f.sort) g in
              and_from (is_sort_over sig' e.arity f.sort) (names_below n f.sort) (over_stays e.arity f.sort p.0) p.1) fs old.1,
        )

    pub enumerated_stays : (n : ℕ) → IsEnumerated sig n → IsEnumerated sig' n
    enumerated_stays n h = (h.0, h.1, type_stays n h.0 h.2, h.3)

    result_stays : (n : ℕ) (o : Option Sort) → is_result sig n o ≡ true → is_result sig' n o ≡ true
    result_stays n (Some s) h = over_stays n s h
    result_stays n None h = refl

    nature_stays : (e : SymbolEntry) (k : Nature) → e.nature ≡ k → IsLawfulNature sig e → IsLawfulNature sig' e
    nature_stays e Free q h = rw q tt
    nature_stays e Ac q h =
        let old : (s : Sort) × (e.args ≡ s ∷ s ∷ []) × (e.result ≡ Some s) = rw q at h in
        rw q old
    nature_stays e (Choice of place) q h =
        let old : (e.vars ≡ 0) × (e.args ≡ []) × (e.result ≡ Some (Named of [])) × IsEnumerated sig of = rw q at h in
        rw q (old.0, old.1, old.2, enumerated_stays of old.3)

    symbol_lawful : (e : SymbolEntry) → IsLawfulSymbol sig e → IsLawfulSymbol sig' e
    symbol_lawful e h = (
      list_all_weaker (is_sort_over sig e.vars) (is_sort_over sig' e.vars) (over_stays e.vars) e.args h.0,
      result_stays e.vars e.result h.1,
      nature_stays e e.nature refl h.2,
    )

    pub types_stay : Sane sig → ((j : ℕ) (e : TypeEntry) → slice_get ts j ≡ Some e → IsLawfulType sig' (length sig.types + j) e)
        → (n : ℕ) (e : TypeEntry) → slice_get sig'.types n ≡ Some e → IsLawfulType sig' n e
    types_stay s new n e g =
        elim (in_either sig.types ts n e (sym (ap (λ xs. slice_get xs n) types_are) ∙ g)) [
          | inl h ↦ kind_stays n e e.kind (slice_get_within sig.types n e h) refl (s.types n e h)
          | inr h ↦ subst (λ (k : ℕ). IsLawfulType sig' k e) (sym h.1) (new h.0 e h.2)
        ]

    pub symbols_stay : Sane sig → ((j : ℕ) (e : SymbolEntry) → slice_get ss j ≡ Some e → IsLawfulSymbol sig' e)
        → (n : ℕ) (e : SymbolEntry) → slice_get sig'.symbols n ≡ Some e → IsLawfulSymbol sig' e
    symbols_stay s new n e g =
        elim (in_either sig.symbols ss n e (sym (ap (λ xs. slice_get xs n) symbols_are) ∙ g)) [
          | inl h ↦ symbol_lawful e (s.symbols n e h)
          | inr h ↦ new h.0 e h.2
        ]
