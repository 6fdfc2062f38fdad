-- Declarations whose conditions are met leave a lawful signature.
use Rattle.std.proofs.Common.{arith, ◌≡◌, ◌≢◌, ◌∙◌, ◌≤◌, ◌<◌, ◌+◌, inl, inr, ℕ, zero, suc, Bool, true, false, not, nat_eq, nat_lt, List, [], ◌∷◌}
use Rattle.std.proofs.Common.{◌++◌, map, length, refl, sym, ap, subst, Option, Some, None, slice_get, append_assoc}
use Rattle.std.specs.List.{AllByRecursion, list_all}
use Rattle.std.specs.Prelude.{◌↔◌}
use Rattle.std.specs.Option.{is_some}
use Rattle.std.proofs.lemmas.Bool.{and_parts, and_from}
use Rattle.std.proofs.lemmas.Grind.{flat_map-append}
use Rattle.std.proofs.lemmas.List.{length-append, length-map, map-append, append-nil}
use Rattle.std.proofs.lemmas.Option.{none-some, same_Some, slice_get_within}
use Rattle.ae_base.specs.Options.{or_else, ◌>>=◌}
use Rattle.ae_base.proofs.AllOf.{all_append, all_front, all_back, all_push, test_of_all}
use Rattle.ae_base.proofs.Decided.{decided_yes}
use Rattle.ae_base.proofs.ListFacts.{get_seam, get_after, get_append, list_all_weaker}
use Rattle.ae_base.proofs.Tests.{false_true}
use Rattle.ae_core.specs.Decided.{Sort_discrete}
use Rattle.ae_core.specs.Sorts.{sort_ok, type_fits, same_sort}
use Rattle.ae_core.specs.Signatures.{fields_of, is_sort_over, is_field_sort, names_below, IsChoice, IsLawfulType, IsEnumerated, IsLawfulNature}
use Rattle.ae_core.specs.Signatures.{is_result, IsLawfulSymbol, IsLawful}
use Rattle.ae_core.proofs.SortLaws.{ok_named}
use Rattle.ae_core.specs.declared.terms.Sort.{Sort, Named}
use Rattle.ae_core.specs.declared.problems.Problem.{Problem}
use Rattle.ae_core.specs.declared.problems.Signature.{Signature}
use Rattle.ae_core.specs.declared.problems.SymbolEntry.{SymbolEntry}
use Rattle.ae_core.specs.declared.problems.TypeEntry.{TypeEntry}
use Rattle.ae_core.specs.declared.problems.FieldEntry.{FieldEntry}
use Rattle.ae_core.specs.declared.problems.Kind.TheVariants.{Abstract, Choices, Fields}
use Rattle.ae_core.specs.declared.problems.Nature.{Nature}
use Rattle.ae_core.specs.declared.problems.Nature.TheVariants.{Free, Ac, Choice}
use Rattle.ae_lex.specs.declared.kinds.Token.{Token}
use Rattle.ae_lex.specs.Lexis.{IsTokenized}
use Rattle.ae_syntax.specs.declared.spans.Span.{Span}
use Rattle.ae_syntax.specs.declared.types.WrittenType.{WrittenType}
use Rattle.ae_syntax.specs.declared.exprs.Expr.{Expr}
use Rattle.ae_syntax.specs.declared.decls.TypedName.{TypedName}
use Rattle.ae_syntax.specs.declared.decls.SymbolResult.{SymbolResult}
use Rattle.ae_syntax.specs.declared.decls.Decl.{Decl}
use Rattle.ae_syntax.specs.declared.decls.DeclKind.{DeclKind}
use Rattle.ae_syntax.specs.declared.decls.DeclKind.TheVariants as kind
use Rattle.ae_syntax.specs.declared.decls.File.{File}
use Rattle.ae_syntax.specs.Files.{IsParsed}
use Rattle.ae_elab.specs.declared.faults.TypeFault.TheVariants as fault
use Rattle.ae_elab.specs.declared.fields.FieldPlace.{FieldPlace}
use Rattle.ae_elab.specs.declared.grounds.Ground.{Ground}
use Rattle.ae_elab.specs.declared.grounds.Ground.TheVariants as ground
use Rattle.ae_elab.specs.Conditions.{test}
use Rattle.ae_elab.specs.Trees.{apply, relation, equal, equivalence, predicate}
use Rattle.ae_core.specs.declared.terms.Head.TheVariants as head
use Rattle.ae_elab.specs.Scope.{name_in, field_from, is_among, type_number, symbol_number}
use Rattle.ae_elab.specs.Rules.{Passed, Rule, ◌>>◌, each, fresh, count_written, as_formula, wanted}
use Rattle.ae_elab.specs.WrittenTypes.{type_rule}
use Rattle.ae_elab.specs.Formulas.{Bound, with_block}
use Rattle.ae_elab.specs.Expressions.{part_of}
use Rattle.ae_elab.specs.Declarations.{Declared, declared, twice, new_type, new_symbol, has_field, all_different, with_types, with_symbols}
use Rattle.ae_elab.specs.Declarations.{type_entry, generalize, generalized, symbol_entry, scope_of, fields_rule, type_decl, constructors_from}
use Rattle.ae_elab.specs.Declarations.{new_symbols, count_from, enumeration_decl, result_rule, is_ac, may_be_ac, nature_of, logic_decl, formals_rule}
use Rattle.ae_elab.specs.Declarations.{sorts_of, rigids, formal_args, defining, drafted, function_decl, predicate_decl, kind_rule, decl_rule}
use Rattle.ae_elab.specs.Declarations.{decls_rule, no_declarations, conditions_of, declared_by}
use Rattle.ae_elab.specs.Problems.{IsTyped}
use Rattle.ae_elab.proofs.EntryLaws.{general_named}
use Rattle.ae_typed_laws.proofs.ParsedTrees.{IsIdentifier, IsWritten, AreWritten, no_types, and_type, IsTypedName, IsResult, IsKind, IsDeclaration}
use Rattle.ae_typed_laws.proofs.FileTrees.{file_made}
use Rattle.ae_typed_laws.proofs.MetConditions.{IsMetOne, met_each, grows_then, Gives, Ends, gives_value, gives_then, gives_after, ends_then}
use Rattle.ae_typed_laws.proofs.MetConditions.{ends_after, ends_after_all, Each, keeps_each}
use Rattle.ae_typed_laws.proofs.SortRules.{ok_weaker, general_ok, IsFree, free_kept, IsInField, sort_given}
use Rattle.ae_typed_laws.proofs.SignatureLaws.{Unlike, Apart, apart_push, not_found, not_among, not_either, field_names_of, field_names, no_field}
use Rattle.ae_typed_laws.proofs.SignatureLaws.{in_either, IsNm, type_names, symbol_names, Sane, sane_lawful, over_stays, types_stay, symbols_stay}

-- ---- tests
is_nothing : {X : Type 0} (o : Option X) → not (is_some o) ≡ true → o ≡ None
is_nothing (Some x) e = false_true e
is_nothing None e = refl

-- ---- one more type
module _ (sig : Signature) (t : TypeEntry) where
  abbrev more_types : Signature
  more_types = with_types sig (t ∷ [])

  type_at_end : (j : ℕ) (e : TypeEntry) → slice_get (t ∷ []) j ≡ Some e → (j ≡ 0) × (t ≡ e)
  type_at_end zero e g = (refl, same_Some t e g)
  type_at_end (suc j) e g = absurd (none-some e g)

  no_new_choice : (j : ℕ) (e : SymbolEntry) (of place : ℕ) → slice_get ([]) j ≡ Some e → e.nature ≡ Choice of place → length sig.types ≤ of
  no_new_choice j e of place g i = absurd (none-some e g)

  type_lawful : IsLawfulType more_types (length sig.types) t → (j : ℕ) (e : TypeEntry) → slice_get (t ∷ []) j ≡ Some e → IsLawfulType more_types (length sig.types + j) e
  type_lawful h j e g =
      let p = type_at_end j e g in
      subst (λ (k : ℕ). IsLawfulType more_types k e) (let i = p.0 in omega (arith, i)) (subst (λ (x : TypeEntry). IsLawfulType more_types (length sig.types) x) p.1 h)

  pub sane_type : Sane sig → IsNm t.name → Unlike t.name (type_names sig) → AllByRecursion IsNm (field_names_of t) → Apart (field_names sig.types ++ field_names_of t)
      → IsLawfulType more_types (length sig.types) t → Sane more_types
  sane_type s n u fn fa h =
      let names : type_names more_types ≡ type_names sig ++ t.name ∷ [] = map-append (λ (e : TypeEntry). e.name) sig.types (t ∷ []) in
      let fields : field_names more_types.types ≡ field_names sig.types ++ field_names_of t =
      flat_map-append (λ (e : TypeEntry). map (λ (f : FieldEntry). f.name) (fields_of e)) sig.types (t ∷ []) ∙ ap (λ xs. field_names sig.types ++ xs) (append-nil (field_names_of t)) in
      let none : sig.symbols ≡ sig.symbols ++ [] = sym (append-nil sig.symbols) in
      record {
        named_types = subst (AllByRecursion IsNm) (sym names) (all_push IsNm (type_names sig) t.name s.named_types n);
        named_symbols = s.named_symbols;
        named_fields = subst (AllByRecursion IsNm) (sym fields) (all_append IsNm (field_names sig.types) (field_names_of t) s.named_fields fn);
        apart_types = subst Apart (sym names) (apart_push (type_names sig) t.name s.apart_types u);
        apart_symbols = s.apart_symbols;
        apart_fields = subst Apart (sym fields) fa;
        types = types_stay sig more_types (t ∷ []) [] refl none no_new_choice s (type_lawful h);
        symbols = symbols_stay sig more_types (t ∷ []) [] refl none no_new_choice s (λ j e g. absurd (none-some e g));
      }

-- ---- more symbols
module _ (sig : Signature) (ss : List SymbolEntry) where
  abbrev more_symbols : Signature
  more_symbols = with_symbols sig ss

  pub sane_symbols : Sane sig → AllByRecursion IsNm (map (λ e. e.name) ss) → Apart (symbol_names sig ++ map (λ e. e.name) ss)
      → ((j : ℕ) (e : SymbolEntry) (of place : ℕ) → slice_get ss j ≡ Some e → e.nature ≡ Choice of place → length sig.types ≤ of)
      → ((j : ℕ) (e : SymbolEntry) → slice_get ss j ≡ Some e → IsLawfulSymbol more_symbols e) → Sane more_symbols
  sane_symbols s n a c h =
      let names : symbol_names more_symbols ≡ symbol_names sig ++ map (λ (e : SymbolEntry). e.name) ss = map-append (λ (e : SymbolEntry). e.name) sig.symbols ss in
      let none : sig.types ≡ sig.types ++ [] = sym (append-nil sig.types) in
      record {
        named_types = s.named_types;
        named_symbols = subst (AllByRecursion IsNm) (sym names) (all_append IsNm (symbol_names sig) (map (λ (e : SymbolEntry). e.name) ss) s.named_symbols n);
        named_fields = s.named_fields;
        apart_types = s.apart_types;
        apart_symbols = subst Apart (sym names) a;
        apart_fields = s.apart_fields;
        types = types_stay sig more_symbols [] ss none refl c s (λ j e g. absurd (none-some e g));
        symbols = symbols_stay sig more_symbols [] ss none refl c s h;
      }

module _ (m : ℕ → Sort) (text : List ℕ) where
  abbrev Lawful : Declared → Type 0
  Lawful d = Sane d.signature

  abbrev Declares : Passed → Rule Declared → Type 0
  Declares p r = Ends m p Lawful r

  -- what is declared at the end
  declares_end : (sig : Signature) (p : Passed) → Sane sig → Declares p (declared sig)
  declares_end sig p s = record { by = λ c. s }

  counts : (f : ℕ → Rule Declared) (p : Passed) → Declares p (f (length p.written)) → Declares p (count_written >> f)
  counts f p h = record { by = λ c. h.by c }

  -- ---- names
  new_name : (sig : Signature) (s : Span) → IsMetOne m (new_type text sig s) → Unlike (name_in text s) (type_names sig)
  new_name sig s h = not_found (λ (e : TypeEntry). e.name) (name_in text s) sig.types (is_nothing (type_number sig (name_in text s)) h)

  new_symbol_name : (sig : Signature) (s : Span) → symbol_number sig (name_in text s) ≡ None → Unlike (name_in text s) (symbol_names sig)
  new_symbol_name sig s h = not_found (λ (e : SymbolEntry). e.name) (name_in text s) sig.symbols h

  names_of : (ss : List Span) → AllByRecursion (IsIdentifier text) ss → AllByRecursion IsNm (map (name_in text) ss)
  names_of [] h = tt
  names_of (s ∷ ss) h = (h.0.name, names_of ss h.1)

  new_apart : (sig : Signature) (names seen : List (List ℕ)) (cs : List Span) → Apart names
      → ((x : List ℕ) → Unlike x (symbol_names sig) → Unlike x seen → Unlike x names) → AllByRecursion (IsMetOne m) (new_symbols text sig seen cs)
      → Apart (names ++ map (name_in text) cs)
  new_apart sig names seen [] a u h = subst Apart (sym (append-nil names)) a
  new_apart sig names seen (c ∷ cs) a u h =
      let n = name_in text c in
      let p = not_either (is_some (symbol_number sig n)) (is_among n seen) h.0 in
      let d = u n (new_symbol_name sig c (is_nothing (symbol_number sig n) (ap not p.0))) (not_among n seen p.1) in
      subst Apart (append_assoc names (n ∷ []) (map (name_in text) cs))
      (new_apart sig (names ++ n ∷ []) (n ∷ seen) cs (apart_push names n a d) (λ x k l. all_push (λ y. y ≢ x) names n (u x k l.1) l.0) h.1)

  symbols_apart : (sig : Signature) (cs : List Span) → Sane sig → AllByRecursion (IsMetOne m) (new_symbols text sig [] cs) → Apart (symbol_names sig ++ map (name_in text) cs)
  symbols_apart sig cs s h = new_apart sig (symbol_names sig) [] cs s.apart_symbols (λ x k l. k) h

  -- ---- an abstract type
  plain_apart : (sig : Signature) → Sane sig → Apart (field_names sig.types ++ [])
  plain_apart sig s = subst Apart (sym (append-nil (field_names sig.types))) s.apart_fields

  abstract_declares : (sig : Signature) (ps : List Span) (n : Span) (p : Passed) → Sane sig → IsIdentifier text n → Declares p (type_decl text sig ps n [])
  abstract_declares sig ps n p s i =
      ends_after_all m Lawful (all_different text [] ps) _ p
      (λ a. ends_after m Lawful (new_type text sig n) _ p
      (λ b. declares_end (with_types sig (type_entry (name_in text n) (length ps) Abstract ∷ [])) p
      (sane_type sig (type_entry (name_in text n) (length ps) Abstract) s i.name (new_name sig n b) tt (plain_apart sig s) tt)))

  -- ---- a record type
  module _ (sig : Signature) (ps : List Span) (n : Span) where
    abbrev params : List (List ℕ)
    params = map (name_in text) ps

    abbrev entry : List FieldEntry → TypeEntry
    entry fs = type_entry (name_in text n) (length ps) (Fields fs)

    abbrev with : List FieldEntry → Signature
    with fs = with_types sig (entry fs ∷ [])

    abbrev names_in : List FieldEntry → List (List ℕ)
    names_in fs = map (λ f. f.name) fs

    -- the type has as many parameters whatever its fields are
    fits_case : (fs gs : List FieldEntry) (h k : ℕ) (o : Option TypeEntry) → slice_get (sig.types ++ entry fs ∷ []) h ≡ o → or_else (o >>= λ (e : TypeEntry). Some (nat_eq e.arity k)) false ≡ true
        → type_fits (with gs) h k ≡ true
    fits_case fs gs h k None g f = false_true f
    fits_case fs gs h k (Some e) g f =
        elim (in_either sig.types (entry fs ∷ []) h e g) [
          | inl x ↦ ap (λ o. or_else (o >>= λ (e : TypeEntry). Some (nat_eq e.arity k)) false) (get_append sig.types (entry gs ∷ []) h e x) ∙ f
          | inr x ↦
              let q = type_at_end sig (entry fs) x.0 e x.2 in
              let i : h ≡ length sig.types = let a = x.1 in let b = q.0 in omega (arith, a, b) in
              let at : slice_get (sig.types ++ entry gs ∷ []) h ≡ Some (entry gs) = ap (slice_get (sig.types ++ entry gs ∷ [])) i ∙ get_seam sig.types [] (entry gs) in
              ap (λ o. or_else (o >>= λ (e : TypeEntry). Some (nat_eq e.arity k)) false) at ∙ ap (λ (e : TypeEntry). nat_eq e.arity k) q.1 ∙ f
        ]

    fits_alike : (fs gs : List FieldEntry) (h k : ℕ) → type_fits (with fs) h k ≡ true → type_fits (with gs) h k ≡ true
    fits_alike fs gs h k f = fits_case fs gs h k (slice_get (sig.types ++ entry fs ∷ []) h) refl f

    abbrev IsField : FieldEntry → Type 0
    IsField f = is_field_sort (with []) (length sig.types) (length ps) f.sort ≡ true

    record AreFields (fs : List FieldEntry) : Type 0 where
      sorts : AllByRecursion IsField fs
      named : AllByRecursion IsNm (names_in fs)
      apart : Apart (field_names sig.types ++ names_in fs)

    record Extends (least : ℕ) (fs : List FieldEntry) (p : Passed) : Type 0 where
      fields : AreFields fs
      some : least ≤ length fs

    unnamed : (o : Option FieldPlace) → not (elim o [ Some f ↦ true | None ↦ false ]) ≡ true → o ≡ None
    unnamed (Some f) e = false_true e
    unnamed None e = refl

    names_with : (fs : List FieldEntry) → field_names (with fs).types ≡ field_names sig.types ++ names_in fs
    names_with fs =
        flat_map-append (λ (e : TypeEntry). map (λ (f : FieldEntry). f.name) (fields_of e)) sig.types (entry fs ∷ [])
        ∙ ap (λ xs. field_names sig.types ++ xs) (append-nil (names_in fs))

    -- a field more
    field_more : (got : List FieldEntry) (x : TypedName) (s : Sort) (p : Passed) → AreFields got → IsIdentifier text x.name
        → not (has_field (with got).types (name_in text x.name)) ≡ true → IsInField m (with got) (length params) (length sig.types) s p
        → AreFields (got ++ record { name = name_in text x.name; sort = s } ∷ [])
    field_more got x s p a i b h =
        let new : FieldEntry = record { name = name_in text x.name; sort = s } in
        let none : field_from 0 (with got).types (name_in text x.name) ≡ None = unnamed (field_from 0 (with got).types (name_in text x.name)) b in
        let u : Unlike (name_in text x.name) (field_names sig.types ++ names_in got) = subst (Unlike (name_in text x.name)) (names_with got) (no_field 0 (with got).types (name_in text x.name) none) in
        let over = ok_weaker (with got) (with []) (λ i. nat_lt i (length params)) (λ i. false) (λ i. nat_lt i (length params)) (λ i. false) (fits_alike got []) (λ i e. e) (λ i e. e) s h.over in
        let sort : is_field_sort (with []) (length sig.types) (length ps) s ≡ true =
        and_from (is_sort_over (with []) (length ps) s) (names_below (length sig.types) s) (subst (λ (k : ℕ). is_sort_over (with []) k s ≡ true) (length-map ps (name_in text)) over) h.below in
        let names : names_in (got ++ new ∷ []) ≡ names_in got ++ new.name ∷ [] = map-append (λ (f : FieldEntry). f.name) got (new ∷ []) in
        record {
          sorts = all_push IsField got new a.sorts sort;
          named = subst (AllByRecursion IsNm) (sym names) (all_push IsNm (names_in got) new.name a.named i.name);
          apart = subst Apart (append_assoc (field_names sig.types) (names_in got) (new.name ∷ []) ∙ ap (λ xs. field_names sig.types ++ xs) (sym names))
              (apart_push (field_names sig.types ++ names_in got) new.name a.apart u);
        }

    abbrev in_this : Ground
    in_this = ground.InField params (length sig.types)

    fields_given : (got : List FieldEntry) (xs : List TypedName) (p : Passed) → AreFields got → AllByRecursion (IsTypedName text) xs
        → Gives m p (Extends (length got + length xs)) (fields_rule text sig in_this entry got xs)
    fields_given got [] p a h = gives_value m (Extends (length got + 0)) got p (record { fields = a; some = omega arith })
    fields_given got (x ∷ xs) p a h =
        let grown : length (with got).types ≡ suc (length sig.types) = length-append sig.types (entry got ∷ []) ∙ omega arith in
        gives_after m (Extends (length got + suc (length xs))) (test (not (has_field (with got).types (name_in text x.name))) (twice text x.name)) _ p
        (λ b. gives_then m (IsInField m (with got) (length params) (length sig.types)) (Extends (length got + suc (length xs))) (type_rule x.sort in_this (scope_of text (with got))) _ p
        (sort_given m (with got) text [] in_this grown h.0.sort p)
        (λ s q g k.
        let new = got ++ record { name = name_in text x.name; sort = s } ∷ [] in
        record {
          by = λ c. let r = (fields_given new xs q (field_more got x s q a h.0.name b k) h.1).by c in
              let l : length new ≡ length got + 1 = length-append got (record { name = name_in text x.name; sort = s } ∷ []) in
              record { grows = r.grows; value = record { fields = r.value.fields; some = let z = r.value.some in omega (arith, l, z) } };
        }))

    not_empty : (fs : List FieldEntry) → 0 < length fs → fs ≢ []
    not_empty [] l e = absurd (omega (arith, l))
    not_empty (f ∷ fs) l e = let z : ◌≡◌ {A = ℕ} (suc (length fs)) 0 = ap length e in absurd (omega (arith, z))

    record_lawful : (fs : List FieldEntry) → AreFields fs → 0 < length fs → IsLawfulType (with fs) (length sig.types) (entry fs)
    record_lawful fs a l = (
      not_empty fs l,
      test_of_all IsField (λ (f : FieldEntry). is_field_sort (with fs) (length sig.types) (length ps) f.sort)
          (λ f g. let p = and_parts (is_sort_over (with []) (length ps) f.sort) (names_below (length sig.types) f.sort) g in
          and_from (is_sort_over (with fs) (length ps) f.sort) (names_below (length sig.types) f.sort)
          (ok_weaker (with []) (with fs) (λ i. nat_lt i (length ps)) (λ i. false) (λ i. nat_lt i (length ps)) (λ i. false) (fits_alike [] fs) (λ i e. e) (λ i e. e) f.sort p.0) p.1)
          fs a.sorts,
    )

    record_declares : (x : TypedName) (xs : List TypedName) (p : Passed) → Sane sig → IsIdentifier text n → AllByRecursion (IsTypedName text) (x ∷ xs) → Declares p (type_decl text sig ps n (x ∷ xs))
    record_declares x xs p s i h =
        ends_after_all m Lawful (all_different text [] ps) _ p
        (λ a. ends_after m Lawful (new_type text sig n) _ p
        (λ b. ends_then m (Extends (0 + suc (length xs))) Lawful (fields_rule text sig in_this entry [] (x ∷ xs)) _ p
        (fields_given [] (x ∷ xs) p (record { sorts = tt; named = tt; apart = plain_apart sig s }) h)
        (λ fs q g k. declares_end (with fs) q
        (sane_type sig (entry fs) s i.name (new_name sig n b) k.fields.named k.fields.apart (record_lawful fs k.fields (let z = k.some in omega (arith, z)))))))

  type_declares : (sig : Signature) (ps : List Span) (n : Span) (fs : List TypedName) (p : Passed) → Sane sig → IsIdentifier text n → AllByRecursion (IsTypedName text) fs
      → Declares p (type_decl text sig ps n fs)
  type_declares sig ps n [] p s i h = abstract_declares sig ps n p s i
  type_declares sig ps n (x ∷ xs) p s i h = record_declares sig ps n x xs p s i h

  -- ---- an enumeration
  module _ (sig : Signature) (n : Span) (cs : List Span) where
    abbrev size : ℕ
    size = length sig.symbols

    abbrev choices : TypeEntry
    choices = type_entry (name_in text n) 0 (Choices (count_from size cs))

    abbrev with_type : Signature
    with_type = with_types sig (choices ∷ [])

    abbrev constructors : List SymbolEntry
    constructors = constructors_from text (length sig.types) 0 cs

    abbrev whole : Signature
    whole = with_symbols with_type constructors

    constructor_names : (of place : ℕ) (cs : List Span) → map (λ (e : SymbolEntry). e.name) (constructors_from text of place cs) ≡ map (name_in text) cs
    constructor_names of place [] = refl
    constructor_names of place (c ∷ cs) = ap (λ xs. name_in text c ∷ xs) (constructor_names of (suc place) cs)

    -- what stands at a place
    counted_at : (first : ℕ) (ds : List Span) (k symbol : ℕ) → slice_get (count_from first ds) k ≡ Some symbol → (symbol ≡ first + k) × (k < length ds)
    counted_at first [] k symbol e = absurd (none-some symbol e)
    counted_at first (d ∷ ds) zero symbol e = let i = same_Some first symbol e in (omega (arith, i), omega arith)
    counted_at first (d ∷ ds) (suc k) symbol e = let h = counted_at (suc first) ds k symbol e in (let i = h.0 in omega (arith, i), let l = h.1 in omega (arith, l))

    count_at : (first : ℕ) (ds : List Span) (k : ℕ) → k < length ds → slice_get (count_from first ds) k ≡ Some (first + k)
    count_at first [] k l = absurd (omega (arith, l))
    count_at first (d ∷ ds) zero l = ap Some (let e : first ≡ first + 0 = omega arith in e)
    count_at first (d ∷ ds) (suc k) l = count_at (suc first) ds k (omega (arith, l)) ∙ ap Some (let e : suc first + k ≡ first + suc k = omega arith in e)

    built : (place : ℕ) (ds : List Span) (k : ℕ) (e : SymbolEntry) → slice_get (constructors_from text (length sig.types) place ds) k ≡ Some e
        → (k < length ds) × (e.vars ≡ 0) × (e.args ≡ []) × (e.result ≡ Some (Named (length sig.types) [])) × (e.nature ≡ Choice (length sig.types) (place + k))
    built place [] k e g = absurd (none-some e g)
    built place (d ∷ ds) zero e g =
        let new : SymbolEntry = symbol_entry (name_in text d) 0 [] (Some (Named (length sig.types) [])) (Choice (length sig.types) place) in
        let i = same_Some new e g in (
          omega arith,
          ap (λ (x : SymbolEntry). x.vars) (sym i),
          ap (λ (x : SymbolEntry). x.args) (sym i),
          ap (λ (x : SymbolEntry). x.result) (sym i) ∙ ap Some (general_named (length sig.types) []),
          ap (λ (x : SymbolEntry). x.nature) (sym i) ∙ ap (Choice (length sig.types)) (let z : place ≡ place + 0 = omega arith in z),
        )
    built place (d ∷ ds) (suc k) e g =
        let h = built (suc place) ds k e g in
        (let l = h.0 in omega (arith, l), h.1, h.2, h.3, h.4 ∙ ap (Choice (length sig.types)) (let z : suc place + k ≡ place + suc k = omega arith in z))

    is_there : (place : ℕ) (ds : List Span) (k : ℕ) → k < length ds → (e : SymbolEntry) × (slice_get (constructors_from text (length sig.types) place ds) k ≡ Some e)
    is_there place [] k l = absurd (omega (arith, l))
    is_there place (d ∷ ds) zero l = (symbol_entry (name_in text d) 0 [] (Some (Named (length sig.types) [])) (Choice (length sig.types) place), refl)
    is_there place (d ∷ ds) (suc k) l = is_there (suc place) ds k (omega (arith, l))

    -- no symbol before is one of its constructors
    old_choice : Sane sig → (symbol place : ℕ) (e : SymbolEntry) → slice_get sig.symbols symbol ≡ Some e → e.nature ≡ Choice (length sig.types) place → ⊥
    old_choice s symbol place e g q =
        let law : IsLawfulNature sig e = (s.symbols symbol e g).2 in
        let x : (e.vars ≡ 0) × (e.args ≡ []) × (e.result ≡ Some (Named (length sig.types) [])) × IsEnumerated sig (length sig.types) = rw q at law in
        let l = slice_get_within sig.types (length sig.types) x.3.0 x.3.2 in
        absurd (omega (arith, l))

    each_choice : Sane sig → (symbol place : ℕ) → (slice_get (count_from size cs) place ≡ Some symbol) ↔ IsChoice whole symbol (length sig.types) place
    each_choice s symbol place = (
      (λ g. let c = counted_at size cs place symbol g in
          let x = is_there 0 cs place c.1 in (
            x.0,
            ap (slice_get (sig.symbols ++ constructors)) c.0 ∙ get_after sig.symbols constructors place ∙ x.1,
            (built 0 cs place x.0 x.1).4 ∙ ap (Choice (length sig.types)) (let z : 0 + place ≡ place = omega arith in z),
          )),
      λ c. elim (in_either sig.symbols constructors symbol c.0 c.1) [
        | inl h ↦ absurd (old_choice s symbol place c.0 h c.2)
        | inr h ↦
            let b = built 0 cs h.0 c.0 h.2 in
            let j : 0 + h.0 ≡ place = let z : Choice (length sig.types) (0 + h.0) ≡ Choice (length sig.types) place = sym b.4 ∙ c.2 in cc z in
            let i : h.0 ≡ place = omega (arith, j) in
            ap (slice_get (count_from size cs)) (sym i) ∙ count_at size cs h.0 b.0 ∙ ap Some (sym h.1)
      ],
    )

    some_choices : 0 < length cs → count_from size cs ≢ []
    some_choices l e = let z : slice_get (count_from size cs) 0 ≡ None = ap (λ xs. slice_get xs 0) e in absurd (none-some (size + 0) (sym z ∙ count_at size cs 0 l))

    constructor_lawful : slice_get whole.types (length sig.types) ≡ Some choices → (k : ℕ) (e : SymbolEntry)
        → (k < length cs) × (e.vars ≡ 0) × (e.args ≡ []) × (e.result ≡ Some (Named (length sig.types) [])) × (e.nature ≡ Choice (length sig.types) (0 + k)) → IsLawfulSymbol whole e
    constructor_lawful t k e b =
        let fits : type_fits whole (length sig.types) 0 ≡ true = ap (λ o. or_else (o >>= λ (x : TypeEntry). Some (nat_eq x.arity 0)) false) t in
        let sort : is_sort_over whole e.vars (Named (length sig.types) []) ≡ true =
        ok_named whole (λ i. nat_lt i e.vars) (λ i. false) (length sig.types) [] ∙ and_from (type_fits whole (length sig.types) 0) true fits refl in
        let nature : IsLawfulNature whole e = rw b.4 (b.1, b.2, b.3, (choices, count_from size cs, t, refl)) in
        (ap (list_all (is_sort_over whole e.vars)) b.2, ap (is_result whole e.vars) b.3 ∙ sort, nature)

    enumeration_sane : Sane sig → IsIdentifier text n → AllByRecursion (IsIdentifier text) cs → 0 < length cs → Unlike (name_in text n) (type_names sig)
        → AllByRecursion (IsMetOne m) (new_symbols text sig [] cs) → Sane whole
    enumeration_sane s i a l u h =
        let names : symbol_names whole ≡ symbol_names sig ++ map (name_in text) cs =
        map-append (λ (e : SymbolEntry). e.name) sig.symbols constructors ∙ ap (λ xs. symbol_names sig ++ xs) (constructor_names (length sig.types) 0 cs) in
        let tnames : type_names whole ≡ type_names sig ++ name_in text n ∷ [] = map-append (λ (e : TypeEntry). e.name) sig.types (choices ∷ []) in
        let fields : field_names whole.types ≡ field_names sig.types =
        flat_map-append (λ (e : TypeEntry). map (λ (f : FieldEntry). f.name) (fields_of e)) sig.types (choices ∷ []) ∙ append-nil (field_names sig.types) in
        let own_there : slice_get whole.types (length sig.types) ≡ Some choices = get_seam sig.types [] choices in
        let new_choice : (j : ℕ) (e : SymbolEntry) (of place : ℕ) → slice_get constructors j ≡ Some e → e.nature ≡ Choice of place → length sig.types ≤ of =
        λ j e of place g q. (let z : Choice (length sig.types) (0 + j) ≡ Choice of place = sym (built 0 cs j e g).4 ∙ q in let k : (length sig.types) ≡ of = cc z in omega (arith, k)) in
        let lawful : (j : ℕ) (e : SymbolEntry) → slice_get constructors j ≡ Some e → IsLawfulSymbol whole e =
        λ j e g. constructor_lawful own_there j e (built 0 cs j e g) in
        record {
          named_types = subst (AllByRecursion IsNm) (sym tnames) (all_push IsNm (type_names sig) (name_in text n) s.named_types i.name);
          named_symbols = subst (AllByRecursion IsNm) (sym names) (all_append IsNm (symbol_names sig) (map (name_in text) cs) s.named_symbols (names_of cs a));
          named_fields = subst (AllByRecursion IsNm) (sym fields) s.named_fields;
          apart_types = subst Apart (sym tnames) (apart_push (type_names sig) (name_in text n) s.apart_types u);
          apart_symbols = subst Apart (sym names) (symbols_apart sig cs s h);
          apart_fields = subst Apart (sym fields) s.apart_fields;
          types = types_stay sig whole (choices ∷ []) constructors refl refl new_choice s
              (λ j e g. let p = type_at_end sig choices j e g in
              subst (λ (k : ℕ). IsLawfulType whole k e) (let z = p.0 in omega (arith, z))
              (subst (λ (x : TypeEntry). IsLawfulType whole (length sig.types) x) p.1 (record { no_parameters = refl; some = some_choices l; each = each_choice s })));
          symbols = symbols_stay sig whole (choices ∷ []) constructors refl refl new_choice s lawful;
        }

    enumeration_declares : (p : Passed) → Sane sig → IsIdentifier text n → AllByRecursion (IsIdentifier text) cs → 0 < length cs → Declares p (enumeration_decl text sig n cs)
    enumeration_declares p s i a l =
        ends_after m Lawful (new_type text sig n) _ p
        (λ b. ends_after_all m Lawful (new_symbols text sig [] cs) _ p (λ h. declares_end whole p (enumeration_sane s i a l (new_name sig n b) h)))

  -- ---- symbols with sorts
  entries_named : (f : List ℕ → SymbolEntry) (named : (x : List ℕ) → (f x).name ≡ x) (ns : List Span) → map (λ (e : SymbolEntry). e.name) (map (λ x. f (name_in text x)) ns) ≡ map (name_in text) ns
  entries_named f named [] = refl
  entries_named f named (n ∷ ns) = λ i. named (name_in text n) i ∷ entries_named f named ns i

  entry_there : (f : List ℕ → SymbolEntry) (ns : List Span) (j : ℕ) (e : SymbolEntry) → slice_get (map (λ x. f (name_in text x)) ns) j ≡ Some e → (x : List ℕ) × (f x ≡ e)
  entry_there f [] j e g = absurd (none-some e g)
  entry_there f (n ∷ ns) zero e g = (name_in text n, same_Some (f (name_in text n)) e g)
  entry_there f (n ∷ ns) (suc j) e g = entry_there f ns j e g

  module _ (sig : Signature) (vars : ℕ) (args : List Sort) (result : Option Sort) (nature : Nature) where
    abbrev entry_of : List ℕ → SymbolEntry
    entry_of x = symbol_entry x vars args result nature

    abbrev FreeOver : Sort → Type 0
    FreeOver s = sort_ok sig (λ i. false) (λ i. nat_lt i vars) s ≡ true

    abbrev ResultOver : Option Sort → Type 0
    ResultOver None = Unit {0}
    ResultOver (Some s) = FreeOver s

    general_args : (ss : List Sort) → AllByRecursion FreeOver ss → list_all (is_sort_over sig vars) (map generalize ss) ≡ true
    general_args [] a = refl
    general_args (s ∷ ss) a = and_from (is_sort_over sig vars (generalize s)) (list_all (is_sort_over sig vars) (map generalize ss)) (general_ok sig vars s a.0) (general_args ss a.1)

    general_result : (o : Option Sort) → ResultOver o → is_result sig vars (generalized o) ≡ true
    general_result None a = refl
    general_result (Some s) a = general_ok sig vars s a

    result_over : (sig' : Signature) → ((s : Sort) → is_sort_over sig vars s ≡ true → is_sort_over sig' vars s ≡ true) → (o : Option Sort) → is_result sig vars o ≡ true → is_result sig' vars o ≡ true
    result_over sig' h None e = refl
    result_over sig' h (Some s) e = h s e

    -- the new symbols, for each of these names
    symbols_sane : (ns : List Span) → Sane sig → AllByRecursion IsNm (map (name_in text) ns) → Apart (symbol_names sig ++ map (name_in text) ns) → AllByRecursion FreeOver args → ResultOver result
        → ((of place : ℕ) → nature ≡ Choice of place → ⊥) → ((sig' : Signature) (x : List ℕ) → IsLawfulNature sig' (entry_of x)) → Sane (with_symbols sig (map (λ x. entry_of (name_in text x)) ns))
    symbols_sane ns s n a h r never law =
        let ss = map (λ x. entry_of (name_in text x)) ns in
        let names = entries_named entry_of (λ x. refl) ns in
        let sig' : Signature = with_symbols sig ss in
        let none : sig.types ≡ sig.types ++ [] = sym (append-nil sig.types) in
        sane_symbols sig ss s (subst (AllByRecursion IsNm) (sym names) n) (subst (λ xs. Apart (symbol_names sig ++ xs)) (sym names) a)
        (λ j e of place g q. let x = entry_there entry_of ns j e g in absurd (never of place (ap (λ (z : SymbolEntry). z.nature) x.1 ∙ q)))
        (λ j e g. let x = entry_there entry_of ns j e g in
        subst (IsLawfulSymbol sig') x.1 (
          list_all_weaker (is_sort_over sig vars) (is_sort_over sig' vars) (over_stays sig sig' [] ss none refl vars) (map generalize args) (general_args args h),
          result_over sig' (over_stays sig sig' [] ss none refl vars) (generalized result) (general_result result r),
          law sig' x.0,
        ))

  -- ---- `logic`
  arguments_given : (sig : Signature) {ws : List WrittenType} → AreWritten text ws → (p : Passed) → Gives m p (Each m (IsFree m sig)) (each (λ w. type_rule w ground.Free (scope_of text sig)) ws)
  arguments_given sig no_types p = gives_value m (Each m (IsFree m sig)) [] p tt
  arguments_given sig (and_type w ws h a) p =
      gives_then m (IsFree m sig) (Each m (IsFree m sig)) (type_rule w ground.Free (scope_of text sig)) _ p (sort_given m sig text [] ground.Free tt h p)
      (λ s q g r. gives_then m (Each m (IsFree m sig)) (Each m (IsFree m sig)) (each (λ w. type_rule w ground.Free (scope_of text sig)) ws) _ q (arguments_given sig a q)
      (λ ss u i v. gives_value m (Each m (IsFree m sig)) (s ∷ ss) u (free_kept m sig s q u i r, v)))

  abbrev IsFreeResult : Signature → Option Sort → Passed → Type 0
  IsFreeResult sig None p = Unit {0}
  IsFreeResult sig (Some s) p = IsFree m sig s p

  result_given : (sig : Signature) (o : Option WrittenType) (p : Passed) → IsResult text o → Gives m p (IsFreeResult sig) (result_rule text sig o)
  result_given sig None p h = gives_value m (IsFreeResult sig) None p tt
  result_given sig (Some w) p h =
      gives_then m (IsFree m sig) (IsFreeResult sig) (type_rule w ground.Free (scope_of text sig)) _ p (sort_given m sig text [] ground.Free tt h p)
      (λ s q g r. gives_value m (IsFreeResult sig) (Some s) q r)

  result_over_count : (sig : Signature) (o : Option Sort) (p : Passed) (ss : List Sort) (k : Nature) → IsFreeResult sig o p → ResultOver sig (length p.written) ss o k o
  result_over_count sig None p ss k h = tt
  result_over_count sig (Some s) p ss k h = h

  both_tests : (a b : Bool) → elim a [ true ↦ b | false ↦ false ] ≡ true → (a ≡ true) × (b ≡ true)
  both_tests true b e = (refl, e)
  both_tests false b e = false_true e

  -- a symbol with two equal arguments and that same result
  equal_sorts : (s t r : Sort) → elim (same_sort s t) [ true ↦ same_sort s r | false ↦ false ] ≡ true → (same_sort s t ≡ true) × (same_sort s r ≡ true)
  equal_sorts s t r e = both_tests (same_sort s t) (same_sort s r) e

  ac_lawful : (sig : Signature) (x : List ℕ) (vars : ℕ) (ss : List Sort) (o : Option Sort) → is_ac ss o ≡ true → IsLawfulNature sig (symbol_entry x vars ss o Ac)
  ac_lawful sig x vars (s ∷ t ∷ []) (Some r) e =
      let p = equal_sorts s t r e in
      let st : s ≡ t = decided_yes (Sort_discrete s t) p.0 in
      let sr : s ≡ r = decided_yes (Sort_discrete s r) p.1 in
      (generalize s, ap (λ z. generalize s ∷ generalize z ∷ []) (sym st), ap (λ z. Some (generalize z)) (sym sr))
  ac_lawful sig x vars (s ∷ t ∷ []) None e = false_true e
  ac_lawful sig x vars (s ∷ t ∷ u ∷ ss) o e = false_true e
  ac_lawful sig x vars (s ∷ []) o e = false_true e
  ac_lawful sig x vars [] o e = false_true e

  nature_lawful : (ac : Bool) (ss : List Sort) (o : Option Sort) (vars : ℕ) → may_be_ac ac ss o ≡ true → (sig : Signature) (x : List ℕ) → IsLawfulNature sig (symbol_entry x vars ss o (nature_of ac))
  nature_lawful true ss o vars e sig x = ac_lawful sig x vars ss o e
  nature_lawful false ss o vars e sig x = tt

  never_choice : (ac : Bool) (of place : ℕ) → nature_of ac ≡ Choice of place → ⊥
  never_choice true of place e = cc e
  never_choice false of place e = cc e

  logic_declares : (sig : Signature) (place : Span) (ac : Bool) (ns : List Span) (ws : List WrittenType) (r : SymbolResult) (p : Passed) → Sane sig → AllByRecursion (IsIdentifier text) ns
      → AreWritten text ws → IsResult text r.sort → Declares p (logic_decl text sig place ac ns ws r)
  logic_declares sig place ac ns ws r p s a b c =
      ends_after_all m Lawful (new_symbols text sig [] ns) _ p
      (λ h. ends_then m (Each m (IsFree m sig)) Lawful (each (λ w. type_rule w ground.Free (scope_of text sig)) ws) _ p (arguments_given sig b p)
      (λ ss q g k. ends_then m (IsFreeResult sig) Lawful (result_rule text sig r.sort) _ q (result_given sig r.sort q c)
      (λ o u i l. ends_after m Lawful (test (may_be_ac ac ss o) (fault.BadAc place.from place.to)) _ u
      (λ t. counts (λ n. declared (with_symbols sig (map (λ x. symbol_entry (name_in text x) n ss o (nature_of ac)) ns))) u
      (declares_end (with_symbols sig (map (λ x. symbol_entry (name_in text x) (length u.written) ss o (nature_of ac)) ns)) u
      (symbols_sane sig (length u.written) ss o (nature_of ac) ns s (names_of ns a) (symbols_apart sig ns s h) (keeps_each m (IsFree m sig) (free_kept m sig) ss q u i k)
      (result_over_count sig o u ss (nature_of ac) l) (never_choice ac) (nature_lawful ac ss o (length u.written) t)))))))

  -- ---- definitions
  abbrev BoundsFree : Signature → List Bound → Passed → Type 0
  BoundsFree sig bs p = AllByRecursion (λ (s : Sort). IsFree m sig s p) (sorts_of bs)

  formals_given : (sig : Signature) (seen : List (List ℕ)) (xs : List TypedName) (p : Passed) → AllByRecursion (IsTypedName text) xs → Gives m p (BoundsFree sig) (formals_rule text sig seen xs)
  formals_given sig seen [] p h = gives_value m (BoundsFree sig) [] p tt
  formals_given sig seen (x ∷ xs) p h =
      gives_after m (BoundsFree sig) (test (not (is_among (name_in text x.name) seen)) (twice text x.name)) _ p
      (λ b. gives_then m (IsFree m sig) (BoundsFree sig) (type_rule x.sort ground.Free (scope_of text sig)) _ p (sort_given m sig text [] ground.Free tt h.0.sort p)
      (λ s q g r. gives_then m (λ k u. Unit {0}) (BoundsFree sig) fresh _ q (record { by = λ c. record { grows = record { next = omega arith; written = omega arith }; value = tt } })
      (λ k u i v. gives_then m (BoundsFree sig) (BoundsFree sig) (formals_rule text sig (name_in text x.name ∷ seen) xs) _ u (formals_given sig (name_in text x.name ∷ seen) xs u h.1)
      (λ bs w j z. gives_value m (BoundsFree sig) (record { name = name_in text x.name; number = k; sort = s } ∷ bs) w
      (free_kept m sig s q w (grows_then m q u w i j) r, z)))))

  one_symbol : (sig : Signature) (n : Span) (vars : ℕ) (ss : List Sort) (o : Option Sort) → Sane sig → IsIdentifier text n → IsMetOne m (new_symbol text sig n)
      → AllByRecursion (FreeOver sig vars ss o Free) ss → ResultOver sig vars ss o Free o → Sane (with_symbols sig (symbol_entry (name_in text n) vars ss o Free ∷ []))
  one_symbol sig n vars ss o s i h a r =
      symbols_sane sig vars ss o Free (n ∷ []) s (i.name, tt)
      (apart_push (symbol_names sig) (name_in text n) s.apart_symbols (new_symbol_name sig n (is_nothing (symbol_number sig (name_in text n)) h)))
      a r (λ of place e. cc e) (λ sig' x. tt)

  -- what follows the sorts of a definition
  abbrev after_function : Signature → Span → Span → Expr → List Bound → Sort → Rule Declared
  after_function sig place n e bs s =
      count_written >> λ vars.
      let after = with_symbols sig (symbol_entry (name_in text n) vars (sorts_of bs) (Some s) Free ∷ []) in
      wanted (with_block bs (scope_of text after)) s (part_of e) >> λ t.
      let head = apply (head.Symbol (length sig.symbols)) (rigids 0 vars) (formal_args bs) in
      drafted after place false (name_in text n) (defining bs n head (relation equal head t))

  abbrev after_predicate : Signature → Span → Span → Expr → List Bound → Rule Declared
  after_predicate sig place n e bs =
      count_written >> λ vars.
      let after = with_symbols sig (symbol_entry (name_in text n) vars (sorts_of bs) None Free ∷ []) in
      as_formula (with_block bs (scope_of text after)) (part_of e) >> λ f.
      let k = length sig.symbols in
      drafted after place false (name_in text n)
      (defining bs n (apply (head.Symbol k) (rigids 0 vars) (formal_args bs)) (equivalence (predicate k (rigids 0 vars) (formal_args bs)) f))

  function_declares : (sig : Signature) (place n : Span) (fs : List TypedName) (w : WrittenType) (e : Expr) (p : Passed) → Sane sig → IsIdentifier text n
      → AllByRecursion (IsTypedName text) fs → IsWritten text w → Declares p (function_decl text sig place n fs w e)
  function_declares sig place n fs w e p s i a b =
      ends_after m Lawful (new_symbol text sig n) _ p
      (λ h. ends_then m (BoundsFree sig) Lawful (formals_rule text sig [] fs) (λ bs. type_rule w ground.Free (scope_of text sig) >> λ s. after_function sig place n e bs s) p (formals_given sig [] fs p a)
      (λ bs q g k. ends_then m (IsFree m sig) Lawful (type_rule w ground.Free (scope_of text sig)) (λ s. after_function sig place n e bs s) q (sort_given m sig text [] ground.Free tt b q)
      (λ r u j l. record { by = λ c. one_symbol sig n (length u.written) (sorts_of bs) (Some r) s i h (keeps_each m (IsFree m sig) (free_kept m sig) (sorts_of bs) q u j k) l })))

  predicate_declares : (sig : Signature) (place n : Span) (fs : List TypedName) (e : Expr) (p : Passed) → Sane sig → IsIdentifier text n
      → AllByRecursion (IsTypedName text) fs → Declares p (predicate_decl text sig place n fs e)
  predicate_declares sig place n fs e p s i a =
      ends_after m Lawful (new_symbol text sig n) _ p
      (λ h. ends_then m (BoundsFree sig) Lawful (formals_rule text sig [] fs) (λ bs. after_predicate sig place n e bs) p (formals_given sig [] fs p a)
      (λ bs q g k. record { by = λ c. one_symbol sig n (length q.written) (sorts_of bs) None s i h k tt }))

  -- ---- all declarations
  kind_declares : (sig : Signature) (place : Span) (k : DeclKind) (p : Passed) → Sane sig → IsKind text k → Declares p (kind_rule text sig place k)
  kind_declares sig place (kind.Type ps n fs) p s a = type_declares sig ps n fs p s a.1 a.2
  kind_declares sig place (kind.Enumeration n cs) p s a = enumeration_declares sig n cs p s a.0 a.1 a.2
  kind_declares sig place (kind.Logic ac ns ws r) p s a = logic_declares sig place ac ns ws r p s a.0 a.1 a.2
  kind_declares sig place (kind.Function n fs w e) p s a = function_declares sig place n fs w e p s a.0 a.1 a.2
  kind_declares sig place (kind.Predicate n fs e) p s a = predicate_declares sig place n fs e p s a.0 a.1
  kind_declares sig place (kind.Axiom n e) p s a = record { by = λ c. s }
  kind_declares sig place (kind.Goal n e) p s a = record { by = λ c. s }

  decls_declare : (sig : Signature) (ds : List Decl) (p : Passed) → Sane sig → AllByRecursion (IsDeclaration text) ds → Declares p (decls_rule text sig ds)
  decls_declare sig [] p s h = record { by = λ c. s }
  decls_declare sig (d ∷ ds) p s h = record {
    by = λ c.
        let r = decl_rule text sig d p in
        let rest = decls_rule text r.value.signature ds in
        let one = (kind_declares sig d.span d.kind (record { next = p.next; written = [] }) s h.0.kind).by (all_front (IsMetOne m) r.conditions ((rest r.passed).conditions ++ []) c) in
        (decls_declare r.value.signature ds r.passed one h.1).by
        (all_front (IsMetOne m) (rest r.passed).conditions [] (all_back (IsMetOne m) r.conditions ((rest r.passed).conditions ++ []) c));
  }

  no_signature : Sane no_declarations
  no_signature = record {
    named_types = tt;
    named_symbols = tt;
    named_fields = tt;
    apart_types = tt;
    apart_symbols = tt;
    apart_fields = tt;
    types = λ n e g. absurd (none-some e g);
    symbols = λ n e g. absurd (none-some e g);
  }

  pub file_sane : (file : File) → AllByRecursion (IsDeclaration text) file.decls → AllByRecursion (IsMetOne m) (conditions_of text file) → Sane (declared_by text file).signature
  file_sane file h c = (decls_declare no_declarations file.decls (record { next = 0; written = [] }) no_signature h).by c

pub lawful_signature : (text : List ℕ) (tokens : List Token) (file : File) (p : Problem) → IsTokenized text tokens → IsParsed tokens file → IsTyped text file p → IsLawful p.signature
lawful_signature text tokens file p t i h =
    subst IsLawful (sym h.signature)
    (sane_lawful (declared_by text file).signature
    (file_sane h.typing text file (file_made text tokens file t i) (met_each h.typing (conditions_of text file) h.principal.typing)))
