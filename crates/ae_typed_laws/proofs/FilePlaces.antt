-- Where a file is refused: each condition of its declarations is refused at a place in the text, and by a fault of typing.
use Rattle.std.proofs.Common.{◌≡◌, ◌≤◌, ℕ, Bool, true, false, not, List, [], ◌∷◌, ◌++◌, map, length, sym, subst, Option, Some, None}
use Rattle.std.specs.Prelude.{IfSome}
use Rattle.std.specs.List.{AllByRecursion}
use Rattle.std.proofs.lemmas.Option.{none-some, same_Some}
use Rattle.ae_base.proofs.AllOf.{all_append, all_at, all_weaker}
use Rattle.ae_core.specs.declared.problems.Nature.TheVariants as nature
use Rattle.ae_core.specs.declared.terms.Sort.{Sort}
use Rattle.ae_core.specs.declared.problems.Signature.{Signature}
use Rattle.ae_core.specs.declared.problems.TypeEntry.{TypeEntry}
use Rattle.ae_core.specs.declared.problems.FieldEntry.{FieldEntry}
use Rattle.ae_core.specs.declared.problems.Kind.TheVariants.{Abstract, Choices, Fields}
use Rattle.ae_core.specs.declared.terms.Head.TheVariants as head
use Rattle.ae_lex.specs.declared.kinds.Token.{Token}
use Rattle.ae_lex.specs.Lexis.{IsTokenized}
use Rattle.ae_syntax.specs.declared.spans.Span.{Span}
use Rattle.ae_syntax.specs.declared.types.WrittenType.{WrittenType}
use Rattle.ae_syntax.specs.declared.exprs.Expr.{Expr}
use Rattle.ae_syntax.specs.declared.decls.TypedName.{TypedName}
use Rattle.ae_syntax.specs.declared.decls.SymbolResult.{SymbolResult}
use Rattle.ae_syntax.specs.declared.decls.Decl.{Decl}
use Rattle.ae_syntax.specs.declared.decls.DeclKind.{DeclKind}
use Rattle.ae_syntax.specs.declared.decls.DeclKind.TheVariants as kind
use Rattle.ae_syntax.specs.declared.decls.File.{File}
use Rattle.ae_syntax.specs.Files.{IsParsed}
use Rattle.ae_elab.specs.declared.faults.TypeFault.{TypeFault}
use Rattle.ae_elab.specs.declared.faults.TypeFault.TheVariants as fault
use Rattle.ae_elab.specs.declared.grounds.Ground.{Ground}
use Rattle.ae_elab.specs.declared.grounds.Ground.TheVariants as ground
use Rattle.ae_elab.specs.Conditions.{Condition, IsRefused, test, shown}
use Rattle.ae_elab.specs.Trees.{Claim, apply, relation, equal, equivalence, predicate}
use Rattle.ae_elab.specs.Scope.{name_in, is_among}
use Rattle.ae_elab.specs.Rules.{Rule, give, each, fresh, count_written, as_formula, wanted}
use Rattle.ae_elab.specs.WrittenTypes.{type_rule}
use Rattle.ae_elab.specs.Formulas.{with_block}
use Rattle.ae_elab.specs.Expressions.{part_of}
use Rattle.ae_elab.specs.Declarations.{Draft, Declared, only_declared, declared, drafted, twice, new_type, new_symbol, has_field, all_different}
use Rattle.ae_elab.specs.Declarations.{with_types, with_symbols, type_entry, symbol_entry, scope_of, fields_rule, type_decl, new_symbols, count_from}
use Rattle.ae_elab.specs.Declarations.{constructors_from, enumeration_decl, result_rule, may_be_ac, nature_of, logic_decl, formals_rule, rigids}
use Rattle.ae_elab.specs.Declarations.{sorts_of, formal_args, defining, function_decl, predicate_decl, statement_decl, kind_rule, decl_rule}
use Rattle.ae_elab.specs.Declarations.{decls_rule, no_declarations, conditions_of, declared_by}
use Rattle.ae_elab.specs.Problems.{IsTypeFault, first_large, is_small}
use Rattle.ae_fault_lines.specs.Lines.{fault_place}
use Rattle.ae_typed_laws.specs.Refusals.{IsOfTyping}
use Rattle.ae_typed_laws.proofs.ParsedTrees.{IsPlace, IsIdentifier, IsWritten, AreWritten, no_types, and_type, IsTree, IsTypedName, IsResult, IsKind}
use Rattle.ae_typed_laws.proofs.ParsedTrees.{IsDeclaration}
use Rattle.ae_typed_laws.proofs.FileTrees.{file_made}
use Rattle.ae_typed_laws.proofs.PlaceLaws.{IsWithin, Fine, Sound, Any, gives, follows, demands, demands_all, any_fresh, at_type, in_wanted}
use Rattle.ae_typed_laws.proofs.PlaceLaws.{in_formula, in_block_scope, Placed, at_tree}

module _ (text : List ℕ) where
  -- what is given counts for nothing here
  abbrev Is : {A : Type 0} → Rule A → Type 0
  Is r = Sound text (Any text) r

  given : {A : Type 0} (x : A) → Is (give x)
  given x = gives text (Any text) x tt

  -- ---- drafts stand at places of the text
  abbrev DraftPlaced : Draft → Type 0
  DraftPlaced d = IsPlace text d.place

  abbrev DraftsPlaced : Declared → Type 0
  DraftsPlaced d = AllByRecursion DraftPlaced d.drafts

  abbrev Declares : Rule Declared → Type 0
  Declares r = Sound text DraftsPlaced r

  nothing : (sig : Signature) → Declares (declared sig)
  nothing sig = gives text DraftsPlaced (only_declared sig) tt

  placed_draft : (sig : Signature) (place : Span) (is_goal : Bool) (name : List ℕ) (f : Claim) → IsPlace text place → Declares (drafted sig place is_goal name f)
  placed_draft sig place is_goal name f h =
      gives text DraftsPlaced (record { signature = sig; drafts = record { place = place; is_goal = is_goal; name = name; claim = f } ∷ [] }) (h, tt)

  -- ---- names
  fine_different : (seen : List (List ℕ)) (ss : List Span) → AllByRecursion (IsPlace text) ss → AllByRecursion (Fine text) (all_different text seen ss)
  fine_different seen [] h = tt
  fine_different seen (s ∷ ss) h = ((λ f. h.0), fine_different (name_in text s ∷ seen) ss h.1)

  fine_symbols : (sig : Signature) (seen : List (List ℕ)) (ss : List Span) → AllByRecursion (IsIdentifier text) ss → AllByRecursion (Fine text) (new_symbols text sig seen ss)
  fine_symbols sig seen [] h = tt
  fine_symbols sig seen (s ∷ ss) h = ((λ f. h.0.place), fine_symbols sig (name_in text s ∷ seen) ss h.1)

  -- ---- types
  in_fields : (sig : Signature) (g : Ground) (entry : List FieldEntry → TypeEntry) (got : List FieldEntry) (xs : List TypedName) → AllByRecursion (IsTypedName text) xs
      → Is (fields_rule text sig g entry got xs)
  in_fields sig g entry got [] h = given got
  in_fields sig g entry got (x ∷ xs) h =
      demands text (Any text) (test (not (has_field (with_types sig (entry got ∷ [])).types (name_in text x.name))) (twice text x.name)) _ (λ f. h.0.name.place)
      (follows text (Any text) (Any text) (type_rule x.sort g (scope_of text (with_types sig (entry got ∷ [])))) _ (at_type text h.0.sort g (scope_of text (with_types sig (entry got ∷ []))))
      (λ s q. in_fields sig g entry (got ++ record { name = name_in text x.name; sort = s } ∷ []) xs h.1))

  in_type_decl : (sig : Signature) (ps : List Span) (n : Span) (fs : List TypedName) → AllByRecursion (IsPlace text) ps → IsIdentifier text n → AllByRecursion (IsTypedName text) fs
      → Declares (type_decl text sig ps n fs)
  in_type_decl sig ps n [] h k a =
      demands_all text DraftsPlaced (all_different text [] ps) _ (fine_different [] ps h) (demands text DraftsPlaced (new_type text sig n) _ (λ f. k.place) (nothing (with_types sig (type_entry (name_in text n) (length ps) Abstract ∷ []))))
  in_type_decl sig ps n (x ∷ xs) h k a =
      demands_all text DraftsPlaced (all_different text [] ps) _ (fine_different [] ps h)
      (demands text DraftsPlaced (new_type text sig n) _ (λ f. k.place)
      (follows text (Any text) DraftsPlaced (fields_rule text sig (ground.InField (map (name_in text) ps) (length sig.types)) (λ fs. type_entry (name_in text n) (length ps) (Fields fs)) [] (x ∷ xs)) _
      (in_fields sig (ground.InField (map (name_in text) ps) (length sig.types)) (λ fs. type_entry (name_in text n) (length ps) (Fields fs)) [] (x ∷ xs) a)
      (λ fs q. nothing (with_types sig (type_entry (name_in text n) (length ps) (Fields fs) ∷ [])))))

  in_enumeration : (sig : Signature) (n : Span) (cs : List Span) → IsIdentifier text n → AllByRecursion (IsIdentifier text) cs → Declares (enumeration_decl text sig n cs)
  in_enumeration sig n cs k a =
      demands text DraftsPlaced (new_type text sig n) _ (λ f. k.place) (demands_all text DraftsPlaced (new_symbols text sig [] cs) _ (fine_symbols sig [] cs a)
      (nothing (with_symbols (with_types sig (type_entry (name_in text n) 0 (Choices (count_from (length sig.symbols) cs)) ∷ [])) (constructors_from text (length sig.types) 0 cs))))

  -- ---- symbols
  in_result : (sig : Signature) (o : Option WrittenType) → IsResult text o → Is (result_rule text sig o)
  in_result sig None h = given None
  in_result sig (Some w) h = follows text (Any text) (Any text) (type_rule w ground.Free (scope_of text sig)) _ (at_type text h ground.Free (scope_of text sig)) (λ s q. given (Some s))

  in_arguments : (sig : Signature) {ws : List WrittenType} → AreWritten text ws → Is (each (λ w. type_rule w ground.Free (scope_of text sig)) ws)
  in_arguments sig no_types = given []
  in_arguments sig (and_type w ws h a) =
      follows text (Any text) (Any text) (type_rule w ground.Free (scope_of text sig)) _ (at_type text h ground.Free (scope_of text sig))
      (λ s q. follows text (Any text) (Any text) (each (λ w. type_rule w ground.Free (scope_of text sig)) ws) _ (in_arguments sig a) (λ ss r. given (s ∷ ss)))

  counted : Is count_written
  counted = record { at = λ p. (tt, tt) }

  in_logic : (sig : Signature) (place : Span) (ac : Bool) (ns : List Span) (ws : List WrittenType) (r : SymbolResult) → IsPlace text place → AllByRecursion (IsIdentifier text) ns
      → AreWritten text ws → IsResult text r.sort → Declares (logic_decl text sig place ac ns ws r)
  in_logic sig place ac ns ws r h a b c =
      demands_all text DraftsPlaced (new_symbols text sig [] ns) _ (fine_symbols sig [] ns a)
      (follows text (Any text) DraftsPlaced (each (λ w. type_rule w ground.Free (scope_of text sig)) ws) _ (in_arguments sig b)
      (λ ss q. follows text (Any text) DraftsPlaced (result_rule text sig r.sort) _ (in_result sig r.sort c)
      (λ o u. demands text DraftsPlaced (test (may_be_ac ac ss o) (fault.BadAc place.from place.to)) _ (λ f. h)
      (follows text (Any text) DraftsPlaced count_written _ counted
      (λ n v. nothing (with_symbols sig (map (λ x. symbol_entry (name_in text x) n ss o (nature_of ac)) ns)))))))

  -- ---- definitions and statements
  in_formals : (sig : Signature) (seen : List (List ℕ)) (xs : List TypedName) → AllByRecursion (IsTypedName text) xs → Is (formals_rule text sig seen xs)
  in_formals sig seen [] h = given []
  in_formals sig seen (x ∷ xs) h =
      demands text (Any text) (test (not (is_among (name_in text x.name) seen)) (twice text x.name)) _ (λ f. h.0.name.place)
      (follows text (Any text) (Any text) (type_rule x.sort ground.Free (scope_of text sig)) _ (at_type text h.0.sort ground.Free (scope_of text sig))
      (λ s q. follows text (Any text) (Any text) fresh _ (any_fresh text)
      (λ n r. follows text (Any text) (Any text) (formals_rule text sig (name_in text x.name ∷ seen) xs) _ (in_formals sig (name_in text x.name ∷ seen) xs h.1)
      (λ bs u. given (record { name = name_in text x.name; number = n; sort = s } ∷ bs)))))

  in_function : (sig : Signature) (place n : Span) (fs : List TypedName) (w : WrittenType) (e : Expr) → IsPlace text place → IsIdentifier text n → AllByRecursion (IsTypedName text) fs
      → IsWritten text w → IsTree text e → Declares (function_decl text sig place n fs w e)
  in_function sig place n fs w e h k a b i =
      demands text DraftsPlaced (new_symbol text sig n) _ (λ f. k.place)
      (follows text (Any text) DraftsPlaced (formals_rule text sig [] fs) _ (in_formals sig [] fs a)
      (λ bs q. follows text (Any text) DraftsPlaced (type_rule w ground.Free (scope_of text sig)) _ (at_type text b ground.Free (scope_of text sig))
      (λ s r. follows text (Any text) DraftsPlaced count_written _ counted
      (λ vars u. let sc = scope_of text (with_symbols sig (symbol_entry (name_in text n) vars (sorts_of bs) (Some s) nature.Free ∷ [])) in
      follows text (Any text) DraftsPlaced (wanted (with_block bs sc) s (part_of e)) _ (in_wanted text (with_block bs sc) s (part_of e) (in_block_scope text bs sc tt) (at_tree text i))
      (λ t v. let head = apply (head.Symbol (length sig.symbols)) (rigids 0 vars) (formal_args bs) in
      placed_draft (with_symbols sig (symbol_entry (name_in text n) vars (sorts_of bs) (Some s) nature.Free ∷ [])) place false (name_in text n) (defining bs n head (relation equal head t)) h)))))

  in_predicate : (sig : Signature) (place n : Span) (fs : List TypedName) (e : Expr) → IsPlace text place → IsIdentifier text n → AllByRecursion (IsTypedName text) fs → IsTree text e
      → Declares (predicate_decl text sig place n fs e)
  in_predicate sig place n fs e h k a i =
      demands text DraftsPlaced (new_symbol text sig n) _ (λ f. k.place)
      (follows text (Any text) DraftsPlaced (formals_rule text sig [] fs) _ (in_formals sig [] fs a)
      (λ bs q. follows text (Any text) DraftsPlaced count_written _ counted
      (λ vars u. let sc = scope_of text (with_symbols sig (symbol_entry (name_in text n) vars (sorts_of bs) None nature.Free ∷ [])) in
      follows text (Placed text) DraftsPlaced (as_formula (with_block bs sc) (part_of e)) _ (in_formula text (with_block bs sc) (part_of e) (in_block_scope text bs sc tt) (at_tree text i))
      (λ f v. let k = length sig.symbols in
      placed_draft (with_symbols sig (symbol_entry (name_in text n) vars (sorts_of bs) None nature.Free ∷ [])) place false (name_in text n)
      (defining bs n (apply (head.Symbol k) (rigids 0 vars) (formal_args bs)) (equivalence (predicate k (rigids 0 vars) (formal_args bs)) f)) h))))

  in_statement : (sig : Signature) (place : Span) (is_goal : Bool) (n : Span) (e : Expr) → IsPlace text place → IsTree text e → Declares (statement_decl text sig place is_goal n e)
  in_statement sig place is_goal n e h i =
      follows text (Placed text) DraftsPlaced (as_formula (scope_of text sig) (part_of e)) _ (in_formula text (scope_of text sig) (part_of e) tt (at_tree text i)) (λ f q. placed_draft sig place is_goal (name_in text n) f h)

  in_kind : (sig : Signature) (place : Span) (k : DeclKind) → IsPlace text place → IsKind text k → Declares (kind_rule text sig place k)
  in_kind sig place (kind.Type ps n fs) h a = in_type_decl sig ps n fs a.0 a.1 a.2
  in_kind sig place (kind.Enumeration n cs) h a = in_enumeration sig n cs a.0 a.1
  in_kind sig place (kind.Logic ac ns ws r) h a = in_logic sig place ac ns ws r h a.0 a.1 a.2
  in_kind sig place (kind.Function n fs w e) h a = in_function sig place n fs w e h a.0 a.1 a.2 a.3
  in_kind sig place (kind.Predicate n fs e) h a = in_predicate sig place n fs e h a.0 a.1 a.2
  in_kind sig place (kind.Axiom n e) h a = in_statement sig place false n e h a.1
  in_kind sig place (kind.Goal n e) h a = in_statement sig place true n e h a.1

  in_decl : (sig : Signature) (d : Decl) → IsDeclaration text d → Declares (decl_rule text sig d)
  in_decl sig d h = record { at = λ p. (in_kind sig d.span d.kind h.place h.kind).at (record { next = p.next; written = [] }) }

  in_decls : (sig : Signature) (ds : List Decl) → AllByRecursion (IsDeclaration text) ds → Declares (decls_rule text sig ds)
  in_decls sig [] h = nothing sig
  in_decls sig (d ∷ ds) h =
      follows text DraftsPlaced DraftsPlaced (decl_rule text sig d) _ (in_decl sig d h.0)
      (λ a q. follows text DraftsPlaced DraftsPlaced (decls_rule text a.signature ds) _ (in_decls a.signature ds h.1)
      (λ b r. gives text DraftsPlaced (record { signature = b.signature; drafts = a.drafts ++ b.drafts }) (all_append DraftPlaced a.drafts b.drafts q r)))

  in_file : (file : File) → AllByRecursion (IsDeclaration text) file.decls → AllByRecursion (Fine text) (conditions_of text file) × AllByRecursion DraftPlaced (declared_by text file).drafts
  in_file file h = (in_decls no_declarations file.decls h).at (record { next = 0; written = [] })

  -- ---- faults
  of_typing : (e : TypeFault) → IsWithin text e → IsOfTyping e
  of_typing (fault.UnknownName n i j) h = tt
  of_typing (fault.Arity i j) h = tt
  of_typing (fault.Mismatch s t i j) h = tt
  of_typing (fault.Twice n i j) h = tt
  of_typing (fault.NotProp i j) h = tt
  of_typing (fault.PropInTerm i j) h = tt
  of_typing (fault.BadAc i j) h = tt
  of_typing (fault.MissingField i j) h = tt
  of_typing (fault.SelfRecord i j) h = tt
  of_typing (fault.BadTrigger i j) h = tt
  of_typing (fault.TooLarge i j) h = absurd h
  of_typing (fault.Memory e) h = absurd h

  abbrev Stands : TypeFault → Type 0
  Stands e = IfSome (fault_place e) (λ at. at ≤ length text)

  refused_within : (cs : List Condition) (e : TypeFault) → AllByRecursion (Fine text) cs → IsRefused cs e → IsWithin text e
  refused_within cs e h r = subst (IsWithin text) (sym r.shows) (all_at (Fine text) cs r.place r.condition h r.at_place (shown r.typing))

  found : (b : Bool) (d e : Draft) (o : Option Draft) → DraftPlaced d → (o ≡ Some e → DraftPlaced e) → elim b [ true ↦ o | false ↦ Some d ] ≡ Some e → DraftPlaced e
  found true d e o h k i = k i
  found false d e o h k i = subst DraftPlaced (same_Some d e i) h

  large_placed : (m : ℕ → Sort) (ds : List Draft) (d : Draft) → AllByRecursion DraftPlaced ds → first_large m ds ≡ Some d → DraftPlaced d
  large_placed m [] d h e = absurd (none-some d e)
  large_placed m (c ∷ ds) d h e = found (is_small m c) c d (first_large m ds) h.0 (large_placed m ds d h.1) e

  module _ (file : File) (h : AllByRecursion (IsDeclaration text) file.decls) where
    abbrev refused : (e : TypeFault) → IsRefused (conditions_of text file) e → IsWithin text e
    refused e r = refused_within (conditions_of text file) e (in_file file h).0 r

    pub fault_stands : (e : TypeFault) → IsTypeFault text file e → Stands e
    fault_stands (fault.UnknownName n i j) r = refused (fault.UnknownName n i j) r
    fault_stands (fault.Arity i j) r = refused (fault.Arity i j) r
    fault_stands (fault.Mismatch s t i j) r = refused (fault.Mismatch s t i j) r
    fault_stands (fault.Twice n i j) r = refused (fault.Twice n i j) r
    fault_stands (fault.NotProp i j) r = refused (fault.NotProp i j) r
    fault_stands (fault.PropInTerm i j) r = refused (fault.PropInTerm i j) r
    fault_stands (fault.BadAc i j) r = refused (fault.BadAc i j) r
    fault_stands (fault.MissingField i j) r = refused (fault.MissingField i j) r
    fault_stands (fault.SelfRecord i j) r = refused (fault.SelfRecord i j) r
    fault_stands (fault.BadTrigger i j) r = refused (fault.BadTrigger i j) r
    fault_stands (fault.TooLarge i j) r = subst (λ n. n ≤ length text) (sym r.from_is) (large_placed (shown r.typing) (declared_by text file).drafts r.large (in_file file h).1 r.first)
    fault_stands (fault.Memory e) r = absurd r

pub places_stand : (text : List ℕ) (tokens : List Token) (file : File) (e : TypeFault) → IsTokenized text tokens → IsParsed tokens file → IsTypeFault text file e
    → IfSome (fault_place e) (λ at. at ≤ length text)
places_stand text tokens file e t p h = fault_stands text file (file_made text tokens file t p) e h

pub all_of_typing : (text : List ℕ) (tokens : List Token) (file : File) → IsTokenized text tokens → IsParsed tokens file
    → AllByRecursion (λ (c : Condition). (f : ℕ → Sort) → IsOfTyping (c.refusal f)) (conditions_of text file)
all_of_typing text tokens file t p =
    all_weaker (Fine text) (λ (c : Condition). (f : ℕ → Sort) → IsOfTyping (c.refusal f)) (λ c h f. of_typing text (c.refusal f) (h f)) (conditions_of text file)
    (in_file text file (file_made text tokens file t p)).0
