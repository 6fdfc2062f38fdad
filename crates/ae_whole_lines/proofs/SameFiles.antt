-- A text with a line break behind it has the same problem.
use Rattle.std.proofs.Common.{◌≡◌, ◌∙◌, ◌-◌, arith, ℕ, suc, Bool, true, false, not, ◌||◌, List, [], ◌∷◌, ◌++◌, map, length, drop, take, refl, sym, ap, subst, Option, Some, None}
use Rattle.std.specs.List.{AllByRecursion}
use Rattle.std.specs.Option.{is_some}
use Rattle.std.proofs.lemmas.List.{drop-append-le, take-append-le, length-drop}
use Rattle.ae_base.proofs.AllOf.{all_front, all_back, all_before_map, all_weaker}
use Rattle.ae_core.specs.declared.terms.Sort.{Sort, Named}
use Rattle.ae_core.specs.declared.terms.Head.TheVariants as head
use Rattle.ae_core.specs.declared.problems.Signature.{Signature}
use Rattle.ae_core.specs.declared.problems.TypeEntry.{TypeEntry}
use Rattle.ae_core.specs.declared.problems.FieldEntry.{FieldEntry}
use Rattle.ae_core.specs.declared.problems.Problem.{Problem}
use Rattle.ae_core.specs.declared.problems.Kind.TheVariants.{Abstract, Choices, Fields}
use Rattle.ae_core.specs.declared.problems.Nature.TheVariants.{Free, Choice}
use Rattle.ae_lex.specs.Lexis.{IsTokenized}
use Rattle.ae_lex.specs.declared.kinds.Token.{Token}
use Rattle.ae_syntax.specs.Files.{IsParsed}
use Rattle.ae_syntax.specs.declared.spans.Span.{Span}
use Rattle.ae_syntax.specs.declared.types.WrittenType.{WrittenType}
use Rattle.ae_syntax.specs.declared.exprs.Expr.{Expr}
use Rattle.ae_syntax.specs.declared.decls.TypedName.{TypedName}
use Rattle.ae_syntax.specs.declared.decls.SymbolResult.{SymbolResult}
use Rattle.ae_syntax.specs.declared.decls.Decl.{Decl}
use Rattle.ae_syntax.specs.declared.decls.DeclKind.{DeclKind}
use Rattle.ae_syntax.specs.declared.decls.DeclKind.TheVariants as kind
use Rattle.ae_syntax.specs.declared.decls.File.{File}
use Rattle.ae_elab.specs.declared.faults.TypeFault.TheVariants as fault
use Rattle.ae_elab.specs.declared.grounds.Ground.{Ground}
use Rattle.ae_elab.specs.declared.grounds.Ground.TheVariants as ground
use Rattle.ae_elab.specs.Conditions.{IsPrincipal, shown, test}
use Rattle.ae_elab.specs.Names.{IsName, joined, names_in, names_in_type, names_in_result, names_in_typed, names_in_all, names_in_kind, names_in_file}
use Rattle.ae_elab.specs.Problems.{IsTyped, first_large, item_of}
use Rattle.ae_elab.specs.Trees.{apply, relation, equal, equivalence, predicate}
use Rattle.ae_elab.specs.Scope.{name_in, is_among, type_number, symbol_number}
use Rattle.ae_elab.specs.Rules.{Stated, Rule, give, ◌>>◌, ◌⇒◌, all_of, each, fresh, count_written}
use Rattle.ae_elab.specs.WrittenTypes.{type_rule}
use Rattle.ae_elab.specs.Expressions.{part_of}
use Rattle.ae_elab.specs.Declarations.{Declared, declared, drafted, has_field, all_different, with_types, with_symbols, type_entry, symbol_entry, scope_of, fields_rule, type_decl, new_symbols}
use Rattle.ae_elab.specs.Declarations.{count_from, constructors_from, enumeration_decl, result_rule, may_be_ac, nature_of, logic_decl, formals_rule, rigids, sorts_of, formal_args, defining}
use Rattle.ae_elab.specs.Declarations.{function_decl, predicate_decl, statement_decl, kind_rule, alone, decls_rule, no_declarations, file_states}
use Rattle.ae_elab.proofs.FileNames.{file_named}
use Rattle.ae_typed_laws.proofs.ParsedTrees.{AreWritten, IsTypedName, IsResult, IsKind, IsDeclaration}
use Rattle.ae_typed_laws.proofs.FileTrees.{file_made}
use Rattle.ae_whole_lines.specs.WholeLines.{IsInLines, whole, broken}
use Rattle.ae_whole_lines.proofs.SameRules.{Kept, AreKept, SameType, SamePart, inside, same_type, same_written, same_wanted, same_formula, same_tree}
use Rattle.ae_whole_lines.proofs.SameTokens.{tokens_stay}

module _ (text other : List ℕ) where
  abbrev K : Span → Type 0
  K = Kept text other

  abbrev Ks : List Span → Type 0
  Ks = AreKept text other

  -- ---- names
  same_names : (ps : List Span) → Ks ps → map (name_in text) ps ≡ map (name_in other) ps
  same_names [] k = refl
  same_names (p ∷ ps) k = λ i. k.0 i ∷ same_names ps k.1 i

  same_different : (seen : List (List ℕ)) (ss : List Span) → Ks ss → all_different text seen ss ≡ all_different other seen ss
  same_different seen [] k = refl
  same_different seen (s ∷ ss) k = λ i. test (not (is_among (k.0 i) seen)) (fault.Twice (k.0 i) s.from s.to) ∷ same_different (k.0 i ∷ seen) ss k.1 i

  same_symbols : (sig : Signature) (seen : List (List ℕ)) (cs : List Span) → Ks cs → new_symbols text sig seen cs ≡ new_symbols other sig seen cs
  same_symbols sig seen [] k = refl
  same_symbols sig seen (c ∷ cs) k =
      λ i. test (not (is_some (symbol_number sig (k.0 i)) || is_among (k.0 i) seen)) (fault.Twice (k.0 i) c.from c.to) ∷ same_symbols sig (k.0 i ∷ seen) cs k.1 i

  -- ---- types
  record SameTyped (x : TypedName) : Type 0 where
    name : K x.name
    sort : SameType text other (type_rule x.sort)

  same_typeds : (xs : List TypedName) → AllByRecursion (IsTypedName text) xs → Ks (names_in_all xs) → AllByRecursion SameTyped xs
  same_typeds [] h k = tt
  same_typeds (x ∷ xs) h k =
      let one = all_front K (names_in_typed x) (names_in_all xs) k in
      (record { name = one.0; sort = same_type text other h.0.sort one.1 }, same_typeds xs h.1 (all_back K (names_in_typed x) (names_in_all xs) k))

  same_fields : (sig : Signature) (g : Ground) (entry : List FieldEntry → TypeEntry) (got : List FieldEntry) (xs : List TypedName) → AllByRecursion SameTyped xs
      → fields_rule text sig g entry got xs ≡ fields_rule other sig g entry got xs
  same_fields sig g entry got [] h = refl
  same_fields sig g entry got (x ∷ xs) h =
      λ i. (test (not (has_field (with_types sig (entry got ∷ [])).types (h.0.name i))) (fault.Twice (h.0.name i) x.name.from x.name.to)
      ⇒ h.0.sort g (with_types sig (entry got ∷ [])) [] i >> λ s. same_fields sig g entry (got ++ record { name = h.0.name i; sort = s } ∷ []) xs h.1 i)

  same_type_decl : (sig : Signature) (ps : List Span) (n : Span) (fs : List TypedName) → Ks ps → K n → AllByRecursion SameTyped fs
      → type_decl text sig ps n fs ≡ type_decl other sig ps n fs
  same_type_decl sig ps n [] kp k h =
      λ i. all_of (same_different [] ps kp i)
      (test (not (is_some (type_number sig (k i)))) (fault.Twice (k i) n.from n.to) ⇒ declared (with_types sig (type_entry (k i) (length ps) Abstract ∷ [])))
  same_type_decl sig ps n (x ∷ xs) kp k h =
      λ i. all_of (same_different [] ps kp i)
      (test (not (is_some (type_number sig (k i)))) (fault.Twice (k i) n.from n.to)
      ⇒ same_fields sig (ground.InField (same_names ps kp i) (length sig.types)) (λ (fs : List FieldEntry). type_entry (k i) (length ps) (Fields fs)) [] (x ∷ xs) h i >> λ fs.
      declared (with_types sig (type_entry (k i) (length ps) (Fields fs) ∷ [])))

  same_constructors : (of place : ℕ) (cs : List Span) → Ks cs → constructors_from text of place cs ≡ constructors_from other of place cs
  same_constructors of place [] k = refl
  same_constructors of place (c ∷ cs) k = λ i. symbol_entry (k.0 i) 0 [] (Some (Named of [])) (Choice of place) ∷ same_constructors of (suc place) cs k.1 i

  same_enumeration : (sig : Signature) (n : Span) (cs : List Span) → K n → Ks cs → enumeration_decl text sig n cs ≡ enumeration_decl other sig n cs
  same_enumeration sig n cs k kc =
      λ i. (test (not (is_some (type_number sig (k i)))) (fault.Twice (k i) n.from n.to)
      ⇒ all_of (same_symbols sig [] cs kc i)
      (declared
      (with_symbols (with_types sig (type_entry (k i) 0 (Choices (count_from (length sig.symbols) cs)) ∷ []))
      (same_constructors (length sig.types) 0 cs kc i))))

  -- ---- symbols
  same_result : (sig : Signature) (o : Option WrittenType) → IsResult text o → Ks (names_in_result o) → result_rule text sig o ≡ result_rule other sig o
  same_result sig None h k = refl
  same_result sig (Some w) h k = λ i. (same_type text other h k ground.Free sig [] i >> λ s. give (Some s))

  same_arguments : (sig : Signature) (ws : List WrittenType) → AllByRecursion (λ w. SameType text other (type_rule w)) ws
      → each (λ w. type_rule w ground.Free (scope_of text sig)) ws ≡ each (λ w. type_rule w ground.Free (scope_of other sig)) ws
  same_arguments sig [] h = refl
  same_arguments sig (w ∷ ws) h = λ i. (h.0 ground.Free sig [] i >> λ y. same_arguments sig ws h.1 i >> λ ys. give (y ∷ ys))

  same_entries : (n : ℕ) (ss : List Sort) (r : Option Sort) (ac : Bool) (xs : List Span) → Ks xs
      → map (λ x. symbol_entry (name_in text x) n ss r (nature_of ac)) xs ≡ map (λ x. symbol_entry (name_in other x) n ss r (nature_of ac)) xs
  same_entries n ss r ac [] k = refl
  same_entries n ss r ac (x ∷ xs) k = λ i. symbol_entry (k.0 i) n ss r (nature_of ac) ∷ same_entries n ss r ac xs k.1 i

  same_logic : (sig : Signature) (place : Span) (ac : Bool) (ns : List Span) (ws : List WrittenType) (r : SymbolResult) → AreWritten text ws → IsResult text r.sort
      → Ks ns → Ks (joined (map names_in_type ws)) → Ks (names_in_result r.sort) → logic_decl text sig place ac ns ws r ≡ logic_decl other sig place ac ns ws r
  same_logic sig place ac ns ws r a b kn kw kr =
      let args = all_before_map (SameType text other) type_rule ws (same_written text other a kw) in
      λ i. all_of (same_symbols sig [] ns kn i) (
      same_arguments sig ws args i >> λ ss. same_result sig r.sort b kr i >> λ o.
      test (may_be_ac ac ss o) (fault.BadAc place.from place.to)
      ⇒ count_written >> λ n. declared (with_symbols sig (same_entries n ss o ac ns kn i)))

  -- ---- definitions and statements
  same_formals : (sig : Signature) (seen : List (List ℕ)) (xs : List TypedName) → AllByRecursion SameTyped xs → formals_rule text sig seen xs ≡ formals_rule other sig seen xs
  same_formals sig seen [] h = refl
  same_formals sig seen (x ∷ xs) h =
      λ i. (test (not (is_among (h.0.name i) seen)) (fault.Twice (h.0.name i) x.name.from x.name.to)
      ⇒ h.0.sort ground.Free sig [] i >> λ s. fresh >> λ n. same_formals sig (h.0.name i ∷ seen) xs h.1 i >> λ bs.
      give (record { name = h.0.name i; number = n; sort = s } ∷ bs))

  same_function_decl : (sig : Signature) (place n : Span) (fs : List TypedName) (w : WrittenType) (e : Expr) → K n → AllByRecursion SameTyped fs
      → SameType text other (type_rule w) → SamePart text other (part_of e) → function_decl text sig place n fs w e ≡ function_decl other sig place n fs w e
  same_function_decl sig place n fs w e k h t b =
      λ i. (test (not (is_some (symbol_number sig (k i)))) (fault.Twice (k i) n.from n.to)
      ⇒ same_formals sig [] fs h i >> λ bs. t ground.Free sig [] i >> λ s. count_written >> λ vars.
      same_wanted text other (with_symbols sig (symbol_entry (k i) vars (sorts_of bs) (Some s) Free ∷ [])) (inside text other bs []) s (part_of e) b i >> λ u.
      drafted (with_symbols sig (symbol_entry (k i) vars (sorts_of bs) (Some s) Free ∷ [])) place false (k i)
      (defining bs n (apply (head.Symbol (length sig.symbols)) (rigids 0 vars) (formal_args bs))
      (relation equal (apply (head.Symbol (length sig.symbols)) (rigids 0 vars) (formal_args bs)) u)))

  same_predicate_decl : (sig : Signature) (place n : Span) (fs : List TypedName) (e : Expr) → K n → AllByRecursion SameTyped fs → SamePart text other (part_of e)
      → predicate_decl text sig place n fs e ≡ predicate_decl other sig place n fs e
  same_predicate_decl sig place n fs e k h b =
      λ i. (test (not (is_some (symbol_number sig (k i)))) (fault.Twice (k i) n.from n.to)
      ⇒ same_formals sig [] fs h i >> λ bs. count_written >> λ vars.
      same_formula text other (with_symbols sig (symbol_entry (k i) vars (sorts_of bs) None Free ∷ [])) (inside text other bs []) (part_of e) b i >> λ f.
      drafted (with_symbols sig (symbol_entry (k i) vars (sorts_of bs) None Free ∷ [])) place false (k i)
      (defining bs n (apply (head.Symbol (length sig.symbols)) (rigids 0 vars) (formal_args bs))
      (equivalence (predicate (length sig.symbols) (rigids 0 vars) (formal_args bs)) f)))

  same_statement : (sig : Signature) (place : Span) (is_goal : Bool) (n : Span) (e : Expr) → K n → SamePart text other (part_of e)
      → statement_decl text sig place is_goal n e ≡ statement_decl other sig place is_goal n e
  same_statement sig place is_goal n e k b = λ i. (same_formula text other sig [] (part_of e) b i >> λ f. drafted sig place is_goal (k i) f)

  same_kind : (sig : Signature) (place : Span) (k : DeclKind) → IsKind text k → Ks (names_in_kind k) → kind_rule text sig place k ≡ kind_rule other sig place k
  same_kind sig place (kind.Type ps n fs) a k =
      let m = all_back K ps (n ∷ names_in_all fs) k in
      same_type_decl sig ps n fs (all_front K ps (n ∷ names_in_all fs) k) m.0 (same_typeds fs a.2 m.1)
  same_kind sig place (kind.Enumeration n cs) a k = same_enumeration sig n cs k.0 k.1
  same_kind sig place (kind.Logic ac ns ws r) a k =
      let w = joined (map names_in_type ws) in
      let o = names_in_result r.sort in
      let m = all_front K (ns ++ w) o k in
      same_logic sig place ac ns ws r a.1 a.2 (all_front K ns w m) (all_back K ns w m) (all_back K (ns ++ w) o k)
  same_kind sig place (kind.Function n fs w e) a k =
      let f = names_in_all fs in
      let t = names_in_type w in
      let m = all_front K (f ++ t) (names_in e) k.1 in
      same_function_decl sig place n fs w e k.0 (same_typeds fs a.1 (all_front K f t m)) (same_type text other a.2 (all_back K f t m))
      (same_tree text other a.3 (all_back K (f ++ t) (names_in e) k.1))
  same_kind sig place (kind.Predicate n fs e) a k =
      let f = names_in_all fs in
      same_predicate_decl sig place n fs e k.0 (same_typeds fs a.1 (all_front K f (names_in e) k.1)) (same_tree text other a.2 (all_back K f (names_in e) k.1))
  same_kind sig place (kind.Axiom n e) a k = same_statement sig place false n e k.0 (same_tree text other a.1 k.1)
  same_kind sig place (kind.Goal n e) a k = same_statement sig place true n e k.0 (same_tree text other a.1 k.1)

  same_decls : (sig : Signature) (ds : List Decl) → AllByRecursion (IsDeclaration text) ds → Ks (joined (map (λ d. names_in_kind d.kind) ds)) → decls_rule text sig ds ≡ decls_rule other sig ds
  same_decls sig [] h k = refl
  same_decls sig (d ∷ ds) h k =
      let rest = joined (map (λ (d : Decl). names_in_kind d.kind) ds) in
      λ i. (alone (same_kind sig d.span d.kind h.0.kind (all_front K (names_in_kind d.kind) rest k) i) >> λ a.
      same_decls a.signature ds h.1 (all_back K (names_in_kind d.kind) rest k) i >> λ b.
      give (record { signature = b.signature; drafts = a.drafts ++ b.drafts }))

  same_file : (file : File) → AllByRecursion (IsDeclaration text) file.decls → Ks (names_in_file file) → file_states text file ≡ file_states other file
  same_file file h k = ap (λ (r : Rule Declared). r (record { next = 0; written = [] })) (same_decls no_declarations file.decls h k)

  typing_stays : (file : File) (p : Problem) → file_states text file ≡ file_states other file → IsTyped text file p → IsTyped other file p
  typing_stays file p e h = record {
    typing = h.typing;
    principal = subst (λ (z : Stated Declared). IsPrincipal z.conditions h.typing) e h.principal;
    small = subst (λ (z : Stated Declared). first_large (shown h.typing) z.value.drafts ≡ None) e h.small;
    signature = subst (λ (z : Stated Declared). p.signature ≡ z.value.signature) e h.signature;
    items = subst (λ (z : Stated Declared). p.items ≡ map (item_of h.typing) z.value.drafts) e h.items;
  }

-- ---- more bytes behind a text
name_stays : (text more : List ℕ) (s : Span) → IsName text s → Kept text (text ++ more) s
name_stays text more s h =
    let n = length-drop s.from text in
    sym (ap (take (s.to - s.from)) (drop-append-le s.from text more (omega (arith, h.ordered, h.within)))
    ∙ take-append-le (s.to - s.from) (drop s.from text) more (omega (arith, h.ordered, h.within, n)))

pub problem_stays : (text more : List ℕ) (tokens : List Token) (file : File) (p : Problem) → IsTokenized text tokens → IsParsed tokens file → IsTyped text file p → IsTyped (text ++ more) file p
problem_stays text more tokens file p t f h =
    typing_stays text (text ++ more) file p
    (same_file text (text ++ more) file (file_made text tokens file t f)
    (all_weaker (IsName text) (Kept text (text ++ more)) (name_stays text more) (names_in_file file) (file_named text tokens file t f)))
    h

-- ---- whole lines
pub lines_tokens : (text lines : List ℕ) (tokens : List Token) → IsInLines text lines → IsTokenized text tokens → IsTokenized lines tokens
lines_tokens text lines tokens (whole a) t = t
lines_tokens text lines tokens (broken n) t = tokens_stay text tokens t

pub lines_problem : (text lines : List ℕ) (tokens : List Token) (file : File) (p : Problem) → IsInLines text lines
    → IsTokenized text tokens → IsParsed tokens file → IsTyped text file p → IsTyped lines file p
lines_problem text lines tokens file p (whole a) t f h = h
lines_problem text lines tokens file p (broken n) t f h = problem_stays text (10 ∷ []) tokens file p t f h
