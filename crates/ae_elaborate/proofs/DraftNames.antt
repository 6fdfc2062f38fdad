-- The names of the axioms and goals that a file gives are text.
use Rattle.std.proofs.Common.{◌≡◌, ℕ, List, [], ◌∷◌, length, map, sym, subst}
use Rattle.std.specs.List.{AllByRecursion}
use Rattle.std.specs.Str.{IsUtf8}
use Rattle.ae_base.proofs.AllOf.{all_append, all_front, all_back}
use Rattle.ae_core.specs.declared.problems.Signature.{Signature}
use Rattle.ae_declaration_typing.specs.declared.drafts.Draft as code
use Rattle.ae_core.specs.declared.problems.FieldEntry.{FieldEntry}
use Rattle.ae_core.specs.declared.problems.Kind.TheVariants.{Abstract, Choices, Fields}
use Rattle.ae_elab.specs.Conditions.{Condition, test}
use Rattle.ae_elab.specs.declared.faults.TypeFault.TheVariants as fault
use Rattle.ae_elab.specs.declared.grounds.Ground.TheVariants as ground
use Rattle.ae_elab.specs.WrittenTypes.{type_rule}
use Rattle.ae_elab.specs.Declarations.{Declared, Draft, all_different, constructors_from, count_from, declared, declared_by, decls_rule, fields_rule, kind_rule, may_be_ac, nature_of, new_symbols, new_type, no_declarations, result_rule, scope_of, symbol_entry, type_entry, with_symbols, with_types}
use Rattle.ae_elab.specs.Names.{IsName, joined, names_in_file, names_in_kind}
use Rattle.ae_elab.specs.Nodes.{Entry}
use Rattle.ae_elab.specs.Rules.{Passed, Rule, ◌>>◌, ◌⇒◌, all_of, count_written, each}
use Rattle.ae_elab.specs.Scope.{name_in}
use Rattle.ae_file_typing.specs.Files.{drafts_at}
use Rattle.ae_syntax.specs.declared.decls.Decl.{Decl}
use Rattle.ae_syntax.specs.declared.decls.DeclKind.{DeclKind}
use Rattle.ae_syntax.specs.declared.decls.DeclKind.TheVariants as kind
use Rattle.ae_syntax.specs.declared.decls.File.{File}
use Rattle.ae_syntax.specs.declared.spans.Span.{Span}

abbrev AreText : List Draft → Type 0
AreText ds = AllByRecursion (λ d. IsUtf8 d.name) ds

-- conditions that come first leave what is declared as it is
behind : (cs : List Condition) (r : Rule Declared) (p : Passed) → AreText (r p).value.drafts → AreText (all_of cs r p).value.drafts
behind [] r p h = h
behind (c ∷ cs) r p h = behind cs r p h

module _ (text : List ℕ) where
  of_kind : (sig : Signature) (place : Span) (k : DeclKind) (p : Passed) → AllByRecursion (IsName text) (names_in_kind k) → AreText (kind_rule text sig place k p).value.drafts
  of_kind sig place (kind.Type params n []) p h =
      behind (all_different text [] params) (new_type text sig n ⇒ declared (with_types sig (type_entry (name_in text n) (length params) Abstract ∷ []))) p tt
  of_kind sig place (kind.Type params n (x ∷ xs)) p h =
      let entry = λ (fs : List FieldEntry). type_entry (name_in text n) (length params) (Fields fs) in
      behind (all_different text [] params)
      (new_type text sig n ⇒ fields_rule text sig (ground.InField (map (name_in text) params) (length sig.types)) entry [] (x ∷ xs) >> λ fs. declared (with_types sig (entry fs ∷ []))) p tt
  of_kind sig place (kind.Enumeration n cs) p h =
      behind (new_symbols text sig [] cs)
      (declared (with_symbols (with_types sig (type_entry (name_in text n) 0 (Choices (count_from (length sig.symbols) cs)) ∷ [])) (constructors_from text (length sig.types) 0 cs))) p tt
  of_kind sig place (kind.Logic ac names args result) p h =
      behind (new_symbols text sig [] names)
      (each (λ w. type_rule w ground.Free (scope_of text sig)) args >> λ ss. result_rule text sig result.sort >> λ r.
      test (may_be_ac ac ss r) (fault.BadAc place.from place.to)
      ⇒ count_written >> λ n. declared (with_symbols sig (map (λ x. symbol_entry (name_in text x) n ss r (nature_of ac)) names))) p tt
  of_kind sig place (kind.Function n formals result body) p h = (h.0.utf8, tt)
  of_kind sig place (kind.Predicate n formals body) p h = (h.0.utf8, tt)
  of_kind sig place (kind.Axiom n body) p h = (h.0.utf8, tt)
  of_kind sig place (kind.Goal n body) p h = (h.0.utf8, tt)

  of_decls : (ds : List Decl) (sig : Signature) (p : Passed) → AllByRecursion (IsName text) (joined (map (λ d. names_in_kind d.kind) ds)) → AreText (decls_rule text sig ds p).value.drafts
  of_decls [] sig p h = tt
  of_decls (d ∷ ds) sig p h =
      all_append (λ (x : Draft). IsUtf8 x.name) _ _
      (of_kind sig d.span d.kind _ (all_front (IsName text) (names_in_kind d.kind) _ h))
      (of_decls ds _ _ (all_back (IsName text) (names_in_kind d.kind) _ h))

  of_file : (file : File) → AllByRecursion (IsName text) (names_in_file file) → AreText (declared_by text file).drafts
  of_file file h = of_decls file.decls no_declarations _ h

  of_drafts : (es : List Entry) (ds : List code.Draft) → AreText (drafts_at text es ds) → AllByRecursion (λ d. IsUtf8 (name_in text d.name)) ds
  of_drafts es [] h = tt
  of_drafts es (d ∷ ds) h = (h.0, of_drafts es ds h.1)

  pub drafts_named : (file : File) (es : List Entry) (ds : List code.Draft) → drafts_at text es ds ≡ (declared_by text file).drafts
      → AllByRecursion (IsName text) (names_in_file file) → AllByRecursion (λ d. IsUtf8 (name_in text d.name)) ds
  drafts_named file es ds e h = of_drafts es ds (subst AreText (sym e) (of_file file h))
