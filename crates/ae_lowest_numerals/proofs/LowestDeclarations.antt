-- The axioms and goals of declarations whose numerals are in lowest terms.
use Rattle.std.specs.Prelude.{ℕ, Bool, true, false, List, [], ◌∷◌, map, length, Some, None}
use Rattle.std.specs.List.{AllByRecursion}
use Rattle.ae_base.proofs.AllOf.{all_append}
use Rattle.ae_core.specs.declared.terms.Head.TheVariants as head
use Rattle.ae_core.specs.declared.problems.Signature.{Signature}
use Rattle.ae_core.specs.declared.problems.FieldEntry.{FieldEntry}
use Rattle.ae_core.specs.declared.problems.Kind.TheVariants.{Abstract, Choices, Fields}
use Rattle.ae_core.specs.declared.problems.Nature.TheVariants.{Free}
use Rattle.ae_syntax.specs.declared.spans.Span.{Span}
use Rattle.ae_syntax.specs.declared.types.WrittenType.{WrittenType}
use Rattle.ae_syntax.specs.declared.exprs.Expr.{Expr}
use Rattle.ae_syntax.specs.declared.decls.TypedName.{TypedName}
use Rattle.ae_syntax.specs.declared.decls.SymbolResult.{SymbolResult}
use Rattle.ae_syntax.specs.declared.decls.Decl.{Decl}
use Rattle.ae_syntax.specs.declared.decls.DeclKind.{DeclKind}
use Rattle.ae_syntax.specs.declared.decls.DeclKind.TheVariants as kind
use Rattle.ae_elab.specs.declared.faults.TypeFault.TheVariants as fault
use Rattle.ae_elab.specs.declared.grounds.Ground.TheVariants as ground
use Rattle.ae_elab.specs.Conditions.{test}
use Rattle.ae_elab.specs.Trees.{Tree, Claim, equal, apply, relation, predicate, equivalence}
use Rattle.ae_elab.specs.Scope.{name_in}
use Rattle.ae_elab.specs.Rules.{◌>>◌, ◌⇒◌, each, count_written, as_formula, wanted}
use Rattle.ae_elab.specs.WrittenTypes.{type_rule}
use Rattle.ae_elab.specs.Formulas.{Bound, with_block}
use Rattle.ae_elab.specs.Expressions.{part_of}
use Rattle.ae_elab.specs.Declarations.{Draft, Declared, declared, new_type, all_different, with_types, with_symbols, type_entry, symbol_entry}
use Rattle.ae_elab.specs.Declarations.{scope_of, fields_rule, type_decl, constructors_from, new_symbols, count_from, enumeration_decl, result_rule}
use Rattle.ae_elab.specs.Declarations.{may_be_ac, nature_of, logic_decl, formals_rule, rigids, sorts_of, formal_args, defining, function_decl}
use Rattle.ae_elab.specs.Declarations.{predicate_decl, statement_decl, kind_rule, decl_rule, decls_rule}
use Rattle.ae_lowest_numerals.proofs.LowestTrees.{LowestTree, LowestTrees, LowestClaim, Gives}
use Rattle.ae_lowest_numerals.proofs.LowestTerms.{after_all}
use Rattle.ae_lowest_numerals.proofs.LowestFormulas.{block_locals}
use Rattle.ae_lowest_numerals.proofs.LowestParts.{LowestExpr}

abbrev pub LowestDraft : Draft → Type 0
LowestDraft d = LowestClaim d.claim

abbrev LowestDrafts : Declared → Type 0
LowestDrafts d = AllByRecursion LowestDraft d.drafts

-- a declaration of which the body's numerals are in lowest terms
abbrev pub LowestKind : DeclKind → Type 0
LowestKind (kind.Function n fs w e) = LowestExpr e
LowestKind (kind.Predicate n fs e) = LowestExpr e
LowestKind (kind.Axiom n e) = LowestExpr e
LowestKind (kind.Goal n e) = LowestExpr e
LowestKind _ = Unit {0}

abbrev pub LowestDecl : Decl → Type 0
LowestDecl d = LowestKind d.kind

formals_lowest : (bs : List Bound) → LowestTrees (formal_args bs)
formals_lowest [] = tt
formals_lowest (b ∷ bs) = (tt, formals_lowest bs)

-- the axiom of a definition
defining_lowest : (bs : List Bound) (place : Span) (t : Tree) (f : Claim) → LowestTree t → LowestClaim f → LowestClaim (defining bs place t f)
defining_lowest [] place t f h k = k
defining_lowest (b ∷ bs) place t f h k = (((h, tt), tt), k)

module _ (text : List ℕ) where
  -- ---- types and symbols are no axioms
  type_lowest : (sig : Signature) (ps : List Span) (n : Span) (fs : List TypedName) → Gives LowestDrafts (type_decl text sig ps n fs)
  type_lowest sig ps n [] =
      after_all LowestDrafts (all_different text [] ps)
      (new_type text sig n ⇒ declared (with_types sig (type_entry (name_in text n) (length ps) Abstract ∷ []))) (λ p. tt)
  type_lowest sig ps n (x ∷ xs) =
      let entry = λ (fs : List FieldEntry). type_entry (name_in text n) (length ps) (Fields fs) in
      after_all LowestDrafts (all_different text [] ps)
      (new_type text sig n
      ⇒ fields_rule text sig (ground.InField (map (name_in text) ps) (length sig.types)) entry [] (x ∷ xs) >> λ fs. declared (with_types sig (entry fs ∷ [])))
      (λ p. tt)

  enumeration_lowest : (sig : Signature) (n : Span) (cs : List Span) → Gives LowestDrafts (enumeration_decl text sig n cs)
  enumeration_lowest sig n cs =
      after_all LowestDrafts (new_symbols text sig [] cs)
      (declared
      (with_symbols (with_types sig (type_entry (name_in text n) 0 (Choices (count_from (length sig.symbols) cs)) ∷ []))
      (constructors_from text (length sig.types) 0 cs)))
      (λ p. tt)

  logic_lowest : (sig : Signature) (place : Span) (ac : Bool) (ns : List Span) (ws : List WrittenType) (r : SymbolResult)
      → Gives LowestDrafts (logic_decl text sig place ac ns ws r)
  logic_lowest sig place ac ns ws r =
      after_all LowestDrafts (new_symbols text sig [] ns)
      (each (λ w. type_rule w ground.Free (scope_of text sig)) ws >> λ ss. result_rule text sig r.sort >> λ o.
      test (may_be_ac ac ss o) (fault.BadAc place.from place.to)
      ⇒ count_written >> λ n. declared (with_symbols sig (map (λ x. symbol_entry (name_in text x) n ss o (nature_of ac)) ns)))
      (λ p. tt)

  -- ---- definitions and statements
  function_lowest : (sig : Signature) (place n : Span) (fs : List TypedName) (w : WrittenType) (e : Expr) → LowestExpr e
      → Gives LowestDrafts (function_decl text sig place n fs w e)
  function_lowest sig place n fs w e h p =
      let b = formals_rule text sig [] fs p in
      let s = type_rule w ground.Free (scope_of text sig) b.passed in
      let vars = length s.passed.written in
      let after = with_symbols sig (symbol_entry (name_in text n) vars (sorts_of b.value) (Some s.value) Free ∷ []) in
      let inner = with_block b.value (scope_of text after) in
      let t = apply (head.Symbol (length sig.symbols)) (rigids 0 vars) (formal_args b.value) in
      let f = formals_lowest b.value in (
        defining_lowest b.value n t (relation equal t (wanted inner s.value (part_of e) s.passed).value) f
            (f, h.term inner (block_locals b.value (scope_of text after) tt) (part_of e).place s.passed),
        tt,
      )

  predicate_lowest : (sig : Signature) (place n : Span) (fs : List TypedName) (e : Expr) → LowestExpr e → Gives LowestDrafts (predicate_decl text sig place n fs e)
  predicate_lowest sig place n fs e h p =
      let b = formals_rule text sig [] fs p in
      let vars = length b.passed.written in
      let after = with_symbols sig (symbol_entry (name_in text n) vars (sorts_of b.value) None Free ∷ []) in
      let inner = with_block b.value (scope_of text after) in
      let k = length sig.symbols in
      let us = formal_args b.value in
      let f = formals_lowest b.value in (
        defining_lowest b.value n (apply (head.Symbol k) (rigids 0 vars) us)
            (equivalence (predicate k (rigids 0 vars) us) (as_formula inner (part_of e) b.passed).value) f
            (f, h.formula inner (block_locals b.value (scope_of text after) tt) None (part_of e).place b.passed),
        tt,
      )

  statement_lowest : (sig : Signature) (place : Span) (is_goal : Bool) (n : Span) (e : Expr) → LowestExpr e → Gives LowestDrafts (statement_decl text sig place is_goal n e)
  statement_lowest sig place is_goal n e h p = (h.formula (scope_of text sig) tt None (part_of e).place p, tt)

  kind_lowest : (sig : Signature) (place : Span) (k : DeclKind) → LowestKind k → Gives LowestDrafts (kind_rule text sig place k)
  kind_lowest sig place (kind.Type ps n fs) h = type_lowest sig ps n fs
  kind_lowest sig place (kind.Enumeration n cs) h = enumeration_lowest sig n cs
  kind_lowest sig place (kind.Logic ac ns ws r) h = logic_lowest sig place ac ns ws r
  kind_lowest sig place (kind.Function n fs w e) h = function_lowest sig place n fs w e h
  kind_lowest sig place (kind.Predicate n fs e) h = predicate_lowest sig place n fs e h
  kind_lowest sig place (kind.Axiom n e) h = statement_lowest sig place false n e h
  kind_lowest sig place (kind.Goal n e) h = statement_lowest sig place true n e h

  pub drafts_lowest : (sig : Signature) (ds : List Decl) → AllByRecursion LowestDecl ds → Gives LowestDrafts (decls_rule text sig ds)
  drafts_lowest sig [] a p = tt
  drafts_lowest sig (d ∷ ds) a p =
      let r = decl_rule text sig d p in
      let rest = decls_rule text r.value.signature ds r.passed in
      all_append LowestDraft r.value.drafts rest.value.drafts (kind_lowest sig d.span d.kind a.0 (record { next = p.next; written = [] }))
      (drafts_lowest r.value.signature ds a.1 r.passed)
