-- Where its conditions are met, a parsed file has axioms and goals whose trees fit.
use Rattle.std.proofs.Common.{arith, ◌≡◌, ◌∙◌, ◌≤◌, ℕ, suc, Bool, true, false, not, List, [], ◌∷◌, ◌++◌, map, reverse, length, refl, sym, ap, subst}
use Rattle.std.proofs.Common.{Option, Some, None, slice_get}
use Rattle.std.specs.List.{AllByRecursion}
use Rattle.std.proofs.lemmas.List.{reverse-append}
use Rattle.ae_base.proofs.AllOf.{all_append, all_front, all_back}
use Rattle.ae_base.proofs.ListFacts.{get_append, get_seam}
use Rattle.ae_core.specs.Putting.{put_sort}
use Rattle.ae_core.specs.Signatures.{IsLawful}
use Rattle.ae_core.specs.Sorts.{head_sort}
use Rattle.ae_core.proofs.SortLaws.{ok_rigid}
use Rattle.ae_core.specs.declared.terms.Sort.{Sort}
use Rattle.ae_core.specs.declared.terms.Head.TheVariants as head
use Rattle.ae_core.specs.declared.problems.Signature.{Signature}
use Rattle.ae_core.specs.declared.problems.SymbolEntry.{SymbolEntry}
use Rattle.ae_core.specs.declared.problems.TypeEntry.{TypeEntry}
use Rattle.ae_core.specs.declared.problems.FieldEntry.{FieldEntry}
use Rattle.ae_core.specs.declared.problems.Kind.TheVariants.{Abstract, Choices, Fields}
use Rattle.ae_core.specs.declared.problems.Nature.TheVariants.{Free}
use Rattle.ae_types.specs.Substitutions.{put}
use Rattle.ae_syntax.specs.declared.spans.Span.{Span}
use Rattle.ae_syntax.specs.declared.types.WrittenType.{WrittenType}
use Rattle.ae_syntax.specs.declared.exprs.Expr.{Expr}
use Rattle.ae_syntax.specs.declared.exprs.Quantifier.TheVariants as quantifier
use Rattle.ae_syntax.specs.declared.decls.TypedName.{TypedName}
use Rattle.ae_syntax.specs.declared.decls.SymbolResult.{SymbolResult}
use Rattle.ae_syntax.specs.declared.decls.Decl.{Decl}
use Rattle.ae_syntax.specs.declared.decls.DeclKind.{DeclKind}
use Rattle.ae_syntax.specs.declared.decls.DeclKind.TheVariants as kind
use Rattle.ae_elab.specs.declared.faults.TypeFault.TheVariants as fault
use Rattle.ae_elab.specs.declared.grounds.Ground.{Ground}
use Rattle.ae_elab.specs.declared.grounds.Ground.TheVariants as ground
use Rattle.ae_elab.specs.Conditions.{Condition, test}
use Rattle.ae_elab.specs.Trees.{Tree, Claim, none, more, trees, no_pattern, and_pattern, equal, variable, apply, relation, predicate, equivalence}
use Rattle.ae_elab.specs.Scope.{name_in, is_among}
use Rattle.ae_elab.specs.Rules.{Passed, Rule, give, ◌>>◌, ◌⇒◌, all_of, each, fresh, count_written, as_formula, wanted}
use Rattle.ae_elab.specs.WrittenTypes.{type_rule}
use Rattle.ae_elab.specs.Formulas.{Bound, with_block}
use Rattle.ae_elab.specs.Expressions.{part_of}
use Rattle.ae_elab.specs.Declarations.{Draft, Declared, declared, drafted, twice, new_type, new_symbol, all_different, with_types, with_symbols}
use Rattle.ae_elab.specs.Declarations.{type_entry, generalize, generalized, symbol_entry, scope_of, fields_rule, type_decl, constructors_from}
use Rattle.ae_elab.specs.Declarations.{new_symbols, count_from, enumeration_decl, result_rule, may_be_ac, nature_of, logic_decl, formals_rule, rigids}
use Rattle.ae_elab.specs.Declarations.{sorts_of, formal_args, defining, function_decl, predicate_decl, statement_decl, kind_rule, decl_rule}
use Rattle.ae_elab.specs.Declarations.{decls_rule}
use Rattle.ae_typed_laws.proofs.ParsedTrees.{IsWritten, AreWritten, no_types, and_type, IsTree, IsTypedName, IsResult, IsKind, IsDeclaration}
use Rattle.ae_typed_laws.proofs.MetConditions.{IsMetOne, Meeting, Grows, grows_then}
use Rattle.ae_typed_laws.proofs.SortRules.{IsFree, free_kept, sort_given}
use Rattle.ae_lawful_problems.proofs.SortedTrees.{Env, look, fits, AllFit, IsPredicate, Sorted, of_variable, of_apply, AreSorted, of_none, of_more}
use Rattle.ae_lawful_problems.proofs.SortedTrees.{a_trigger_term, a_predicate_term, no_terms, more_terms, AreTriggers, no_triggers, more_triggers}
use Rattle.ae_lawful_problems.proofs.SortedTrees.{Fitting, fits_relation, fits_predicate, fits_equivalence}
use Rattle.ae_lawful_problems.proofs.FitRules.{FitCondition, Gives, gives_value, gives_then, gives_after}
use Rattle.ae_lawful_problems.proofs.TestsOnly.{Tests, tests_then, type_tests}
use Rattle.ae_lawful_problems.proofs.Weakening.{Falls, falls_append}
use Rattle.ae_lawful_problems.proofs.Generals.{rigids_long, rigids_put, IsFreeOver, general_back, generals_back, free_stays}
use Rattle.ae_lawful_problems.proofs.TypedTrees.{Lies, TreeFits, ClaimFits, free_fits, in_wanted, in_formula, symbol_applied}
use Rattle.ae_lawful_problems.proofs.TypedFormulas.{bindings, SortsFit, NewBounds, bounds_found, inside, block_fits, predicate_is}
use Rattle.ae_lawful_problems.proofs.TypedParts.{tree_fits}

-- the value behind conditions
all_of_value : {A : Type 0} (cs : List Condition) (r : Rule A) (p : Passed) → (all_of cs r p).value ≡ (r p).value
all_of_value [] r p = refl
all_of_value (c ∷ cs) r p = all_of_value cs r p

module _ (F : Signature) where
  -- what is declared here is declared in the whole file
  pub record Under (sig : Signature) : Type 0 where
    pub types : (h : ℕ) (e : TypeEntry) → slice_get sig.types h ≡ Some e → slice_get F.types h ≡ Some e
    pub symbols : (h : ℕ) (e : SymbolEntry) → slice_get sig.symbols h ≡ Some e → slice_get F.symbols h ≡ Some e

  under_types : (sig : Signature) (ts : List TypeEntry) → Under (with_types sig ts) → Under sig
  under_types sig ts u = record { types = λ h e g. u.types h e (get_append sig.types ts h e g); symbols = u.symbols }

  under_symbols : (sig : Signature) (ss : List SymbolEntry) → Under (with_symbols sig ss) → Under sig
  under_symbols sig ss u = record { types = u.types; symbols = λ h e g. u.symbols h e (get_append sig.symbols ss h e g) }

  before_all : (sig : Signature) (cs : List Condition) (r : Rule Declared) (p : Passed) → (Under (r p).value.signature → Under sig) → Under (all_of cs r p).value.signature → Under sig
  before_all sig cs r p h u = h (subst (λ (d : Declared). Under d.signature) (all_of_value cs r p) u)

  module _ (text : List ℕ) where
    kind_before : (sig : Signature) (place : Span) (k : DeclKind) (p : Passed) → Under (kind_rule text sig place k p).value.signature → Under sig
    kind_before sig place (kind.Type ps n []) p u =
        before_all sig (all_different text [] ps) (new_type text sig n ⇒ declared (with_types sig (type_entry (name_in text n) (length ps) Abstract ∷ []))) p
        (λ v. under_types sig (type_entry (name_in text n) (length ps) Abstract ∷ []) v) u
    kind_before sig place (kind.Type ps n (x ∷ xs)) p u =
        let entry = λ (fs : List FieldEntry). type_entry (name_in text n) (length ps) (Fields fs) in
        let g = ground.InField (map (name_in text) ps) (length sig.types) in
        before_all sig (all_different text [] ps)
        (new_type text sig n ⇒ fields_rule text sig g entry [] (x ∷ xs) >> λ fs. declared (with_types sig (entry fs ∷ []))) p
        (λ v. under_types sig (entry (fields_rule text sig g entry [] (x ∷ xs) p).value ∷ []) v) u
    kind_before sig place (kind.Enumeration n cs) p u =
        let t = type_entry (name_in text n) 0 (Choices (count_from (length sig.symbols) cs)) in
        let ss = constructors_from text (length sig.types) 0 cs in
        before_all sig (new_symbols text sig [] cs) (declared (with_symbols (with_types sig (t ∷ [])) ss)) p (λ v. under_types sig (t ∷ []) (under_symbols (with_types sig (t ∷ [])) ss v)) u
    kind_before sig place (kind.Logic ac ns ws r) p u =
        before_all sig (new_symbols text sig [] ns) _ p (λ v. under_symbols sig _ v) u
    kind_before sig place (kind.Function n fs w e) p u = under_symbols sig _ u
    kind_before sig place (kind.Predicate n fs e) p u = under_symbols sig _ u
    kind_before sig place (kind.Axiom n e) p u = u
    kind_before sig place (kind.Goal n e) p u = u

    decls_before : (sig : Signature) (ds : List Decl) (p : Passed) → Under (decls_rule text sig ds p).value.signature → Under sig
    decls_before sig [] p u = u
    decls_before sig (d ∷ ds) p u =
        let r = decl_rule text sig d p in
        kind_before sig d.span d.kind (record { next = p.next; written = [] }) (decls_before r.value.signature ds r.passed u)

module _ (F : Signature) (law : IsLawful F) (m : ℕ → Sort) (text : List ℕ) where
  abbrev DraftFits : Draft → Type 0
  DraftFits d = Fitting F m [] d.claim

  root : (sig : Signature) (p : Passed) → Under F sig → Lies F law m text [] p (scope_of text sig)
  root sig p u = record { text_is = refl; types = u.types; symbols = u.symbols; locals = tt; below = tt }

  pub record Made (r : Rule Declared) (p : Passed) : Type 0 where
    pub fit : AllByRecursion (FitCondition F) (r p).conditions
    pub drafts : AllByRecursion DraftFits (r p).value.drafts

  -- a declaration under the declarations of the whole file
  pub record Makes (p : Passed) (r : Rule Declared) : Type 0 where
    pub by : Meeting m p r → Under F (r p).value.signature → Made r p

  makes_nothing : (sig : Signature) (p : Passed) → Makes p (declared sig)
  makes_nothing sig p = record { by = λ c u. record { fit = tt; drafts = tt } }

  makes_draft : (sig : Signature) (place : Span) (is_goal : Bool) (name : List ℕ) (f : Claim) (p : Passed) → (Under F sig → Fitting F m [] f) → Makes p (drafted sig place is_goal name f)
  makes_draft sig place is_goal name f p h = record { by = λ c u. record { fit = tt; drafts = (h u, tt) } }

  makes_then : {A : Type 0} (Q : A → Passed → Type 0) (r : Rule A) (f : A → Rule Declared) (p : Passed) → Gives F m p Q r → ((x : A) (q : Passed) → Grows m p q → Q x q → Makes q (f x)) → Makes p (r >> f)
  makes_then Q r f p h k = record {
    by = λ c u. let a = h.by (all_front (IsMetOne m) (r p).conditions (f (r p).value (r p).passed).conditions c) in
        let b = (k (r p).value (r p).passed a.grows a.value).by (all_back (IsMetOne m) (r p).conditions (f (r p).value (r p).passed).conditions c) u in
        record { fit = all_append (FitCondition F) (r p).conditions (f (r p).value (r p).passed).conditions a.fit b.fit; drafts = b.drafts };
  }

  makes_under : {A : Type 0} (Q : A → Passed → Type 0) (r : Rule A) (f : A → Rule Declared) (p : Passed) → (Under F ((r >> f) p).value.signature → Gives F m p Q r)
      → ((x : A) (q : Passed) → Grows m p q → Q x q → Makes q (f x)) → Makes p (r >> f)
  makes_under Q r f p h k = record { by = λ c u. (makes_then Q r f p (h u) k).by c u }

  makes_after : (c : Condition) (r : Rule Declared) (p : Passed) → FitCondition F c → (IsMetOne m c → Makes p r) → Makes p (c ⇒ r)
  makes_after c r p f h = record { by = λ k u. let a = (h k.0).by k.1 u in record { fit = (f, a.fit); drafts = a.drafts } }

  makes_after_all : (cs : List Condition) (r : Rule Declared) (p : Passed) → AllByRecursion (FitCondition F) cs → Makes p r → Makes p (all_of cs r)
  makes_after_all [] r p f h = h
  makes_after_all (c ∷ cs) r p f h = makes_after c (all_of cs r) p f.0 (λ i. makes_after_all cs r p f.1 h)

  makes_tests : {A : Type 0} (r : Rule A) (f : A → Rule Declared) (p : Passed) → Tests F r → ((x : A) (q : Passed) → Makes q (f x)) → Makes p (r >> f)
  makes_tests r f p h k = record {
    by = λ c u. let b = (k (r p).value (r p).passed).by (all_back (IsMetOne m) (r p).conditions (f (r p).value (r p).passed).conditions c) u in
        record { fit = all_append (FitCondition F) (r p).conditions (f (r p).value (r p).passed).conditions (h p) b.fit; drafts = b.drafts };
  }

  -- ---- names
  tests_different : (seen : List (List ℕ)) (ss : List Span) → AllByRecursion (FitCondition F) (all_different text seen ss)
  tests_different seen [] = tt
  tests_different seen (s ∷ ss) = (tt, tests_different (name_in text s ∷ seen) ss)

  tests_symbols : (sig : Signature) (seen : List (List ℕ)) (ss : List Span) → AllByRecursion (FitCondition F) (new_symbols text sig seen ss)
  tests_symbols sig seen [] = tt
  tests_symbols sig seen (s ∷ ss) = (tt, tests_symbols sig (name_in text s ∷ seen) ss)

  tests_fields : (sig : Signature) (g : Ground) (entry : List FieldEntry → TypeEntry) (got : List FieldEntry) (xs : List TypedName) → AllByRecursion (IsTypedName text) xs → Tests F (fields_rule text sig g entry got xs)
  tests_fields sig g entry got [] a p = tt
  tests_fields sig g entry got (x ∷ xs) a p =
      let here = scope_of text (with_types sig (entry got ∷ [])) in
      let r = type_rule x.sort g here p in
      let next = fields_rule text sig g entry (got ++ record { name = name_in text x.name; sort = r.value } ∷ []) xs r.passed in (
        tt,
        all_append (FitCondition F) r.conditions next.conditions ((type_tests F text a.0.sort).at g here p)
            (tests_fields sig g entry (got ++ record { name = name_in text x.name; sort = r.value } ∷ []) xs a.1 r.passed),
      )

  tests_arguments : (sig : Signature) {ws : List WrittenType} → AreWritten text ws → Tests F (each (λ w. type_rule w ground.Free (scope_of text sig)) ws)
  tests_arguments sig no_types = λ p. tt
  tests_arguments sig (and_type w ws h a) =
      tests_then F (type_rule w ground.Free (scope_of text sig)) (λ s. each (λ w. type_rule w ground.Free (scope_of text sig)) ws >> λ ss. give (s ∷ ss))
      ((type_tests F text h).at ground.Free (scope_of text sig))
      (λ s. tests_then F (each (λ w. type_rule w ground.Free (scope_of text sig)) ws) (λ ss. give (s ∷ ss)) (tests_arguments sig a) (λ ss p. tt))

  tests_result : (sig : Signature) (o : Option WrittenType) → IsResult text o → Tests F (result_rule text sig o)
  tests_result sig None h = λ p. tt
  tests_result sig (Some w) h = tests_then F (type_rule w ground.Free (scope_of text sig)) (λ s. give (Some s)) ((type_tests F text h).at ground.Free (scope_of text sig)) (λ s p. tt)

  -- ---- types and symbols
  type_makes : (sig : Signature) (ps : List Span) (n : Span) (fs : List TypedName) (p : Passed) → AllByRecursion (IsTypedName text) fs → Makes p (type_decl text sig ps n fs)
  type_makes sig ps n [] p a =
      let whole = with_types sig (type_entry (name_in text n) (length ps) Abstract ∷ []) in
      makes_after_all (all_different text [] ps) (new_type text sig n ⇒ declared whole) p (tests_different [] ps)
      (makes_after (new_type text sig n) (declared whole) p tt (λ c. makes_nothing whole p))
  type_makes sig ps n (x ∷ xs) p a =
      let entry = λ (fs : List FieldEntry). type_entry (name_in text n) (length ps) (Fields fs) in
      let g = ground.InField (map (name_in text) ps) (length sig.types) in
      let rest = fields_rule text sig g entry [] (x ∷ xs) >> λ fs. declared (with_types sig (entry fs ∷ [])) in
      makes_after_all (all_different text [] ps) (new_type text sig n ⇒ rest) p (tests_different [] ps)
      (makes_after (new_type text sig n) rest p tt
      (λ c. makes_tests (fields_rule text sig g entry [] (x ∷ xs)) (λ fs. declared (with_types sig (entry fs ∷ []))) p (tests_fields sig g entry [] (x ∷ xs) a)
      (λ fs q. makes_nothing (with_types sig (entry fs ∷ [])) q)))

  enumeration_makes : (sig : Signature) (n : Span) (cs : List Span) (p : Passed) → Makes p (enumeration_decl text sig n cs)
  enumeration_makes sig n cs p =
      let whole = with_symbols (with_types sig (type_entry (name_in text n) 0 (Choices (count_from (length sig.symbols) cs)) ∷ [])) (constructors_from text (length sig.types) 0 cs) in
      makes_after (new_type text sig n) (all_of (new_symbols text sig [] cs) (declared whole)) p tt
      (λ c. makes_after_all (new_symbols text sig [] cs) (declared whole) p (tests_symbols sig [] cs) (makes_nothing whole p))

  logic_makes : (sig : Signature) (place : Span) (ac : Bool) (ns : List Span) (ws : List WrittenType) (r : SymbolResult) (p : Passed) → AreWritten text ws → IsResult text r.sort
      → Makes p (logic_decl text sig place ac ns ws r)
  logic_makes sig place ac ns ws r p a b =
      let end = λ (ss : List Sort) (o : Option Sort). count_written >> λ n. declared (with_symbols sig (map (λ x. symbol_entry (name_in text x) n ss o (nature_of ac)) ns)) in
      let tested = λ (ss : List Sort) (o : Option Sort). test (may_be_ac ac ss o) (fault.BadAc place.from place.to) ⇒ end ss o in
      let sorted = λ (ss : List Sort). result_rule text sig r.sort >> λ o. tested ss o in
      makes_after_all (new_symbols text sig [] ns) (each (λ w. type_rule w ground.Free (scope_of text sig)) ws >> λ ss. sorted ss) p (tests_symbols sig [] ns)
      (makes_tests (each (λ w. type_rule w ground.Free (scope_of text sig)) ws) sorted p (tests_arguments sig a)
      (λ ss q. makes_tests (result_rule text sig r.sort) (λ o. tested ss o) q (tests_result sig r.sort b)
      (λ o u. makes_after (test (may_be_ac ac ss o) (fault.BadAc place.from place.to)) (end ss o) u tt
      (λ c. makes_tests count_written (λ n. declared (with_symbols sig (map (λ x. symbol_entry (name_in text x) n ss o (nature_of ac)) ns))) u (λ p. tt)
      (λ n v. makes_nothing (with_symbols sig (map (λ x. symbol_entry (name_in text x) n ss o (nature_of ac)) ns)) v)))))

  -- ---- the formals of a definition
  record FormalsFit (sig : Signature) (low : ℕ) (bs : List Bound) (q : Passed) : Type 0 where
    pub new : NewBounds F law m text low bs q
    pub free : AllByRecursion (λ (s : Sort). IsFree m sig s q) (sorts_of bs)

  record SortFree (sig : Signature) (low : ℕ) (s : Sort) (q : Passed) : Type 0 where
    pub fit : fits F s ≡ true
    pub free : IsFree m sig s q
    pub next : low ≤ q.next

  sort_free : (sig : Signature) (w : WrittenType) (p : Passed) → Under F sig → IsWritten text w → Gives F m p (SortFree sig p.next) (type_rule w ground.Free (scope_of text sig))
  sort_free sig w p u h = record {
    by = λ c. let a = (sort_given m sig text [] ground.Free tt h p).by c in
        record {
          fit = (type_tests F text h).at ground.Free (scope_of text sig) p;
          grows = a.grows;
          value = record {
            fit = free_fits F law m text [] (scope_of text sig) (root sig p u) (type_rule w ground.Free (scope_of text sig) p).value (type_rule w ground.Free (scope_of text sig) p).passed a.value;
            free = a.value;
            next = a.grows.next;
          };
        };
  }

  kept_all : (sig : Signature) (ss : List Sort) (p q : Passed) → Grows m p q → AllByRecursion (λ (s : Sort). IsFree m sig s p) ss → AllByRecursion (λ (s : Sort). IsFree m sig s q) ss
  kept_all sig [] p q g a = tt
  kept_all sig (s ∷ ss) p q g a = (free_kept m sig s p q g a.0, kept_all sig ss p q g a.1)

  formals_fit : (sig : Signature) (seen : List (List ℕ)) (xs : List TypedName) (p : Passed) → Under F sig → AllByRecursion (IsTypedName text) xs → Gives F m p (FormalsFit sig p.next) (formals_rule text sig seen xs)
  formals_fit sig seen [] p u a = gives_value F m (FormalsFit sig p.next) [] p (record { new = record { falls = omega arith; fit = tt }; free = tt })
  formals_fit sig seen (x ∷ xs) p u a =
      let one : Sort → ℕ → Bound = λ s n. record { name = name_in text x.name; number = n; sort = s } in
      let rest = λ (s : Sort). fresh >> λ n. formals_rule text sig (name_in text x.name ∷ seen) xs >> λ bs. give (one s n ∷ bs) in
      gives_after F m (FormalsFit sig p.next) (test (not (is_among (name_in text x.name) seen)) (twice text x.name)) (type_rule x.sort ground.Free (scope_of text sig) >> λ s. rest s) p tt
      (λ c. gives_then F m (SortFree sig p.next) (FormalsFit sig p.next) (type_rule x.sort ground.Free (scope_of text sig)) rest p (sort_free sig x.sort p u a.0.sort)
      (λ s q g h. gives_then F m (λ n r. (n ≡ q.next) × (r.next ≡ suc q.next)) (FormalsFit sig p.next) fresh (λ n. formals_rule text sig (name_in text x.name ∷ seen) xs >> λ bs. give (one s n ∷ bs)) q
      (record { by = λ c. record { fit = tt; grows = record { next = omega arith; written = omega arith }; value = (refl, refl) } })
      (λ n r i e. gives_then F m (FormalsFit sig r.next) (FormalsFit sig p.next) (formals_rule text sig (name_in text x.name ∷ seen) xs) (λ bs. give (one s n ∷ bs)) r
      (formals_fit sig (name_in text x.name ∷ seen) xs r u a.1)
      (λ bs t j k. gives_value F m (FormalsFit sig p.next) (one s n ∷ bs) t (record {
        new = record {
          falls = subst (Falls t.next p.next) (sym (reverse-append ((n, put m s) ∷ []) (bindings F law m text bs)))
              (falls_append t.next r.next p.next (reverse (bindings F law m text bs)) ((n, put m s) ∷ []) k.new.falls
              (let y = e.0 in let z = e.1 in omega (arith, y, z), let y = e.0 in let z = h.next in omega (arith, y, z), let y = e.0 in let z = h.next in omega (arith, y, z)));
          fit = (h.fit, k.new.fit);
        };
        free = (free_kept m sig s q t (grows_then m q r t i j) h.free, k.free);
      })))))

  -- ---- the defined symbol, applied to its formals
  module _ (sig : Signature) (n : Span) (bs : List Bound) (vars : ℕ) (o : Option Sort) (q : Passed) (counted : vars ≡ length q.written)
      (u : Under F (with_symbols sig (symbol_entry (name_in text n) vars (sorts_of bs) o Free ∷ []))) (low : ℕ) (h : FormalsFit sig low bs q) where
    abbrev entry : SymbolEntry
    entry = symbol_entry (name_in text n) vars (sorts_of bs) o Free

    abbrev inner : Env
    inner = reverse (bindings F law m text bs) ++ []

    abbrev own : List Sort
    own = rigids 0 vars

    there : slice_get F.symbols (length sig.symbols) ≡ Some entry
    there = u.symbols (length sig.symbols) entry (get_seam sig.symbols [] entry)

    free_over : (ss : List Sort) → AllByRecursion (λ (s : Sort). IsFree m sig s q) ss → AllByRecursion (IsFreeOver sig vars) ss
    free_over [] a = tt
    free_over (s ∷ ss) a = (subst (λ (k : ℕ). IsFreeOver sig k s) (sym counted) a.0, free_over ss a.1)

    own_fits : (k first : ℕ) → AllFit F (rigids first k)
    own_fits ℕ.zero first = tt
    own_fits (suc k) first = (ok_rigid F (λ i. true) (λ i. true) first, own_fits k (suc first))

    args_sorted : (cs : List Bound) → AllByRecursion (λ b. look inner b.number ≡ Some (put m b.sort)) cs → AllByRecursion (IsFreeOver sig vars) (sorts_of cs)
        → AreSorted F m inner (trees (map (λ b. variable b.number) cs)) (sorts_of cs)
    args_sorted [] a f = of_none inner
    args_sorted (b ∷ cs) a f =
        of_more inner (variable b.number) (trees (map (λ b. variable b.number) cs)) b.sort (sorts_of cs)
        (of_variable inner b.number b.sort (a.0 ∙ ap Some (free_stays sig vars m b.sort f.0))) (args_sorted cs a.1 f.1)

    formal_sorts : AreSorted F m inner (formal_args bs) (map (put_sort own) entry.args)
    formal_sorts =
        let f = free_over (sorts_of bs) h.free in
        subst (AreSorted F m inner (formal_args bs)) (sym (generals_back sig vars (sorts_of bs) f)) (args_sorted bs (bounds_found F law m text [] bs low q h.new) f)

    abbrev head_tree : Tree
    head_tree = apply (head.Symbol (length sig.symbols)) own (formal_args bs)

    head_sorted : (s : Sort) → o ≡ Some s → IsFreeOver sig vars s → Sorted F m inner head_tree s
    head_sorted s e f =
        of_apply inner (head.Symbol (length sig.symbols)) own (formal_args bs) (map (put_sort own) entry.args) s (own_fits vars 0)
        (subst (λ (os : List Sort). head_sort F (head.Symbol (length sig.symbols)) os (map (put_sort own) entry.args) ≡ Some s) (sym (rigids_put m vars 0))
        (symbol_applied F law m text [] (scope_of text sig) (length sig.symbols) entry own (generalize s) there (ap generalized e) (rigids_long vars 0) ∙ ap Some (general_back sig vars s f))) formal_sorts

    head_predicate : o ≡ None → IsPredicate F (length sig.symbols) (map (put m) own) (map (put_sort own) entry.args)
    head_predicate e =
        subst (λ (os : List Sort). IsPredicate F (length sig.symbols) os (map (put_sort own) entry.args)) (sym (rigids_put m vars 0))
        (predicate_is F law m text [] (scope_of text sig) (length sig.symbols) entry own there (ap generalized e) (rigids_long vars 0))

  defining_fits : (bs : List Bound) (n : Span) (t : Tree) (f : Claim) → SortsFit F law m text bs → AreTriggers F m (reverse (bindings F law m text bs) ++ []) (and_pattern n (more t none) no_pattern)
      → Fitting F m (reverse (bindings F law m text bs) ++ []) f → Fitting F m [] (defining bs n t f)
  defining_fits [] n t f a h k = k
  defining_fits (b ∷ bs) n t f a h k = block_fits F law m text quantifier.Forall [] (b ∷ bs) (and_pattern n (more t none) no_pattern) f a h k

  -- what follows the sorts of a definition
  abbrev after_function : Signature → Span → Span → Expr → List Bound → Sort → Rule Declared
  after_function sig place n e bs s =
      count_written >> λ vars.
      let after = with_symbols sig (symbol_entry (name_in text n) vars (sorts_of bs) (Some s) Free ∷ []) in
      wanted (with_block bs (scope_of text after)) s (part_of e) >> λ t.
      let head = apply (head.Symbol (length sig.symbols)) (rigids 0 vars) (formal_args bs) in
      drafted after place false (name_in text n) (defining bs n head (relation equal head t))

  abbrev after_predicate : Signature → Span → Span → Expr → List Bound → Rule Declared
  after_predicate sig place n e bs =
      count_written >> λ vars.
      let after = with_symbols sig (symbol_entry (name_in text n) vars (sorts_of bs) None Free ∷ []) in
      as_formula (with_block bs (scope_of text after)) (part_of e) >> λ f.
      let k = length sig.symbols in
      drafted after place false (name_in text n)
      (defining bs n (apply (head.Symbol k) (rigids 0 vars) (formal_args bs)) (equivalence (predicate k (rigids 0 vars) (formal_args bs)) f))

  makes_counted : (f : ℕ → Rule Declared) (p : Passed) → Makes p (f (length p.written)) → Makes p (count_written >> f)
  makes_counted f p h = record { by = λ c u. let b = h.by c u in record { fit = b.fit; drafts = b.drafts } }

  raised : (high high' low : ℕ) (bs : Env) → high ≤ high' → Falls high low bs → Falls high' low bs
  raised high high' low [] l a = omega (arith, l, a)
  raised high high' low (b ∷ bs) l a = (let x = a.0 in omega (arith, l, x), a.1, a.2)

  formals_later : (sig : Signature) (low : ℕ) (bs : List Bound) (q r : Passed) → Grows m q r → FormalsFit sig low bs q → FormalsFit sig low bs r
  formals_later sig low bs q r g h = record {
    new = record { falls = raised q.next r.next low (reverse (bindings F law m text bs)) g.next h.new.falls; fit = h.new.fit };
    free = kept_all sig (sorts_of bs) q r g h.free;
  }

  function_makes : (sig : Signature) (place n : Span) (fs : List TypedName) (w : WrittenType) (e : Expr) (p : Passed) → AllByRecursion (IsTypedName text) fs → IsWritten text w → IsTree text e
      → Makes p (function_decl text sig place n fs w e)
  function_makes sig place n fs w e p a b t =
      makes_after (new_symbol text sig n) (formals_rule text sig [] fs >> λ bs. type_rule w ground.Free (scope_of text sig) >> λ s. after_function sig place n e bs s) p tt
      (λ c. makes_under (FormalsFit sig p.next) (formals_rule text sig [] fs) (λ bs. type_rule w ground.Free (scope_of text sig) >> λ s. after_function sig place n e bs s) p
      (λ u. formals_fit sig [] fs p (under_symbols F sig _ u) a)
      (λ bs q g k. makes_under (SortFree sig q.next) (type_rule w ground.Free (scope_of text sig)) (λ s. after_function sig place n e bs s) q (λ u. sort_free sig w q (under_symbols F sig _ u) b)
      (λ s r i h. makes_counted
      (λ vars. let after = with_symbols sig (symbol_entry (name_in text n) vars (sorts_of bs) (Some s) Free ∷ []) in
      wanted (with_block bs (scope_of text after)) s (part_of e) >> λ t.
      let head = apply (head.Symbol (length sig.symbols)) (rigids 0 vars) (formal_args bs) in
      drafted after place false (name_in text n) (defining bs n head (relation equal head t))) r
      (let vars = length r.written in
      let after = with_symbols sig (symbol_entry (name_in text n) vars (sorts_of bs) (Some s) Free ∷ []) in
      let env = reverse (bindings F law m text bs) ++ [] in
      let head = apply (head.Symbol (length sig.symbols)) (rigids 0 vars) (formal_args bs) in
      let f = formals_later sig p.next bs q r i k in
      makes_under (TreeFits F law m text env s) (wanted (with_block bs (scope_of text after)) s (part_of e))
      (λ t. drafted after place false (name_in text n) (defining bs n head (relation equal head t))) r
      (λ u. in_wanted F law m text env (with_block bs (scope_of text after)) s (part_of e) r (inside F law m text [] bs (scope_of text after) p r (grows_then m p q r g i) (root after p u) f.new) (tree_fits F law m text t) h.fit)
      (λ t v j x. makes_draft after place false (name_in text n) (defining bs n head (relation equal head t)) v
      (λ u. let top = head_sorted sig n bs vars (Some s) r refl u p.next f s refl h.free in
      defining_fits bs n head (relation equal head t) f.new.fit
      (more_triggers env n (more head none) no_pattern (more_terms env head none (a_trigger_term env head s top) (no_terms env)) (no_triggers env))
      (fits_relation env equal head t s tt top (subst (Sorted F m env t) (free_stays sig vars m s h.free) x))))))))

  predicate_makes : (sig : Signature) (place n : Span) (fs : List TypedName) (e : Expr) (p : Passed) → AllByRecursion (IsTypedName text) fs → IsTree text e → Makes p (predicate_decl text sig place n fs e)
  predicate_makes sig place n fs e p a t =
      makes_after (new_symbol text sig n) (formals_rule text sig [] fs >> λ bs. after_predicate sig place n e bs) p tt
      (λ c. makes_under (FormalsFit sig p.next) (formals_rule text sig [] fs) (λ bs. after_predicate sig place n e bs) p (λ u. formals_fit sig [] fs p (under_symbols F sig _ u) a)
      (λ bs r g f. makes_counted
      (λ vars. let after = with_symbols sig (symbol_entry (name_in text n) vars (sorts_of bs) None Free ∷ []) in
      as_formula (with_block bs (scope_of text after)) (part_of e) >> λ f.
      let k = length sig.symbols in
      drafted after place false (name_in text n) (defining bs n (apply (head.Symbol k) (rigids 0 vars) (formal_args bs)) (equivalence (predicate k (rigids 0 vars) (formal_args bs)) f))) r
      (let vars = length r.written in
      let after = with_symbols sig (symbol_entry (name_in text n) vars (sorts_of bs) None Free ∷ []) in
      let env = reverse (bindings F law m text bs) ++ [] in
      let k = length sig.symbols in
      let head = apply (head.Symbol k) (rigids 0 vars) (formal_args bs) in
      let args = map (put_sort (rigids 0 vars)) (map generalize (sorts_of bs)) in
      makes_under (ClaimFits F law m text env) (as_formula (with_block bs (scope_of text after)) (part_of e))
      (λ f. drafted after place false (name_in text n) (defining bs n head (equivalence (predicate k (rigids 0 vars) (formal_args bs)) f))) r
      (λ u. in_formula F law m text env (with_block bs (scope_of text after)) (part_of e) r (inside F law m text [] bs (scope_of text after) p r g (root after p u) f.new) (tree_fits F law m text t))
      (λ x v j y. makes_draft after place false (name_in text n) (defining bs n head (equivalence (predicate k (rigids 0 vars) (formal_args bs)) x)) v
      (λ u. let is = head_predicate sig n bs vars None r refl u p.next f refl in
      let sorted = formal_sorts sig n bs vars None r refl u p.next f in
      let fit = own_fits sig n bs vars None r refl u p.next f vars 0 in
      defining_fits bs n head (equivalence (predicate k (rigids 0 vars) (formal_args bs)) x) f.new.fit
      (more_triggers env n (more head none) no_pattern (more_terms env head none (a_predicate_term env k (rigids 0 vars) (formal_args bs) args fit is sorted) (no_terms env)) (no_triggers env))
      (fits_equivalence env (predicate k (rigids 0 vars) (formal_args bs)) x (fits_predicate env k (rigids 0 vars) (formal_args bs) args fit is sorted) y))))))

  statement_makes : (sig : Signature) (place : Span) (is_goal : Bool) (n : Span) (e : Expr) (p : Passed) → IsTree text e → Makes p (statement_decl text sig place is_goal n e)
  statement_makes sig place is_goal n e p t =
      makes_under (ClaimFits F law m text []) (as_formula (scope_of text sig) (part_of e)) (λ f. drafted sig place is_goal (name_in text n) f) p
      (λ u. in_formula F law m text [] (scope_of text sig) (part_of e) p (root sig p u) (tree_fits F law m text t))
      (λ f q g x. makes_draft sig place is_goal (name_in text n) f q (λ u. x))

  kind_makes : (sig : Signature) (place : Span) (k : DeclKind) (p : Passed) → IsKind text k → Makes p (kind_rule text sig place k)
  kind_makes sig place (kind.Type ps n fs) p a = type_makes sig ps n fs p a.2
  kind_makes sig place (kind.Enumeration n cs) p a = enumeration_makes sig n cs p
  kind_makes sig place (kind.Logic ac ns ws r) p a = logic_makes sig place ac ns ws r p a.1 a.2
  kind_makes sig place (kind.Function n fs w e) p a = function_makes sig place n fs w e p a.1 a.2 a.3
  kind_makes sig place (kind.Predicate n fs e) p a = predicate_makes sig place n fs e p a.1 a.2
  kind_makes sig place (kind.Axiom n e) p a = statement_makes sig place false n e p a.1
  kind_makes sig place (kind.Goal n e) p a = statement_makes sig place true n e p a.1

  pub decls_make : (sig : Signature) (ds : List Decl) (p : Passed) → AllByRecursion (IsDeclaration text) ds → Makes p (decls_rule text sig ds)
  decls_make sig [] p a = makes_nothing sig p
  decls_make sig (d ∷ ds) p a = record {
    by = λ c u. let r = decl_rule text sig d p in
        let rest = decls_rule text r.value.signature ds r.passed in
        let c1 = all_front (IsMetOne m) r.conditions (rest.conditions ++ []) c in
        let c2 = all_front (IsMetOne m) rest.conditions [] (all_back (IsMetOne m) r.conditions (rest.conditions ++ []) c) in
        let one = (kind_makes sig d.span d.kind (record { next = p.next; written = [] }) a.0.kind).by c1 (decls_before F text r.value.signature ds r.passed u) in
        let others = (decls_make r.value.signature ds r.passed a.1).by c2 u in
        record {
          fit = all_append (FitCondition F) r.conditions (rest.conditions ++ []) one.fit (all_append (FitCondition F) rest.conditions [] others.fit tt);
          drafts = all_append DraftFits r.value.drafts rest.value.drafts one.drafts others.drafts;
        };
  }
