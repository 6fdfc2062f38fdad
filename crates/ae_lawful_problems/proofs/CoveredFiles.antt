-- Where its conditions are met, a parsed file has axioms and goals whose triggers may stand.
use Rattle.std.proofs.Common.{arith, ◌≡◌, ◌∙◌, ◌≤◌, ℕ, suc, Bool, true, false, not, ◌||◌, nat_eq, List, [], ◌∷◌, ◌++◌, map, length, refl, sym}
use Rattle.std.proofs.Common.{ap, subst, Some, None}
use Rattle.std.specs.List.{AllByRecursion, list_any, list_all}
use Rattle.std.proofs.lemmas.Bool.{and_from, or_right, eq-eqb}
use Rattle.std.proofs.lemmas.List.{length-map, append-nil}
use Rattle.ae_base.proofs.AllOf.{all_append, all_front, all_back}
use Rattle.ae_core.specs.declared.terms.Sort.{Sort}
use Rattle.ae_core.specs.declared.terms.Head.{Head}
use Rattle.ae_core.specs.declared.terms.Head.TheVariants as head
use Rattle.ae_core.specs.declared.problems.Signature.{Signature}
use Rattle.ae_core.specs.declared.problems.FieldEntry.{FieldEntry}
use Rattle.ae_core.specs.declared.problems.Kind.TheVariants.{Abstract, Choices, Fields}
use Rattle.ae_core.specs.declared.problems.Nature.TheVariants.{Free}
use Rattle.ae_syntax.specs.declared.spans.Span.{Span}
use Rattle.ae_syntax.specs.declared.types.WrittenType.{WrittenType}
use Rattle.ae_syntax.specs.declared.exprs.Expr.{Expr}
use Rattle.ae_syntax.specs.declared.decls.TypedName.{TypedName}
use Rattle.ae_syntax.specs.declared.decls.SymbolResult.{SymbolResult}
use Rattle.ae_syntax.specs.declared.decls.Decl.{Decl}
use Rattle.ae_syntax.specs.declared.decls.DeclKind.{DeclKind}
use Rattle.ae_syntax.specs.declared.decls.DeclKind.TheVariants as kind
use Rattle.ae_elab.specs.declared.faults.TypeFault.TheVariants as fault
use Rattle.ae_elab.specs.declared.grounds.Ground.TheVariants as ground
use Rattle.ae_elab.specs.Conditions.{test}
use Rattle.ae_elab.specs.Trees.{Tree, Claim, none, more, equal, apply, relation, predicate, equivalence}
use Rattle.ae_elab.specs.Trees.{variables_among, have_choice}
use Rattle.ae_elab.specs.Scope.{name_in, is_among}
use Rattle.ae_elab.specs.Rules.{Passed, Rule, give, ◌>>◌, each, fresh, count_written, as_formula, wanted}
use Rattle.ae_elab.specs.WrittenTypes.{type_rule}
use Rattle.ae_elab.specs.Formulas.{Bound, with_block, covers}
use Rattle.ae_elab.specs.Expressions.{part_of}
use Rattle.ae_elab.specs.Declarations.{Draft, Declared, declared, drafted, twice, new_type, new_symbol, all_different, with_types, with_symbols}
use Rattle.ae_elab.specs.Declarations.{type_entry}
use Rattle.ae_elab.specs.Declarations.{symbol_entry, scope_of, fields_rule, type_decl, constructors_from, new_symbols, count_from, enumeration_decl}
use Rattle.ae_elab.specs.Declarations.{result_rule}
use Rattle.ae_elab.specs.Declarations.{may_be_ac, nature_of, logic_decl, formals_rule, rigids, sorts_of, formal_args, defining, function_decl}
use Rattle.ae_elab.specs.Declarations.{predicate_decl}
use Rattle.ae_elab.specs.Declarations.{statement_decl, kind_rule, decl_rule, decls_rule}
use Rattle.ae_typed_laws.proofs.ParsedTrees.{IsWritten, IsTree, IsTypedName, IsKind, IsDeclaration}
use Rattle.ae_typed_laws.proofs.MetConditions.{IsMetOne, Gives, gives_value, gives_then, gives_after, Ends, ends_then, ends_whatever, ends_after}
use Rattle.ae_typed_laws.proofs.MetConditions.{ends_after_all}
use Rattle.ae_typed_laws.proofs.MetConditions.{Grows, grows_then}
use Rattle.ae_lawful_problems.proofs.CoveredTrees.{bound_in, AreApplied, CoveredTerm, CoveredTerms, Covered, IsAlone}
use Rattle.ae_lawful_problems.proofs.CoveredRules.{ClaimCovered, alone, TreeCovered, Whatever, Stands, below_later, covers_formula}
use Rattle.ae_lawful_problems.proofs.CoveredRules.{covers_wanted, grows_written}
use Rattle.ae_lawful_problems.proofs.CoveredFormulas.{distinct_append, distinct_none, plainly, numbers_of, NewNumbers, no_numbers, more_numbers}
use Rattle.ae_lawful_problems.proofs.CoveredFormulas.{one_number}
use Rattle.ae_lawful_problems.proofs.CoveredFormulas.{lower_numbers, inside_block}
use Rattle.ae_lawful_problems.proofs.CoveredParts.{tree_covered}

-- ---- the defined symbol, applied to its formals
formals_covered : (bs : List Bound) → CoveredTerms (formal_args bs)
formals_covered [] = tt
formals_covered (b ∷ bs) = (tt, formals_covered bs)

formals_plain : (bs : List Bound) → have_choice (formal_args bs) ≡ false
formals_plain [] = refl
formals_plain (b ∷ bs) = formals_plain bs

formal_variables : (bs : List Bound) → variables_among (formal_args bs) ≡ numbers_of bs
formal_variables [] = refl
formal_variables (b ∷ bs) = ap (λ xs. b.number ∷ xs) (formal_variables bs)

each_among : (xs ys : List ℕ) → ((x : ℕ) → list_any (nat_eq x) xs ≡ true → list_any (nat_eq x) ys ≡ true) → list_all (λ x. list_any (nat_eq x) ys) xs ≡ true
each_among [] ys f = refl
each_among (x ∷ xs) ys f =
    and_from (list_any (nat_eq x) ys) (list_all (λ x. list_any (nat_eq x) ys) xs) (f x (ap (λ b. b || list_any (nat_eq x) xs) (eq-eqb x x refl)))
    (each_among xs ys (λ y h. f y (or_right (nat_eq y x) (list_any (nat_eq y) xs) h)))

among_more : (x : ℕ) (xs : List ℕ) → list_any (nat_eq x) xs ≡ true → list_any (nat_eq x) (xs ++ []) ≡ true
among_more x xs h = subst (λ (ys : List ℕ). list_any (nat_eq x) ys ≡ true) (sym (append-nil xs)) h

module _ (bs : List Bound) (h : Head) (ss : List Sort) where
  abbrev applied : Tree
  applied = apply h ss (formal_args bs)

  formals_applied : AreApplied (more applied none)
  formals_applied = (ap not (formals_plain bs), tt)

  formals_cover : covers (numbers_of bs) (more applied none) ≡ true
  formals_cover =
      each_among (numbers_of bs) (variables_among (formal_args bs) ++ [])
      (λ x k. among_more x (variables_among (formal_args bs)) (subst (λ (ys : List ℕ). list_any (nat_eq x) ys ≡ true) (sym (formal_variables bs)) k))

-- the axiom of a definition
defining_alone : (bs : List Bound) (place : Span) (t : Tree) (f : Claim) (low : ℕ) (q : Passed) → NewNumbers low bs q → CoveredTerm t → AreApplied (more t none)
    → covers (numbers_of bs) (more t none) ≡ true → Covered None f → bound_in f ≡ [] → IsAlone (defining bs place t f)
defining_alone [] place t f low q n h a c k e = alone (plainly {outer = []} {around = None} {f = f} {q = q} e k)
defining_alone (b ∷ bs) place t f low q n h a c k e =
    let xs = numbers_of (b ∷ bs) in
    let w = plainly {outer = xs} {around = None} {f = f} {q = q} e k in
    record {
      fine = (length-map (b ∷ bs) (λ (b : Bound). b.number) ∙ sym (length-map (b ∷ bs) (λ (b : Bound). b.sort)), (record { fine = (h, tt); applied = a; covers = c }, tt), k);
      distinct = distinct_append xs (bound_in f) n.distinct w.distinct w.apart;
    }

module _ (m : ℕ → Sort) (text : List ℕ) where
  abbrev pub DraftAlone : Draft → Type 0
  DraftAlone d = IsAlone d.claim

  abbrev Drafts : Declared → Type 0
  Drafts d = AllByRecursion DraftAlone d.drafts

  nothing : (sig : Signature) (p : Passed) → Ends m p Drafts (declared sig)
  nothing sig p = record { by = λ c. tt }

  one_draft : (sig : Signature) (place : Span) (is_goal : Bool) (name : List ℕ) (f : Claim) (p : Passed) → IsAlone f → Ends m p Drafts (drafted sig place is_goal name f)
  one_draft sig place is_goal name f p h = record { by = λ c. (h, tt) }

  counted : (f : ℕ → Rule Declared) (p : Passed) → Ends m p Drafts (f (length p.written)) → Ends m p Drafts (count_written >> f)
  counted f p h = record { by = λ c. h.by c }

  root : (sig : Signature) (p : Passed) → Stands m text [] p (scope_of text sig)
  root sig p = record { text_is = refl; locals = tt; below = tt }

  -- ---- types and symbols
  type_ends : (sig : Signature) (ps : List Span) (n : Span) (fs : List TypedName) (p : Passed) → Ends m p Drafts (type_decl text sig ps n fs)
  type_ends sig ps n [] p =
      ends_after_all m Drafts (all_different text [] ps) _ p
      (λ c. ends_after m Drafts (new_type text sig n) _ p (λ d. nothing (with_types sig (type_entry (name_in text n) (length ps) Abstract ∷ [])) p))
  type_ends sig ps n (x ∷ xs) p =
      let entry = λ (fs : List FieldEntry). type_entry (name_in text n) (length ps) (Fields fs) in
      let g = ground.InField (map (name_in text) ps) (length sig.types) in
      ends_after_all m Drafts (all_different text [] ps) _ p
      (λ c. ends_after m Drafts (new_type text sig n) _ p
      (λ d. ends_whatever m Drafts (fields_rule text sig g entry [] (x ∷ xs)) (λ fs. declared (with_types sig (entry fs ∷ []))) p
      (λ fs q. nothing (with_types sig (entry fs ∷ [])) q)))

  enumeration_ends : (sig : Signature) (n : Span) (cs : List Span) (p : Passed) → Ends m p Drafts (enumeration_decl text sig n cs)
  enumeration_ends sig n cs p =
      let entry = type_entry (name_in text n) 0 (Choices (count_from (length sig.symbols) cs)) in
      ends_after m Drafts (new_type text sig n) _ p
      (λ c. ends_after_all m Drafts (new_symbols text sig [] cs) _ p
      (λ d. nothing (with_symbols (with_types sig (entry ∷ [])) (constructors_from text (length sig.types) 0 cs)) p))

  logic_ends : (sig : Signature) (place : Span) (ac : Bool) (ns : List Span) (ws : List WrittenType) (r : SymbolResult) (p : Passed)
      → Ends m p Drafts (logic_decl text sig place ac ns ws r)
  logic_ends sig place ac ns ws r p =
      ends_after_all m Drafts (new_symbols text sig [] ns) _ p
      (λ c. ends_whatever m Drafts (each (λ w. type_rule w ground.Free (scope_of text sig)) ws) _ p
      (λ ss q. ends_whatever m Drafts (result_rule text sig r.sort) _ q
      (λ o u. ends_after m Drafts (test (may_be_ac ac ss o) (fault.BadAc place.from place.to)) _ u
      (λ d. ends_whatever m Drafts count_written _ u
      (λ n v. nothing (with_symbols sig (map (λ x. symbol_entry (name_in text x) n ss o (nature_of ac)) ns)) v)))))

  -- ---- definitions and statements
  formal_numbers : (sig : Signature) (seen : List (List ℕ)) (xs : List TypedName) (p : Passed) → AllByRecursion (IsTypedName text) xs
      → Gives m p (NewNumbers p.next) (formals_rule text sig seen xs)
  formal_numbers sig seen [] p a = gives_value m (NewNumbers p.next) [] p (no_numbers m text p)
  formal_numbers sig seen (x ∷ xs) p a =
      let one : Sort → ℕ → Bound = λ s n. record { name = name_in text x.name; number = n; sort = s } in
      gives_after m (NewNumbers p.next) (test (not (is_among (name_in text x.name) seen)) (twice text x.name)) _ p
      (λ c. gives_then m (λ s q. p.next ≤ q.next) (NewNumbers p.next) (type_rule x.sort ground.Free (scope_of text sig)) _ p
      (let w = grows_written m text [] (scope_of text sig) x.sort p (root sig p) a.0.sort in record { by = λ c. let y = w.by c in record { grows = y.grows; value = y.grows.next } })
      (λ s q g l. gives_then m (λ n r. (n ≡ q.next) × (r.next ≡ suc q.next)) (NewNumbers p.next) fresh _ q
      (record { by = λ c. record { grows = record { next = omega arith; written = omega arith }; value = (refl, refl) } })
      (λ n r i e. gives_then m (NewNumbers r.next) (NewNumbers p.next) (formals_rule text sig (name_in text x.name ∷ seen) xs) (λ bs. give (one s n ∷ bs)) r
      (formal_numbers sig (name_in text x.name ∷ seen) xs r a.1)
      (λ bs t j k. gives_value m (NewNumbers p.next) (one s n ∷ bs) t
      (more_numbers m text p.next (one s n ∷ []) bs r t (let y = e.1 in omega (arith, l, y)) j
      (lower_numbers m text p.next q.next (one s n ∷ []) r l (one_number m text (one s n) q r e.0 e.1)) k)))))

  numbers_later : (low : ℕ) (bs : List Bound) (q r : Passed) → Grows m q r → NewNumbers low bs q → NewNumbers low bs r
  numbers_later low bs q r g n = record { above = n.above; below = below_later m text q r (numbers_of bs) g n.below; distinct = n.distinct }

  function_ends : (sig : Signature) (place n : Span) (fs : List TypedName) (w : WrittenType) (e : Expr) (p : Passed) → AllByRecursion (IsTypedName text) fs → IsWritten text w
      → IsTree text e → Ends m p Drafts (function_decl text sig place n fs w e)
  function_ends sig place n fs w e p a b t =
      ends_after m Drafts (new_symbol text sig n) _ p
      (λ c. ends_then m (NewNumbers p.next) Drafts (formals_rule text sig [] fs) _ p (formal_numbers sig [] fs p a)
      (λ bs q g k. ends_then m Whatever Drafts (type_rule w ground.Free (scope_of text sig)) _ q (grows_written m text [] (scope_of text sig) w q (root sig q) b)
      (λ s r i f. counted
      (λ vars. let after = with_symbols sig (symbol_entry (name_in text n) vars (sorts_of bs) (Some s) Free ∷ []) in
      wanted (with_block bs (scope_of text after)) s (part_of e) >> λ t.
      let head = apply (head.Symbol (length sig.symbols)) (rigids 0 vars) (formal_args bs) in
      drafted after place false (name_in text n) (defining bs n head (relation equal head t))) r
      (let vars = length r.written in
      let after = with_symbols sig (symbol_entry (name_in text n) vars (sorts_of bs) (Some s) Free ∷ []) in
      let h = head.Symbol (length sig.symbols) in
      let own = rigids 0 vars in
      let news = numbers_later p.next bs q r i k in
      ends_then m TreeCovered Drafts (wanted (with_block bs (scope_of text after)) s (part_of e)) _ r
      (covers_wanted m text (numbers_of bs ++ []) (with_block bs (scope_of text after)) s (part_of e) r
      (inside_block m text [] bs (scope_of text after) p r (grows_then m p q r g i) (root after p) news) (tree_covered m text t))
      (λ u v j x. one_draft after place false (name_in text n) (defining bs n (applied bs h own) (relation equal (applied bs h own) u)) v
      (defining_alone bs n (applied bs h own) (relation equal (applied bs h own) u) p.next r news (formals_covered bs) (formals_applied bs h own) (formals_cover bs h own)
      (formals_covered bs, x) refl))))))

  predicate_ends : (sig : Signature) (place n : Span) (fs : List TypedName) (e : Expr) (p : Passed) → AllByRecursion (IsTypedName text) fs → IsTree text e
      → Ends m p Drafts (predicate_decl text sig place n fs e)
  predicate_ends sig place n fs e p a t =
      ends_after m Drafts (new_symbol text sig n) _ p
      (λ c. ends_then m (NewNumbers p.next) Drafts (formals_rule text sig [] fs) _ p (formal_numbers sig [] fs p a)
      (λ bs r g news. counted
      (λ vars. let after = with_symbols sig (symbol_entry (name_in text n) vars (sorts_of bs) None Free ∷ []) in
      as_formula (with_block bs (scope_of text after)) (part_of e) >> λ f.
      let k = length sig.symbols in
      drafted after place false (name_in text n) (defining bs n (apply (head.Symbol k) (rigids 0 vars) (formal_args bs)) (equivalence (predicate k (rigids 0 vars) (formal_args bs)) f))) r
      (let vars = length r.written in
      let after = with_symbols sig (symbol_entry (name_in text n) vars (sorts_of bs) None Free ∷ []) in
      let k = length sig.symbols in
      let own = rigids 0 vars in
      let top = predicate k own (formal_args bs) in
      let head_tree = applied bs (head.Symbol k) own in
      ends_then m (ClaimCovered (numbers_of bs ++ []) None) Drafts (as_formula (with_block bs (scope_of text after)) (part_of e)) _ r
      (covers_formula m text (numbers_of bs ++ []) (with_block bs (scope_of text after)) (part_of e) r
      (inside_block m text [] bs (scope_of text after) p r g (root after p) news) (tree_covered m text t))
      (λ f v j x. one_draft after place false (name_in text n) (defining bs n head_tree (equivalence top f)) v
      (defining_alone bs n head_tree (equivalence top f) p.next r news (formals_covered bs) (formals_applied bs (head.Symbol k) own) (formals_cover bs (head.Symbol k) own)
      (record { fine = formals_covered bs; distinct = distinct_none }, alone x) refl)))))

  statement_ends : (sig : Signature) (place : Span) (is_goal : Bool) (n : Span) (e : Expr) (p : Passed) → IsTree text e → Ends m p Drafts (statement_decl text sig place is_goal n e)
  statement_ends sig place is_goal n e p t =
      ends_then m (ClaimCovered [] None) Drafts (as_formula (scope_of text sig) (part_of e)) _ p
      (covers_formula m text [] (scope_of text sig) (part_of e) p (root sig p) (tree_covered m text t))
      (λ f q g x. one_draft sig place is_goal (name_in text n) f q (alone x))

  kind_ends : (sig : Signature) (place : Span) (k : DeclKind) (p : Passed) → IsKind text k → Ends m p Drafts (kind_rule text sig place k)
  kind_ends sig place (kind.Type ps n fs) p a = type_ends sig ps n fs p
  kind_ends sig place (kind.Enumeration n cs) p a = enumeration_ends sig n cs p
  kind_ends sig place (kind.Logic ac ns ws r) p a = logic_ends sig place ac ns ws r p
  kind_ends sig place (kind.Function n fs w e) p a = function_ends sig place n fs w e p a.1 a.2 a.3
  kind_ends sig place (kind.Predicate n fs e) p a = predicate_ends sig place n fs e p a.1 a.2
  kind_ends sig place (kind.Axiom n e) p a = statement_ends sig place false n e p a.1
  kind_ends sig place (kind.Goal n e) p a = statement_ends sig place true n e p a.1

  pub drafts_alone : (sig : Signature) (ds : List Decl) (p : Passed) → AllByRecursion (IsDeclaration text) ds → Ends m p Drafts (decls_rule text sig ds)
  drafts_alone sig [] p a = nothing sig p
  drafts_alone sig (d ∷ ds) p a = record {
    by = λ c. let r = decl_rule text sig d p in
        let rest = decls_rule text r.value.signature ds r.passed in
        let c1 = all_front (IsMetOne m) r.conditions (rest.conditions ++ []) c in
        let c2 = all_front (IsMetOne m) rest.conditions [] (all_back (IsMetOne m) r.conditions (rest.conditions ++ []) c) in
        all_append DraftAlone r.value.drafts rest.value.drafts ((kind_ends sig d.span d.kind (record { next = p.next; written = [] }) a.0.kind).by c1)
        ((drafts_alone r.value.signature ds r.passed a.1).by c2);
  }
