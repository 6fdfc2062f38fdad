-- Two texts in which the names of a tree are the same state the same of it.
use Rattle.std.proofs.Common.{◌≡◌, ◌∙◌, ℕ, not, ◌&&◌, nat_eq, List, [], ◌∷◌, ◌++◌, map, reverse, length, refl, sym, ap, subst, Option, Some, None}
use Rattle.std.specs.List.{AllByRecursion, list_any}
use Rattle.std.specs.Str.{bytes_eq}
use Rattle.ae_base.proofs.AllOf.{all_front, all_back}
use Rattle.ae_core.specs.declared.terms.Sort.{Sort, Unit as UnitSort, Named as NamedSort}
use Rattle.ae_core.specs.declared.terms.Head.TheVariants as head
use Rattle.ae_core.specs.declared.terms.Op.{Op}
use Rattle.ae_core.specs.declared.terms.Op.TheVariants as op
use Rattle.ae_core.specs.declared.problems.Signature.{Signature}
use Rattle.ae_core.specs.declared.problems.SymbolEntry.{SymbolEntry}
use Rattle.ae_core.specs.Putting.{put_sort}
use Rattle.ae_syntax.specs.declared.spans.Span.{Span}
use Rattle.ae_syntax.specs.declared.types.WrittenType.{WrittenType}
use Rattle.ae_syntax.specs.declared.types.TypeKind as type_kind
use Rattle.ae_syntax.specs.declared.exprs.BinaryOp.{BinaryOp}
use Rattle.ae_syntax.specs.declared.exprs.BinaryOp.TheVariants as binary
use Rattle.ae_syntax.specs.declared.exprs.Quantifier.{Quantifier}
use Rattle.ae_syntax.specs.declared.exprs.Expr.{Expr}
use Rattle.ae_syntax.specs.declared.exprs.ExprKind.{ExprKind}
use Rattle.ae_syntax.specs.declared.exprs.ExprKind as kind
use Rattle.ae_syntax.specs.declared.exprs.Group.{Group}
use Rattle.ae_syntax.specs.declared.exprs.Setting.{Setting, roll-Setting, fold-roll-Setting}
use Rattle.ae_syntax.specs.declared.exprs.Trigger.{Trigger, roll-Trigger, fold-roll-Trigger}
use Rattle.ae_syntax.specs.Parts.{expression}
use Rattle.ae_elab.specs.declared.faults.TypeFault.TheVariants as fault
use Rattle.ae_elab.specs.declared.fields.FieldPlace.{FieldPlace}
use Rattle.ae_elab.specs.declared.numbers.Numbers.{Numbers}
use Rattle.ae_elab.specs.declared.numbers.Numbers.TheVariants.{IntOrReal}
use Rattle.ae_elab.specs.declared.grounds.Ground.{Ground}
use Rattle.ae_elab.specs.declared.grounds.Ground.TheVariants as ground
use Rattle.ae_elab.specs.Conditions.{test, has_sort, has_operand_sort, may_be, becomes}
use Rattle.ae_elab.specs.Names.{joined, names_in_type, names_in_group, kind_names_step, expr_names_step, set_names_step, trigger_names_step, names_in, names_in_form, names_in_set, names_in_trigger}
use Rattle.ae_elab.specs.Trees.{Tree, Claim, Relation, equal, unequal, less, at_most, greater, at_least, none, more, and_pattern, truth, falsity, relation, distinct, negation}
use Rattle.ae_elab.specs.Trees.{conjunction, disjunction, exclusion, equivalence, implication, conditional, quantified, apply, operation, build, update, choice, constant, pattern_of, has_choice, is_application}
use Rattle.ae_elab.specs.Trees.{predicate}
use Rattle.ae_elab.specs.Scope.{Scope, Class, formula, either, term, a_variable, a_term, a_formula, Local, Named, bound, function, unknown, meaning_of, class_of_named, join, of_class}
use Rattle.ae_elab.specs.Scope.{predicate as predicate_name, name_in, name_at, is_among, type_number, field_place, first_place, named, scope_with}
use Rattle.ae_elab.specs.Rules.{Rule, give, ◌>>◌, ◌⇒◌, all_of, refuse, each, fresh, unknowns, written_variable, Typed, typed, no_term, Around, Part, Set, wanted, all_wanted}
use Rattle.ae_elab.specs.WrittenTypes.{TypeRule, type_rule, variable_rule, parameter, named_rule}
use Rattle.ae_elab.specs.Terms.{numeral_rule, numbers_of, operands, operation_rule, negative_rule, ascribed_rule, choice_rule, application_rule}
use Rattle.ae_elab.specs.Terms.{function_rule, fields_at, arity_at, with_field, field_rule, field_sort, no_values, values_rule, with_type, record_rule, update_rule}
use Rattle.ae_elab.specs.Formulas.{truth_rule, equation_rule, inequality_rule, of_one_sort, distinct_rule, connective_rule, conditional_rule, predicate_rule, Bound, local_of}
use Rattle.ae_elab.specs.Formulas.{all_new, groups_rule, variable_of, merged_with, covering, untested, pattern_rule, patterns_rule, first_place_of, triggers_rule, around_body, block_rule}
use Rattle.ae_elab.specs.Expressions.{formula_in_term, a_term_part, a_formula_part, constant_part, bracketed_part, bind, let_part, if_part, name_term, name_formula, name_part}
use Rattle.ae_elab.specs.Expressions.{binary_part, part_of, kind_part, set_of, trigger_of}
use Rattle.ae_elab.proofs.NamesInRules.{in_built, in_binary, in_not, in_negative, in_quantified, in_let, in_if, in_field, in_apply, in_bracketed, in_ascribed, in_distinct, in_record, in_update}
use Rattle.ae_elab.proofs.NamesInRules.{in_type_built, in_type_var, in_type_named}
use Rattle.ae_elab.proofs.PartRules.{kind_binary, kind_not, kind_negative, kind_quantified, kind_let, kind_if, kind_field, kind_apply, kind_numeral}
use Rattle.ae_elab.proofs.PartRules.{kind_true, kind_false, kind_void, kind_bracketed, kind_ascribed, kind_distinct, kind_record, kind_update}
use Rattle.ae_typed_laws.proofs.BuiltRules.{int_rule, real_rule, bool_rule, unit_rule, var_rule, named_type_rule, built_part, built_setting, built_trigger}
use Rattle.ae_typed_laws.proofs.ParsedTrees.{IsWritten, AreWritten, is_int, is_real, is_bool, is_unit, is_var, is_named, and_type, no_types, IsGroup}
use Rattle.ae_typed_laws.proofs.ParsedTrees.{IsTree, is_binary, is_not, is_negative, is_quantified, is_let, is_if, is_field, is_apply, is_numeral, is_true, is_false, is_void, is_bracketed}
use Rattle.ae_typed_laws.proofs.ParsedTrees.{is_ascribed, is_distinct, is_record, is_update, AreTrees, no_trees, and_tree, AreTriggers, no_triggers, and_trigger, AreSettings, no_settings, and_setting}

-- ---- the names of triggers and settings
in_rolled_trigger : (s : Span) (es : List Expr) → names_in_trigger (roll-Trigger (record { span = s; terms = es })) ≡ joined (map names_in es)
unfolding names_in names_in_form names_in_set names_in_trigger
in_rolled_trigger s es = fold-roll-Trigger (List Span) (List Span) (List Span) (List Span) kind_names_step expr_names_step set_names_step trigger_names_step (record { span = s; terms = es })

in_rolled_setting : (s n : Span) (e : Expr) → names_in_set (roll-Setting (record { span = s; name = n; value = e })) ≡ n ∷ names_in e
unfolding names_in names_in_form names_in_set names_in_trigger
in_rolled_setting s n e = fold-roll-Setting (List Span) (List Span) (List Span) (List Span) kind_names_step expr_names_step set_names_step trigger_names_step (record { span = s; name = n; value = e })

module _ (text other : List ℕ) where
  -- the same name stands there in both texts
  abbrev pub Kept : Span → Type 0
  Kept s = name_in text s ≡ name_in other s

  abbrev pub AreKept : List Span → Type 0
  AreKept = AllByRecursion Kept

  -- places of the one text, and of the other
  abbrev pub here : Signature → List Local → Scope
  here sig ls = scope_with text sig ls

  abbrev pub there : Signature → List Local → Scope
  there sig ls = scope_with other sig ls

  -- ---- types
  abbrev pub SameType : TypeRule → Type 0
  SameType r = (g : Ground) (sig : Signature) (ls : List Local) → r g (here sig ls) ≡ r g (there sig ls)

  same_parameter : (sig : Signature) (ls : List Local) (s : Span) → Kept s → (o : Option ℕ) → parameter (here sig ls) s o ≡ parameter (there sig ls) s o
  same_parameter sig ls s k (Some n) = refl
  same_parameter sig ls s k None = λ i. refuse (fault.UnknownName (k i) s.from s.to) UnitSort

  same_variable : (g : Ground) (sig : Signature) (ls : List Local) (s : Span) → Kept s → variable_rule g (here sig ls) s ≡ variable_rule g (there sig ls) s
  same_variable ground.Free sig ls s k = λ i. written_variable (k i)
  same_variable (ground.InField params own) sig ls s k = λ i. same_parameter sig ls s k (first_place (bytes_eq (k i)) params) i

  same_named : (g : Ground) (sig : Signature) (ls : List Local) (s : Span) → Kept s → (args : List Sort) (o : Option ℕ)
      → named_rule g (here sig ls) s args o ≡ named_rule g (there sig ls) s args o
  same_named g sig ls s k args None = λ i. refuse (fault.UnknownName (k i) s.from s.to) UnitSort
  same_named g sig ls s k args (Some h) = refl

  same_types : (g : Ground) (sig : Signature) (ls : List Local) (rs : List TypeRule) → AllByRecursion SameType rs
      → each (λ r. r g (here sig ls)) rs ≡ each (λ r. r g (there sig ls)) rs
  same_types g sig ls [] h = refl
  same_types g sig ls (r ∷ rs) h = λ i. (h.0 g sig ls i >> λ y. same_types g sig ls rs h.1 i >> λ ys. give (y ∷ ys))

  mutual
    pub same_type : {w : WrittenType} → IsWritten text w → AreKept (names_in_type w) → SameType (type_rule w)
    same_type (is_int s) k = subst SameType (sym (int_rule s)) (λ g sig ls. refl)
    same_type (is_real s) k = subst SameType (sym (real_rule s)) (λ g sig ls. refl)
    same_type (is_bool s) k = subst SameType (sym (bool_rule s)) (λ g sig ls. refl)
    same_type (is_unit s) k = subst SameType (sym (unit_rule s)) (λ g sig ls. refl)
    same_type (is_var s h) k =
        let e = subst AreKept (in_type_built s type_kind.Var ∙ in_type_var s) k in
        subst SameType (sym (var_rule s)) (λ g sig ls. same_variable g sig ls s e.0)
    same_type (is_named s n ws h a) k =
        let e = subst AreKept (in_type_built s (type_kind.Named n ws) ∙ in_type_named s n ws) k in
        subst SameType (sym (named_type_rule s n ws))
        (λ g sig ls. λ i. (same_types g sig ls (map type_rule ws) (same_written a e.1) i >> λ ss. same_named g sig ls n e.0 ss (type_number sig (e.0 i)) i))

    pub same_written : {ws : List WrittenType} → AreWritten text ws → AreKept (joined (map names_in_type ws)) → AllByRecursion SameType (map type_rule ws)
    same_written no_types k = tt
    same_written (and_type w ws h a) k =
        (same_type h (all_front Kept (names_in_type w) (joined (map names_in_type ws)) k), same_written a (all_back Kept (names_in_type w) (joined (map names_in_type ws)) k))

  -- ---- parts
  pub record SamePart (e : Part) : Type 0 where
    pub class : (sig : Signature) (ls : List Local) → e.class (here sig ls) ≡ e.class (there sig ls)
    pub term : (sig : Signature) (ls : List Local) (at : Span) → e.term (here sig ls) at ≡ e.term (there sig ls) at
    pub formula : (sig : Signature) (ls : List Local) (around : Around) (at : Span) → e.formula (here sig ls) around at ≡ e.formula (there sig ls) around at

  record SameSet (x : Set) : Type 0 where
    name : Kept x.name
    value : SamePart x.value

  abbrev Parts : List Part → Type 0
  Parts = AllByRecursion SamePart

  abbrev Sets : List Set → Type 0
  Sets = AllByRecursion SameSet

  module _ (sig : Signature) (ls : List Local) where
    -- ---- terms
    pub same_wanted : (s : Sort) (e : Part) → SamePart e → wanted (here sig ls) s e ≡ wanted (there sig ls) s e
    same_wanted s e h = λ i. (h.term sig ls e.place i >> λ t. has_sort e.place s t.sort ⇒ give t.tree)

    same_all_wanted : (ss : List Sort) (es : List Part) → Parts es → all_wanted (here sig ls) ss es ≡ all_wanted (there sig ls) ss es
    same_all_wanted [] es h = refl
    same_all_wanted (s ∷ ss) [] h = refl
    same_all_wanted (s ∷ ss) (e ∷ es) h = λ i. (same_wanted s e h.0 i >> λ t. same_all_wanted ss es h.1 i >> λ ts. give (more t ts))

    same_operands : (n : Numbers) (a b : Part) → SamePart a → SamePart b → operands (here sig ls) n a b ≡ operands (there sig ls) n a b
    same_operands n a b h k = λ i. (h.term sig ls a.place i >> λ s. may_be a.place n s.sort ⇒ k.term sig ls b.place i >> λ t.
        may_be a.place n s.sort ⇒ has_operand_sort b.place s.sort t.sort ⇒ may_be b.place IntOrReal t.sort ⇒ becomes a.place n s.sort
        ⇒ give (s, t.tree))

    same_operation : (o : Op) (a b : Part) → SamePart a → SamePart b → operation_rule o a b (here sig ls) ≡ operation_rule o a b (there sig ls)
    same_operation o a b h k = λ i. (same_operands (numbers_of o) a b h k i >> λ st. give (typed (operation o st.0.sort (more st.0.tree (more st.1 none))) st.0.sort))

    same_negative : (a : Part) → SamePart a → negative_rule a (here sig ls) ≡ negative_rule a (there sig ls)
    same_negative a h = λ i. (h.term sig ls a.place i >> λ s. may_be a.place IntOrReal s.sort ⇒ becomes a.place IntOrReal s.sort
        ⇒ give (typed (operation op.Neg s.sort (more s.tree none)) s.sort))

    same_ascribed : (e : Part) (w : WrittenType) → SamePart e → SameType (type_rule w) → ascribed_rule e w (here sig ls) ≡ ascribed_rule e w (there sig ls)
    same_ascribed e w h k = λ i. (h.term sig ls e.place i >> λ t. k ground.Free sig ls i >> λ s. has_sort e.place s t.sort ⇒ give (typed t.tree s))

    same_choice : (c a b : Part) → SamePart c → SamePart a → SamePart b → choice_rule c a b (here sig ls) ≡ choice_rule c a b (there sig ls)
    same_choice c a b h j k = λ i. (h.formula sig ls None c.place i >> λ f. j.term sig ls a.place i >> λ s. same_wanted s.sort b k i >> λ t.
        give (typed (choice f s.tree t) s.sort))

    same_application : (name : Span) (e : SymbolEntry) (args : List Part) → Parts args → application_rule name e args (here sig ls) ≡ application_rule name e args (there sig ls)
    same_application name e args a = λ i. (test (nat_eq (length args) (length e.args)) (fault.Arity name.from name.to)
        ⇒ unknowns e.vars >> λ ss. same_all_wanted (map (put_sort ss) e.args) args a i >> λ us. give (record { sorts = ss; args = us }))

    same_function : (name : Span) (k : ℕ) (e : SymbolEntry) (s : Sort) (args : List Part) → Parts args → function_rule name k e s args (here sig ls) ≡ function_rule name k e s args (there sig ls)
    same_function name k e s args a = λ i. (same_application name e args a i >> λ x. give (typed (apply (head.Symbol k) x.sorts x.args) (put_sort x.sorts s)))

    -- ---- fields and records
    at_field : {A : Type 0} (x : Span) → Kept x → (y : A) (go to : FieldPlace → Rule A) → ((f : FieldPlace) → go f ≡ to f) → (o : Option FieldPlace)
        → ◌≡◌ {A = Rule A} (elim o [ Some f ↦ go f | None ↦ refuse (fault.UnknownName (name_at (here sig ls) x) x.from x.to) y ])
        (elim o [ Some f ↦ to f | None ↦ refuse (fault.UnknownName (name_at (there sig ls) x) x.from x.to) y ])
    at_field x k y go to h (Some f) = h f
    at_field x k y go to h None = λ i. refuse (fault.UnknownName (k i) x.from x.to) y

    same_field : {A : Type 0} (x : Span) → Kept x → (y : A) (go to : FieldPlace → Rule A) → ((f : FieldPlace) → go f ≡ to f)
        → with_field (here sig ls) x y go ≡ with_field (there sig ls) x y to
    same_field x k y go to h = λ i. at_field x k y go to h (field_place sig (k i)) i

    same_fields_type : {A : Type 0} (xs : List Set) → Sets xs → (y : A) (go to : ℕ → Rule A) → ((n : ℕ) → go n ≡ to n) → with_type (here sig ls) xs y go ≡ with_type (there sig ls) xs y to
    same_fields_type [] a y go to h = refl
    same_fields_type (x ∷ xs) a y go to h = same_field x.name a.0.name y (λ f. go f.of) (λ f. to f.of) (λ f. h f.of)

    same_projection : (e : Part) (x : Span) → SamePart e → Kept x → field_rule e x (here sig ls) ≡ field_rule e x (there sig ls)
    same_projection e x h k =
        let go = λ (t : Typed) (f : FieldPlace). (unknowns (arity_at sig f.of) >> λ ss. has_sort e.place (NamedSort f.of ss) t.sort
        ⇒ give (typed (apply (head.Field f.of f.place) ss (more t.tree none)) (field_sort sig f ss))) in
        λ i. (h.term sig ls e.place i >> λ t. same_field x k no_term (go t) (go t) (λ f. refl) i)

    same_values : (own : Span) (of : ℕ) (ss : List Sort) (got : List ℕ) (xs : List Set) → Sets xs → values_rule own of ss got xs (here sig ls) ≡ values_rule own of ss got xs (there sig ls)
    same_values own of ss got [] a = refl
    same_values own of ss got (x ∷ xs) a =
        same_field x.name a.0.name no_values _ _
        (λ f. λ i. (test (nat_eq f.of of) (fault.MissingField own.from own.to)
        ⇒ test (not (list_any (nat_eq f.place) got)) (fault.Twice (a.0.name i) x.name.from x.name.to)
        ⇒ same_wanted (field_sort sig f ss) x.value a.0.value i >> λ t. same_values own of ss (f.place ∷ got) xs a.1 i >> λ v.
        give (record { places = f.place ∷ v.places; terms = more t v.terms })))

    same_record : (own : Span) (xs : List Set) → Sets xs → record_rule own xs (here sig ls) ≡ record_rule own xs (there sig ls)
    same_record own xs a =
        same_fields_type xs a no_term _ _
        (λ of. λ i. (unknowns (arity_at sig of) >> λ ss. same_values own of ss [] xs a i >> λ v.
        test (nat_eq (length v.places) (length (fields_at sig of))) (fault.MissingField own.from own.to)
        ⇒ give (typed (build of ss (length (fields_at sig of)) v.places v.terms) (NamedSort of ss))))

    abbrev updated : Span → Part → List Set → Scope → Typed → Rule Typed
    updated own base xs sc t =
        with_type sc xs no_term λ of. unknowns (arity_at sc.signature of) >> λ ss. has_sort base.place (NamedSort of ss) t.sort
        ⇒ values_rule own of ss [] xs sc >> λ v.
        give (typed (update of ss (length (fields_at sc.signature of)) t.tree v.places v.terms) (NamedSort of ss))

    same_updated : (own : Span) (base : Part) (xs : List Set) → Sets xs → (t : Typed) → updated own base xs (here sig ls) t ≡ updated own base xs (there sig ls) t
    same_updated own base xs a t =
        same_fields_type xs a no_term _ _
        (λ of. λ i. (unknowns (arity_at sig of) >> λ ss. has_sort base.place (NamedSort of ss) t.sort
        ⇒ same_values own of ss [] xs a i >> λ v.
        give (typed (update of ss (length (fields_at sig of)) t.tree v.places v.terms) (NamedSort of ss))))

    same_update : (own : Span) (base : Part) (xs : List Set) → SamePart base → Sets xs → update_rule own base xs (here sig ls) ≡ update_rule own base xs (there sig ls)
    same_update own base xs b a = λ i. (b.term sig ls base.place i >> λ t. same_updated own base xs a t i)

    -- ---- formulas
    same_equation : (r : Relation) (a b : Part) → SamePart a → SamePart b → equation_rule r a b (here sig ls) ≡ equation_rule r a b (there sig ls)
    same_equation r a b h k = λ i. (h.term sig ls a.place i >> λ s. same_wanted s.sort b k i >> λ t. give (relation r s.tree t))

    same_inequality : (r : Relation) (a b : Part) → SamePart a → SamePart b → inequality_rule r a b (here sig ls) ≡ inequality_rule r a b (there sig ls)
    same_inequality r a b h k = λ i. (same_operands IntOrReal a b h k i >> λ st. give (relation r st.0.tree st.1))

    same_one_sort : (s : Sort) (es : List Part) → Parts es → of_one_sort (here sig ls) s es ≡ of_one_sort (there sig ls) s es
    same_one_sort s [] h = refl
    same_one_sort s (e ∷ es) h = λ i. (same_wanted s e h.0 i >> λ t. same_one_sort s es h.1 i >> λ ts. give (more t ts))

    same_distinct : (es : List Part) → Parts es → distinct_rule es (here sig ls) ≡ distinct_rule es (there sig ls)
    same_distinct [] h = refl
    same_distinct (e ∷ es) h = λ i. (h.0.term sig ls e.place i >> λ t. same_one_sort t.sort es h.1 i >> λ ts. give (distinct (more t.tree ts)))

    pub same_formula : (e : Part) → SamePart e → e.formula (here sig ls) None e.place ≡ e.formula (there sig ls) None e.place
    same_formula e h = h.formula sig ls None e.place

    same_connective : (join : Claim → Claim → Claim) (a b : Part) → SamePart a → SamePart b → connective_rule join a b (here sig ls) ≡ connective_rule join a b (there sig ls)
    same_connective join a b h k = λ i. (same_formula a h i >> λ f. same_formula b k i >> λ g. give (join f g))

    same_conditional : (c a b : Part) → SamePart c → SamePart a → SamePart b → conditional_rule c a b (here sig ls) ≡ conditional_rule c a b (there sig ls)
    same_conditional c a b h j k = λ i. (same_formula c h i >> λ f. same_formula a j i >> λ g. same_formula b k i >> λ x. give (conditional f g x))

    same_predicate : (name : Span) (k : ℕ) (e : SymbolEntry) (args : List Part) → Parts args → predicate_rule name k e args (here sig ls) ≡ predicate_rule name k e args (there sig ls)
    same_predicate name k e args a = λ i. (same_application name e args a i >> λ x. give (predicate k x.sorts x.args))

    -- ---- blocks
    same_new : (seen : List (List ℕ)) (xs : List Span) → AreKept xs → all_new seen xs (here sig ls) ≡ all_new seen xs (there sig ls)
    same_new seen [] k = refl
    same_new seen (x ∷ xs) k = λ i. test (not (is_among (k.0 i) seen)) (fault.Twice (k.0 i) x.from x.to) ∷ same_new (k.0 i ∷ seen) xs k.1 i

    same_name_list : (xs : List Span) → AreKept xs → map (name_at (here sig ls)) xs ≡ map (name_at (there sig ls)) xs
    same_name_list [] k = refl
    same_name_list (x ∷ xs) k = λ i. k.0 i ∷ same_name_list xs k.1 i

    same_bound : (s : Sort) (x : Span) → Kept x → variable_of (here sig ls) s x ≡ variable_of (there sig ls) s x
    same_bound s x k = λ i. (fresh >> λ n. give (record { name = k i; number = n; sort = s }))

    same_bounds : (s : Sort) (xs : List Span) → AreKept xs → each (variable_of (here sig ls) s) xs ≡ each (variable_of (there sig ls) s) xs
    same_bounds s [] k = refl
    same_bounds s (x ∷ xs) k = λ i. (same_bound s x k.0 i >> λ y. same_bounds s xs k.1 i >> λ ys. give (y ∷ ys))

  record SameGroup (g : Group) : Type 0 where
    names : AreKept g.names
    sort : SameType (type_rule g.sort)

  same_groups : (sig : Signature) (ls : List Local) (seen : List (List ℕ)) (gs : List Group) → AllByRecursion SameGroup gs
      → groups_rule seen gs (here sig ls) ≡ groups_rule seen gs (there sig ls)
  same_groups sig ls seen [] h = refl
  same_groups sig ls seen (g ∷ gs) h =
      λ i. (all_of (same_new sig ls seen g.names h.0.names i) (h.0.sort ground.Free sig ls i) >> λ s. same_bounds sig ls s g.names h.0.names i >> λ bs.
      same_groups sig ls (same_name_list sig ls g.names h.0.names i ++ seen) gs h.1 i >> λ cs. give (bs ++ cs))

  -- ---- triggers
  module _ (sig : Signature) (ls : List Local) where
    same_untested : (c : Class) (e : Part) → SamePart e → untested c e (here sig ls) ≡ untested c e (there sig ls)
    same_untested formula e h = λ i. (same_formula sig ls e h i >> λ f. give (pattern_of f))
    same_untested either e h = λ i. (h.term sig ls e.place i >> λ t. give t.tree)
    same_untested term e h = λ i. (h.term sig ls e.place i >> λ t. give t.tree)

    same_pattern : (e : Part) → SamePart e → pattern_rule (here sig ls) e ≡ pattern_rule (there sig ls) e
    same_pattern e h = λ i. (same_untested (h.class sig ls i) e h i >> λ t.
        test (is_application t && not (has_choice t)) (fault.BadTrigger e.place.from e.place.to) ⇒ give t)

    same_patterns : (es : List Part) → Parts es → patterns_rule (here sig ls) es ≡ patterns_rule (there sig ls) es
    same_patterns [] h = refl
    same_patterns (e ∷ es) h = λ i. (same_pattern e h.0 i >> λ t. same_patterns es h.1 i >> λ ts. give (more t ts))

    same_triggers : (xs : List ℕ) (ts : List (List Part)) → AllByRecursion Parts ts → triggers_rule xs ts (here sig ls) ≡ triggers_rule xs ts (there sig ls)
    same_triggers xs [] h = refl
    same_triggers xs (es ∷ ts) h = λ i. (same_patterns es h.0 i >> λ us. covering xs us (first_place_of es) ⇒ same_triggers xs ts h.1 i >> λ ps.
        give (and_pattern (first_place_of es) us ps))

  abbrev pub inside : List Bound → List Local → List Local
  inside bs ls = reverse (map local_of bs) ++ ls

  same_block : (q : Quantifier) (gs : List Group) (ts : List (List Part)) (body : Part) (sig : Signature) (ls : List Local) (around : Around)
      → AllByRecursion SameGroup gs → AllByRecursion Parts ts → SamePart body
      → block_rule q gs ts body (here sig ls) around ≡ block_rule q gs ts body (there sig ls) around
  same_block q gs ts body sig ls around g a h =
      λ i. (same_groups sig ls [] gs g i >> λ bs.
      same_triggers sig (inside bs ls) (merged_with q around ++ map (λ (b : Bound). b.number) bs) ts a i >> λ ps.
      h.formula sig (inside bs ls) (around_body q (merged_with q around ++ map (λ (b : Bound). b.number) bs) ts) body.place i >> λ f.
      give (quantified q (map (λ (b : Bound). b.number) bs) (map (λ (b : Bound). b.sort) bs) ps f))

  -- ---- expressions
  term_part : (own : Span) (r : Scope → Rule Typed) → ((sig : Signature) (ls : List Local) → r (here sig ls) ≡ r (there sig ls)) → SamePart (a_term_part own r)
  term_part own r k = record {
    class = λ sig ls. refl;
    term = λ sig ls at. k sig ls;
    formula = λ sig ls around at. λ i. truth_rule at (k sig ls i);
  }

  formula_part : (own : Span) (r : Scope → Around → Rule Claim) → ((sig : Signature) (ls : List Local) (around : Around) → r (here sig ls) around ≡ r (there sig ls) around)
      → SamePart (a_formula_part own r)
  formula_part own r k = record {
    class = λ sig ls. refl;
    term = λ sig ls at. λ i. formula_in_term at (k sig ls None i);
    formula = λ sig ls around at. k sig ls around;
  }

  in_two : (o : BinaryOp) (own : Span) (a b : Part) → SamePart a → SamePart b → SamePart (binary_part o own a b)
  in_two binary.Implies own a b h k = formula_part own (λ sc around. connective_rule implication a b sc) (λ sig ls around. same_connective sig ls implication a b h k)
  in_two binary.Iff own a b h k = formula_part own (λ sc around. connective_rule equivalence a b sc) (λ sig ls around. same_connective sig ls equivalence a b h k)
  in_two binary.Xor own a b h k = formula_part own (λ sc around. connective_rule exclusion a b sc) (λ sig ls around. same_connective sig ls exclusion a b h k)
  in_two binary.Or own a b h k = formula_part own (λ sc around. connective_rule disjunction a b sc) (λ sig ls around. same_connective sig ls disjunction a b h k)
  in_two binary.And own a b h k = formula_part own (λ sc around. connective_rule conjunction a b sc) (λ sig ls around. same_connective sig ls conjunction a b h k)
  in_two binary.Equal own a b h k = formula_part own (λ sc around. equation_rule equal a b sc) (λ sig ls around. same_equation sig ls equal a b h k)
  in_two binary.NotEqual own a b h k = formula_part own (λ sc around. equation_rule unequal a b sc) (λ sig ls around. same_equation sig ls unequal a b h k)
  in_two binary.Less own a b h k = formula_part own (λ sc around. inequality_rule less a b sc) (λ sig ls around. same_inequality sig ls less a b h k)
  in_two binary.AtMost own a b h k = formula_part own (λ sc around. inequality_rule at_most a b sc) (λ sig ls around. same_inequality sig ls at_most a b h k)
  in_two binary.Greater own a b h k = formula_part own (λ sc around. inequality_rule greater a b sc) (λ sig ls around. same_inequality sig ls greater a b h k)
  in_two binary.AtLeast own a b h k = formula_part own (λ sc around. inequality_rule at_least a b sc) (λ sig ls around. same_inequality sig ls at_least a b h k)
  in_two binary.Add own a b h k = term_part own (operation_rule op.Add a b) (λ sig ls. same_operation sig ls op.Add a b h k)
  in_two binary.Sub own a b h k = term_part own (operation_rule op.Sub a b) (λ sig ls. same_operation sig ls op.Sub a b h k)
  in_two binary.Mul own a b h k = term_part own (operation_rule op.Mul a b) (λ sig ls. same_operation sig ls op.Mul a b h k)
  in_two binary.Div own a b h k = term_part own (operation_rule op.Div a b) (λ sig ls. same_operation sig ls op.Div a b h k)
  in_two binary.Rem own a b h k = term_part own (operation_rule op.Mod a b) (λ sig ls. same_operation sig ls op.Mod a b h k)

  -- what follows a `let`, as the rule of its name gives it
  abbrev let_term : Span → Part → Part → Class → Scope → Rule Typed
  let_term x e b c sc = bind x c e sc >> λ inner. b.term inner b.place

  abbrev let_formula : Span → Part → Part → Around → Class → Scope → Rule Claim
  let_formula x e b around c sc = bind x c e sc >> λ inner. b.formula inner around b.place

  same_let_term : (x : Span) (e b : Part) → Kept x → SamePart e → SamePart b → (c : Class) (sig : Signature) (ls : List Local)
      → let_term x e b c (here sig ls) ≡ let_term x e b c (there sig ls)
  same_let_term x e b k h j formula sig ls = λ i p.
      let a = same_formula sig ls e h i p in
      let r = j.term sig (named (k i) (a_formula a.value) ∷ ls) b.place i a.passed in
      record { conditions = (a.conditions ++ []) ++ r.conditions; passed = r.passed; value = r.value }
  same_let_term x e b k h j either sig ls = λ i p.
      let a = h.term sig ls e.place i p in
      let r = j.term sig (named (k i) (a_term either a.value.tree a.value.sort) ∷ ls) b.place i a.passed in
      record { conditions = (a.conditions ++ []) ++ r.conditions; passed = r.passed; value = r.value }
  same_let_term x e b k h j term sig ls = λ i p.
      let a = h.term sig ls e.place i p in
      let r = j.term sig (named (k i) (a_term term a.value.tree a.value.sort) ∷ ls) b.place i a.passed in
      record { conditions = (a.conditions ++ []) ++ r.conditions; passed = r.passed; value = r.value }

  same_let_formula : (x : Span) (e b : Part) → Kept x → SamePart e → SamePart b → (around : Around) (c : Class) (sig : Signature) (ls : List Local)
      → let_formula x e b around c (here sig ls) ≡ let_formula x e b around c (there sig ls)
  same_let_formula x e b k h j around formula sig ls = λ i p.
      let a = same_formula sig ls e h i p in
      let r = j.formula sig (named (k i) (a_formula a.value) ∷ ls) around b.place i a.passed in
      record { conditions = (a.conditions ++ []) ++ r.conditions; passed = r.passed; value = r.value }
  same_let_formula x e b k h j around either sig ls = λ i p.
      let a = h.term sig ls e.place i p in
      let r = j.formula sig (named (k i) (a_term either a.value.tree a.value.sort) ∷ ls) around b.place i a.passed in
      record { conditions = (a.conditions ++ []) ++ r.conditions; passed = r.passed; value = r.value }
  same_let_formula x e b k h j around term sig ls = λ i p.
      let a = h.term sig ls e.place i p in
      let r = j.formula sig (named (k i) (a_term term a.value.tree a.value.sort) ∷ ls) around b.place i a.passed in
      record { conditions = (a.conditions ++ []) ++ r.conditions; passed = r.passed; value = r.value }

  in_let_part : (own x : Span) (e b : Part) → Kept x → SamePart e → SamePart b → SamePart (let_part own x e b)
  in_let_part own x e b k h j = record {
    class = λ sig ls. λ i. j.class sig (named (k i) (of_class (h.class sig ls i)) ∷ ls) i;
    term = λ sig ls at. λ i. same_let_term x e b k h j (h.class sig ls i) sig ls i;
    formula = λ sig ls around at. λ i. same_let_formula x e b k h j around (h.class sig ls i) sig ls i;
  }

  -- ---- names
  module _ (name : Span) (args : List Part) (k : Kept name) (a : Parts args) (sig : Signature) (ls : List Local) (at : Span) where
    same_name_term : (n : Named) → name_term name args (here sig ls) at n ≡ name_term name args (there sig ls) at n
    same_name_term (bound (a_variable x s)) = refl
    same_name_term (bound (a_term c t s)) = refl
    same_name_term (bound (a_formula f)) = refl
    same_name_term (function n e s) = same_function sig ls name n e s args a
    same_name_term (predicate_name n e) = λ i. formula_in_term at (same_predicate sig ls name n e args a i)
    same_name_term unknown = λ i. refuse (fault.UnknownName (k i) name.from name.to) no_term

    same_name_formula : (around : Around) (n : Named) → name_formula name args (here sig ls) around at n ≡ name_formula name args (there sig ls) around at n
    same_name_formula around (bound (a_formula f)) = refl
    same_name_formula around (predicate_name n e) = same_predicate sig ls name n e args a
    same_name_formula around (bound (a_variable x s)) = λ i. truth_rule at (same_name_term (bound (a_variable x s)) i)
    same_name_formula around (bound (a_term c t s)) = λ i. truth_rule at (same_name_term (bound (a_term c t s)) i)
    same_name_formula around (function n e s) = λ i. truth_rule at (same_name_term (function n e s) i)
    same_name_formula around unknown = λ i. truth_rule at (same_name_term unknown i)

  in_name_part : (own name : Span) (args : List Part) → Kept name → Parts args → SamePart (name_part own name args)
  in_name_part own name args k a = record {
    class = λ sig ls. λ i. class_of_named (meaning_of (here sig ls) (k i));
    term = λ sig ls at. λ i. same_name_term name args k a sig ls at (meaning_of (here sig ls) (k i)) i;
    formula = λ sig ls around at. λ i. same_name_formula name args k a sig ls at around (meaning_of (here sig ls) (k i)) i;
  }

  in_constant_part : (own : Span) (t : Tree) (f : Claim) → SamePart (constant_part own t f)
  in_constant_part own t f = record { class = λ sig ls. refl; term = λ sig ls at. refl; formula = λ sig ls around at. refl }

  in_if_part : (own : Span) (c a b : Part) → SamePart c → SamePart a → SamePart b → SamePart (if_part own c a b)
  in_if_part own c a b h j k = record {
    class = λ sig ls. λ i. join (j.class sig ls i) (k.class sig ls i);
    term = λ sig ls at. same_choice sig ls c a b h j k;
    formula = λ sig ls around at. same_conditional sig ls c a b h j k;
  }

  in_brackets_part : (own : Span) (e : Part) → SamePart e → SamePart (bracketed_part own e)
  in_brackets_part own e h = record { class = h.class; term = h.term; formula = h.formula }

  -- the part that the grammar builds, and its names
  by_kind : (s : Span) (f : ExprKind) (p : Span → Part) → kind_part f ≡ p → SamePart (p s) → SamePart (part_of (expression s f))
  by_kind s f p e h = subst SamePart (sym (built_part s f ∙ ap (λ (g : Span → Part). g s) e)) h

  its_names : (s : Span) (f : ExprKind) (xs : List Span) → names_in_form f ≡ xs → AreKept (names_in (expression s f)) → AreKept xs
  its_names s f xs e k = subst AreKept (in_built s f ∙ e) k

  in_front : (xs ys : List Span) → AreKept (xs ++ ys) → AreKept xs
  in_front xs ys k = all_front Kept xs ys k

  in_back : (xs ys : List Span) → AreKept (xs ++ ys) → AreKept ys
  in_back xs ys k = all_back Kept xs ys k

  same_group_list : (gs : List Group) → AllByRecursion (IsGroup text) gs → AreKept (joined (map names_in_group gs)) → AllByRecursion SameGroup gs
  same_group_list [] h k = tt
  same_group_list (g ∷ gs) h k =
      let one = in_front (names_in_group g) (joined (map names_in_group gs)) k in (
        record { names = in_front g.names (names_in_type g.sort) one; sort = same_type h.0.sort (in_back g.names (names_in_type g.sort) one) },
        same_group_list gs h.1 (in_back (names_in_group g) (joined (map names_in_group gs)) k),
      )

  mutual
    pub same_tree : {e : Expr} → IsTree text e → AreKept (names_in e) → SamePart (part_of e)
    same_tree (is_binary s o a b h i j) k =
        let n = its_names s (kind.Binary o a b) _ (in_binary o a b) k in
        by_kind s _ _ (kind_binary o a b) (in_two o s (part_of a) (part_of b) (same_tree i (in_front (names_in a) (names_in b) n)) (same_tree j (in_back (names_in a) (names_in b) n)))
    same_tree (is_not s a h i) k =
        let r = same_tree i (its_names s (kind.Not a) _ (in_not a) k) in
        by_kind s _ _ (kind_not a) (formula_part s (λ sc around. (part_of a).formula sc None (part_of a).place >> λ f. give (negation f))
        (λ sig ls around. λ j. (same_formula sig ls (part_of a) r j >> λ f. give (negation f))))
    same_tree (is_negative s a h i) k =
        let r = same_tree i (its_names s (kind.Negative a) _ (in_negative a) k) in
        by_kind s _ _ (kind_negative a) (term_part s (negative_rule (part_of a)) (λ sig ls. same_negative sig ls (part_of a) r))
    same_tree (is_quantified s q gs ts b h g a i) k =
        let n = its_names s (kind.Quantified q gs ts b) _ (in_quantified q gs ts b) k in
        let gt = joined (map names_in_group gs) ++ joined (map names_in_trigger ts) in
        let m = in_front gt (names_in b) n in
        let groups = same_group_list gs g (in_front (joined (map names_in_group gs)) (joined (map names_in_trigger ts)) m) in
        let triggers = same_trigger_list a (in_back (joined (map names_in_group gs)) (joined (map names_in_trigger ts)) m) in
        let body = same_tree i (in_back gt (names_in b) n) in
        by_kind s _ _ (kind_quantified q gs ts b) (formula_part s (block_rule q gs (map trigger_of ts) (part_of b))
        (λ sig ls around. same_block q gs (map trigger_of ts) (part_of b) sig ls around groups triggers body))
    same_tree (is_let s x a b h m i j) k =
        let n = its_names s (kind.Let x a b) _ (in_let x a b) k in
        by_kind s _ _ (kind_let x a b) (in_let_part s x (part_of a) (part_of b) n.0 (same_tree i (in_front (names_in a) (names_in b) n.1)) (same_tree j (in_back (names_in a) (names_in b) n.1)))
    same_tree (is_if s c a b h i j l) k =
        let n = its_names s (kind.If c a b) _ (in_if c a b) k in
        let m = in_front (names_in c ++ names_in a) (names_in b) n in
        by_kind s _ _ (kind_if c a b) (in_if_part s (part_of c) (part_of a) (part_of b) (same_tree i (in_front (names_in c) (names_in a) m))
        (same_tree j (in_back (names_in c) (names_in a) m)) (same_tree l (in_back (names_in c ++ names_in a) (names_in b) n)))
    same_tree (is_field s a x h i m) k =
        let n = its_names s (kind.Field a x) _ (in_field a x) k in
        let r = same_tree i (in_front (names_in a) (x ∷ []) n) in
        by_kind s _ _ (kind_field a x) (term_part s (field_rule (part_of a) x) (λ sig ls. same_projection sig ls (part_of a) x r (in_back (names_in a) (x ∷ []) n).0))
    same_tree (is_apply s x es h m a) k =
        let n = its_names s (kind.Apply x es) _ (in_apply x es) k in
        by_kind s _ _ (kind_apply x es) (in_name_part s x (map part_of es) n.0 (same_trees a n.1))
    same_tree (is_numeral s n h m) k = by_kind s _ _ (kind_numeral n) (term_part s (λ sc. numeral_rule n) (λ sig ls. refl))
    same_tree (is_true s h) k = by_kind s _ _ kind_true (in_constant_part s (constant head.True) truth)
    same_tree (is_false s h) k = by_kind s _ _ kind_false (in_constant_part s (constant head.False) falsity)
    same_tree (is_void s h) k = by_kind s _ _ kind_void (term_part s (λ sc. give (typed (constant head.Void) UnitSort)) (λ sig ls. refl))
    same_tree (is_bracketed s a h i) k = by_kind s _ _ (kind_bracketed a) (in_brackets_part s (part_of a) (same_tree i (its_names s (kind.Bracketed a) _ (in_bracketed a) k)))
    same_tree (is_ascribed s a w h i m) k =
        let n = its_names s (kind.Ascribed a w) _ (in_ascribed a w) k in
        let r = same_tree i (in_front (names_in a) (names_in_type w) n) in
        let t = same_type m (in_back (names_in a) (names_in_type w) n) in
        by_kind s _ _ (kind_ascribed a w) (term_part s (ascribed_rule (part_of a) w) (λ sig ls. same_ascribed sig ls (part_of a) w r t))
    same_tree (is_distinct s es h a) k =
        let r = same_trees a (its_names s (kind.Distinct es) _ (in_distinct es) k) in
        by_kind s _ _ (kind_distinct es) (formula_part s (λ sc around. distinct_rule (map part_of es) sc) (λ sig ls around. same_distinct sig ls (map part_of es) r))
    same_tree (is_record s xs h a) k =
        let r = same_settings a (its_names s (kind.Record xs) _ (in_record xs) k) in
        by_kind s _ _ (kind_record xs) (term_part s (record_rule s (map set_of xs)) (λ sig ls. same_record sig ls s (map set_of xs) r))
    same_tree (is_update s e xs h i a) k =
        let n = its_names s (kind.Update e xs) _ (in_update e xs) k in
        let b = same_tree i (in_front (names_in e) (joined (map names_in_set xs)) n) in
        let r = same_settings a (in_back (names_in e) (joined (map names_in_set xs)) n) in
        by_kind s _ _ (kind_update e xs) (term_part s (update_rule s (part_of e) (map set_of xs)) (λ sig ls. same_update sig ls s (part_of e) (map set_of xs) b r))

    same_trees : {es : List Expr} → AreTrees text es → AreKept (joined (map names_in es)) → Parts (map part_of es)
    same_trees no_trees k = tt
    same_trees (and_tree e es h a) k = (same_tree h (in_front (names_in e) (joined (map names_in es)) k), same_trees a (in_back (names_in e) (joined (map names_in es)) k))

    same_trigger_list : {ts : List Trigger} → AreTriggers text ts → AreKept (joined (map names_in_trigger ts)) → AllByRecursion Parts (map trigger_of ts)
    same_trigger_list no_triggers k = tt
    same_trigger_list (and_trigger s es ts a b) k =
        let t = roll-Trigger (record { span = s; terms = es }) in
        let n = subst AreKept (in_rolled_trigger s es) (in_front (names_in_trigger t) (joined (map names_in_trigger ts)) k) in
        (subst Parts (sym (built_trigger s es)) (same_trees a n), same_trigger_list b (in_back (names_in_trigger t) (joined (map names_in_trigger ts)) k))

    same_settings : {xs : List Setting} → AreSettings text xs → AreKept (joined (map names_in_set xs)) → Sets (map set_of xs)
    same_settings no_settings k = tt
    same_settings (and_setting s n e xs m h a) k =
        let x = roll-Setting (record { span = s; name = n; value = e }) in
        let l = subst AreKept (in_rolled_setting s n e) (in_front (names_in_set x) (joined (map names_in_set xs)) k) in
        (subst SameSet (sym (built_setting s n e)) (record { name = l.0; value = same_tree h l.1 }), same_settings a (in_back (names_in_set x) (joined (map names_in_set xs)) k))
