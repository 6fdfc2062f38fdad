-- Where a text is refused: each condition that it states is refused at a place in the text, and by a fault of typing.
use Rattle.std.proofs.Common.{arith, ◌≡◌, ◌∙◌, ◌≤◌, ℕ, zero, suc, Bool, true, false, not, ◌&&◌, nat_eq, pos, List, [], ◌∷◌, ◌++◌, map, reverse}
use Rattle.std.proofs.Common.{length, sym, ap, subst, Option, Some, None}
use Rattle.std.specs.List.{AllByRecursion, list_any}
use Rattle.std.specs.Str.{bytes_eq}
use Rattle.ae_base.proofs.AllOf.{all_append, all_always, all_reversed}
use Rattle.ae_core.specs.declared.terms.Sort.{Sort, Var, Int, Real, Bool as BoolSort, Unit as UnitSort, Named as NamedSort}
use Rattle.ae_core.specs.declared.terms.Head.{Head}
use Rattle.ae_core.specs.declared.terms.Head.TheVariants as head
use Rattle.ae_core.specs.declared.terms.Op.{Op}
use Rattle.ae_core.specs.declared.terms.Op.TheVariants as op
use Rattle.ae_core.specs.declared.problems.SymbolEntry.{SymbolEntry}
use Rattle.ae_core.specs.Putting.{put_sort}
use Rattle.ae_core.specs.Sorts.{type_fits}
use Rattle.ae_syntax.specs.declared.spans.Span.{Span}
use Rattle.ae_syntax.specs.declared.types.WrittenType.{WrittenType}
use Rattle.ae_syntax.specs.declared.exprs.BinaryOp.{BinaryOp}
use Rattle.ae_syntax.specs.declared.exprs.BinaryOp.TheVariants as binary
use Rattle.ae_syntax.specs.declared.exprs.Quantifier.{Quantifier}
use Rattle.ae_syntax.specs.declared.exprs.Number.{Number}
use Rattle.ae_syntax.specs.declared.exprs.Number.TheVariants as number
use Rattle.ae_syntax.specs.declared.exprs.Expr.{Expr}
use Rattle.ae_syntax.specs.declared.exprs.ExprKind.{ExprKind}
use Rattle.ae_syntax.specs.declared.exprs.Group.{Group}
use Rattle.ae_syntax.specs.declared.exprs.Setting.{Setting}
use Rattle.ae_syntax.specs.declared.exprs.Trigger.{Trigger}
use Rattle.ae_syntax.specs.Parts.{expression}
use Rattle.ae_elab.specs.declared.faults.TypeFault.{TypeFault}
use Rattle.ae_elab.specs.declared.faults.TypeFault.TheVariants as fault
use Rattle.ae_elab.specs.declared.fields.FieldPlace.{FieldPlace}
use Rattle.ae_elab.specs.declared.numbers.Numbers.{Numbers}
use Rattle.ae_elab.specs.declared.numbers.Numbers.TheVariants.{IntOrReal}
use Rattle.ae_elab.specs.declared.grounds.Ground.{Ground}
use Rattle.ae_elab.specs.declared.grounds.Ground.TheVariants as ground
use Rattle.ae_elab.specs.Conditions.{Condition, test, has_sort, is_bool as has_bool, has_operand_sort, may_be, becomes}
use Rattle.ae_elab.specs.Trees.{Tree, Patterns, Claim, Relation, equal, unequal, less, at_most, greater, at_least, none, more, no_pattern}
use Rattle.ae_elab.specs.Trees.{and_pattern, truth, falsity, relation, predicate, distinct, holds, negation, conjunction, disjunction, exclusion}
use Rattle.ae_elab.specs.Trees.{equivalence, implication, conditional, quantified, variable, numeral, apply, operation, build, update, choice}
use Rattle.ae_elab.specs.Trees.{constant, claim_of, claim_of_head, pattern_of, has_choice, is_application}
use Rattle.ae_elab.specs.Scope.{Scope, Class, formula, either, term, Meaning, a_variable, a_term, a_formula, Local, Named, bound, function}
use Rattle.ae_elab.specs.Scope.{predicate as predicate_name, unknown, by_result, symbol_from, look_up, meaning_of, name_at, type_number, field_place}
use Rattle.ae_elab.specs.Scope.{first_place, named, with_locals}
use Rattle.ae_elab.specs.Rules.{Passed, Rule, give, ◌>>◌, ◌⇒◌, all_of, refuse, each, fresh, unknowns, occurrence, Typed, typed, no_term, Around, Part}
use Rattle.ae_elab.specs.Rules.{Set, as_term, as_formula, wanted, all_wanted}
use Rattle.ae_elab.specs.WrittenTypes.{TypeRule, type_rule, variable_rule, parameter, is_other, named_rule}
use Rattle.ae_elab.specs.Terms.{numeral_rule, numbers_of, operands, operation_rule, negative_rule, ascribed_rule, choice_rule, application_rule}
use Rattle.ae_elab.specs.Terms.{function_rule, fields_at, arity_at, with_field, field_rule, field_sort, no_values, values_rule, with_type}
use Rattle.ae_elab.specs.Terms.{record_rule, update_rule}
use Rattle.ae_elab.specs.Formulas.{truth_rule, equation_rule, inequality_rule, of_one_sort, distinct_rule, connective_rule, conditional_rule}
use Rattle.ae_elab.specs.Formulas.{predicate_rule, Bound, local_of, with_block, all_new, groups_rule, variable_of, same_quantifier, merged_with}
use Rattle.ae_elab.specs.Formulas.{covering, covering_all, merging_triggers, merging, merging_into, untested, pattern_rule, patterns_rule}
use Rattle.ae_elab.specs.Formulas.{first_place_of, triggers_rule, around_body, block_rule}
use Rattle.ae_elab.specs.Expressions.{formula_in_term, a_term_part, a_formula_part, constant_part, bracketed_part, bind, let_part, if_part}
use Rattle.ae_elab.specs.Expressions.{no_arguments, name_term, name_formula, name_part, binary_part, part_of, kind_part, set_of, trigger_of}
use Rattle.ae_elab.proofs.PartRules.{kind_binary, kind_not, kind_negative, kind_quantified, kind_let, kind_if, kind_field, kind_apply, kind_numeral}
use Rattle.ae_elab.proofs.PartRules.{kind_true, kind_false, kind_void, kind_bracketed, kind_ascribed, kind_distinct, kind_record, kind_update}
use Rattle.ae_typed_laws.proofs.BuiltRules.{int_rule, real_rule, bool_rule, unit_rule, var_rule, named_type_rule, built_part, built_setting}
use Rattle.ae_typed_laws.proofs.BuiltRules.{built_trigger}
use Rattle.ae_typed_laws.proofs.ParsedTrees.{IsPlace, IsIdentifier, IsWritten, AreWritten, is_int, is_real, is_bool, is_unit, is_var, is_named}
use Rattle.ae_typed_laws.proofs.ParsedTrees.{and_type, no_types, IsGroup, IsTree, is_binary, is_not, is_negative, is_quantified, is_let, is_if}
use Rattle.ae_typed_laws.proofs.ParsedTrees.{is_field, is_apply, is_numeral, is_true, is_false, is_void, is_bracketed, is_ascribed, is_distinct}
use Rattle.ae_typed_laws.proofs.ParsedTrees.{is_record, is_update, AreTrees, no_trees, and_tree, AreTriggers, no_triggers, and_trigger, AreSettings}
use Rattle.ae_typed_laws.proofs.ParsedTrees.{no_settings, and_setting}

module _ (text : List ℕ) where
  -- it begins in the text
  abbrev pub P : ℕ → Type 0
  P i = i ≤ length text

  -- a fault of typing, at a place in the text
  abbrev pub IsWithin : TypeFault → Type 0
  IsWithin (fault.UnknownName n i j) = P i
  IsWithin (fault.Arity i j) = P i
  IsWithin (fault.Mismatch s t i j) = P i
  IsWithin (fault.Twice n i j) = P i
  IsWithin (fault.NotProp i j) = P i
  IsWithin (fault.PropInTerm i j) = P i
  IsWithin (fault.BadAc i j) = P i
  IsWithin (fault.MissingField i j) = P i
  IsWithin (fault.SelfRecord i j) = P i
  IsWithin (fault.BadTrigger i j) = P i
  IsWithin (fault.TooLarge i j) = ⊥
  IsWithin (fault.Memory e) = ⊥

  abbrev pub Fine : Condition → Type 0
  Fine c = (f : ℕ → Sort) → IsWithin (c.refusal f)

  -- a rule states such conditions, and gives a value of which Q holds
  pub record Sound {A : Type 0} (Q : A → Type 0) (r : Rule A) : Type 0 where
    pub at : (p : Passed) → AllByRecursion Fine (r p).conditions × Q (r p).value

  abbrev pub Any : {A : Type 0} → A → Type 0
  Any x = Unit {0}

  -- ---- the forms of rules
  pub gives : {A : Type 0} (Q : A → Type 0) (x : A) → Q x → Sound Q (give x)
  gives Q x q = record { at = λ p. (tt, q) }

  pub follows : {A B : Type 0} (Q : A → Type 0) (R : B → Type 0) (r : Rule A) (f : A → Rule B) → Sound Q r → ((x : A) → Q x → Sound R (f x)) → Sound R (r >> f)
  follows Q R r f h k = record {
    at = λ p. let a = h.at p in
        let b = (k (r p).value a.1).at (r p).passed in
        (all_append Fine (r p).conditions (f (r p).value (r p).passed).conditions a.0 b.0, b.1);
  }

  pub demands : {A : Type 0} (Q : A → Type 0) (c : Condition) (r : Rule A) → Fine c → Sound Q r → Sound Q (c ⇒ r)
  demands Q c r h k = record { at = λ p. ((h, (k.at p).0), (k.at p).1) }

  pub demands_all : {A : Type 0} (Q : A → Type 0) (cs : List Condition) (r : Rule A) → AllByRecursion Fine cs → Sound Q r → Sound Q (all_of cs r)
  demands_all Q [] r h k = k
  demands_all Q (c ∷ cs) r h k = demands Q c (all_of cs r) h.0 (demands_all Q cs r h.1 k)

  pub refuses : {A : Type 0} (Q : A → Type 0) (e : TypeFault) (x : A) → IsWithin e → Q x → Sound Q (refuse e x)
  refuses Q e x h q = record { at = λ p. ((λ f. h, tt), q) }

  pub of_each : {A B : Type 0} (S : A → Type 0) (Q : B → Type 0) (f : A → Rule B) → ((x : A) → S x → Sound Q (f x)) → (xs : List A) → AllByRecursion S xs → Sound (AllByRecursion Q) (each f xs)
  of_each S Q f h [] a = gives (AllByRecursion Q) [] tt
  of_each S Q f h (x ∷ xs) a =
      follows Q (AllByRecursion Q) (f x) (λ y. each f xs >> λ ys. give (y ∷ ys)) (h x a.0)
      (λ y q. follows (AllByRecursion Q) (AllByRecursion Q) (each f xs) (λ ys. give (y ∷ ys)) (of_each S Q f h xs a.1)
      (λ ys r. gives (AllByRecursion Q) (y ∷ ys) (q, r)))

  pub forget : {A : Type 0} {Q : A → Type 0} (r : Rule A) → Sound Q r → Sound Any r
  forget r h = record { at = λ p. ((h.at p).0, tt) }

  pub any_fresh : Sound Any fresh
  any_fresh = record { at = λ p. (tt, tt) }

  any_unknowns : (n : ℕ) → Sound Any (unknowns n)
  any_unknowns zero = gives Any [] tt
  any_unknowns (suc n) =
      follows Any Any fresh (λ k. unknowns n >> λ ss. give (Var k ∷ ss)) any_fresh
      (λ k q. follows Any Any (unknowns n) (λ ss. give (Var k ∷ ss)) (any_unknowns n) (λ ss r. gives Any (Var k ∷ ss) tt))

  -- ---- written types
  any_occurrence : (o : Option ℕ) (name : List ℕ) → Sound Any (occurrence o name)
  any_occurrence (Some n) name = record { at = λ p. (tt, tt) }
  any_occurrence None name = record { at = λ p. (tt, tt) }

  at_parameter : (sc : Scope) (s : Span) (o : Option ℕ) → IsPlace text s → Sound Any (parameter sc s o)
  at_parameter sc s (Some i) h = gives Any (Var i) tt
  at_parameter sc s None h = refuses Any (fault.UnknownName (name_at sc s) s.from s.to) UnitSort h tt

  at_variable : (g : Ground) (sc : Scope) (s : Span) → IsPlace text s → Sound Any (variable_rule g sc s)
  at_variable ground.Free sc s h = record { at = λ p. (any_occurrence (first_place (bytes_eq (name_at sc s)) p.written) (name_at sc s)).at p }
  at_variable (ground.InField params own) sc s h = at_parameter sc s (first_place (bytes_eq (name_at sc s)) params) h

  at_named : (g : Ground) (sc : Scope) (s : Span) (args : List Sort) (o : Option ℕ) → IsPlace text s → Sound Any (named_rule g sc s args o)
  at_named g sc s args None h = refuses Any (fault.UnknownName (name_at sc s) s.from s.to) UnitSort h tt
  at_named g sc s args (Some n) h =
      demands Any (test (is_other g n) (fault.SelfRecord s.from s.to)) (test (type_fits sc.signature n (length args)) (fault.Arity s.from s.to) ⇒ give (NamedSort n args)) (λ f. h)
      (demands Any (test (type_fits sc.signature n (length args)) (fault.Arity s.from s.to)) (give (NamedSort n args)) (λ f. h) (gives Any (NamedSort n args) tt))

  abbrev pub SoundType : TypeRule → Type 0
  SoundType r = (g : Ground) (sc : Scope) → Sound Any (r g sc)

  mutual
    pub at_type : {w : WrittenType} → IsWritten text w → SoundType (type_rule w)
    at_type (is_int s) = subst SoundType (sym (int_rule s)) (λ g sc. gives Any Int tt)
    at_type (is_real s) = subst SoundType (sym (real_rule s)) (λ g sc. gives Any Real tt)
    at_type (is_bool s) = subst SoundType (sym (bool_rule s)) (λ g sc. gives Any BoolSort tt)
    at_type (is_unit s) = subst SoundType (sym (unit_rule s)) (λ g sc. gives Any UnitSort tt)
    at_type (is_var s h) = subst SoundType (sym (var_rule s)) (λ g sc. at_variable g sc s h)
    at_type (is_named s n ws h a) =
        subst SoundType (sym (named_type_rule s n ws))
        (λ g sc. follows Any Any (each (λ r. r g sc) (map type_rule ws)) (λ ss. named_rule g sc n ss (type_number sc.signature (name_at sc n)))
        (forget (each (λ r. r g sc) (map type_rule ws)) (of_each SoundType Any (λ r. r g sc) (λ r k. k g sc) (map type_rule ws) (at_types a)))
        (λ ss q. at_named g sc n ss (type_number sc.signature (name_at sc n)) h.place))

    at_types : {ws : List WrittenType} → AreWritten text ws → AllByRecursion SoundType (map type_rule ws)
    at_types no_types = tt
    at_types (and_type w ws h a) = (at_type h, at_types a)

  -- ---- what stands at a place
  abbrev PlacedPatterns : Patterns → Type 0
  PlacedPatterns no_pattern = Unit {0}
  PlacedPatterns (and_pattern place us ps) = IsPlace text place × PlacedPatterns ps

  -- the triggers of a block, and of a block that is its body, stand in the text
  abbrev pub Placed : Claim → Type 0
  Placed (quantified q xs ss ps f) = PlacedPatterns ps × Placed f
  Placed _ = Unit {0}

  abbrev PlacedMeaning : Meaning → Type 0
  PlacedMeaning (a_variable x s) = Unit {0}
  PlacedMeaning (a_term c t s) = Unit {0}
  PlacedMeaning (a_formula f) = Placed f

  abbrev PlacedLocal : Local → Type 0
  PlacedLocal l = PlacedMeaning l.meaning

  abbrev pub PlacedScope : Scope → Type 0
  PlacedScope sc = AllByRecursion PlacedLocal sc.locals

  pub record SoundPart (e : Part) : Type 0 where
    pub place : IsPlace text e.place
    pub term : (sc : Scope) → PlacedScope sc → (at : Span) → IsPlace text at → Sound Any (e.term sc at)
    pub formula : (sc : Scope) → PlacedScope sc → (around : Around) (at : Span) → IsPlace text at → Sound Placed (e.formula sc around at)

  record SoundSet (x : Set) : Type 0 where
    name : IsPlace text x.name
    value : SoundPart x.value

  abbrev Parts : List Part → Type 0
  Parts = AllByRecursion SoundPart

  abbrev Sets : List Set → Type 0
  Sets = AllByRecursion SoundSet

  in_term : (sc : Scope) (e : Part) → PlacedScope sc → SoundPart e → Sound Any (as_term sc e)
  in_term sc e c h = h.term sc c e.place h.place

  pub in_formula : (sc : Scope) (e : Part) → PlacedScope sc → SoundPart e → Sound Placed (as_formula sc e)
  in_formula sc e c h = h.formula sc c None e.place h.place

  -- ---- terms
  pub in_wanted : (sc : Scope) (s : Sort) (e : Part) → PlacedScope sc → SoundPart e → Sound Any (wanted sc s e)
  in_wanted sc s e c h =
      follows Any Any (as_term sc e) (λ t. has_sort e.place s t.sort ⇒ give t.tree) (in_term sc e c h)
      (λ t q. demands Any (has_sort e.place s t.sort) (give t.tree) (λ f. h.place) (gives Any t.tree tt))

  in_all_wanted : (sc : Scope) (ss : List Sort) (es : List Part) → PlacedScope sc → Parts es → Sound Any (all_wanted sc ss es)
  in_all_wanted sc [] es c h = gives Any none tt
  in_all_wanted sc (s ∷ ss) [] c h = gives Any none tt
  in_all_wanted sc (s ∷ ss) (e ∷ es) c h =
      follows Any Any (wanted sc s e) (λ t. all_wanted sc ss es >> λ ts. give (more t ts)) (in_wanted sc s e c h.0)
      (λ t q. follows Any Any (all_wanted sc ss es) (λ ts. give (more t ts)) (in_all_wanted sc ss es c h.1) (λ ts r. gives Any (more t ts) tt))

  any_numeral : (n : Number) → Sound Any (numeral_rule n)
  any_numeral (number.Whole n) = gives Any (typed (numeral n (pos 1) false) Int) tt
  any_numeral (number.Decimal a b) = gives Any (typed (numeral a b true) Real) tt

  in_operands : (sc : Scope) (n : Numbers) (a b : Part) → PlacedScope sc → SoundPart a → SoundPart b → Sound Any (operands sc n a b)
  in_operands sc n a b c h k =
      follows Any Any (as_term sc a) _ (in_term sc a c h)
      (λ s q. demands Any (may_be a.place n s.sort) _ (λ f. h.place)
      (follows Any Any (as_term sc b) _ (in_term sc b c k)
      (λ t r. demands Any (may_be a.place n s.sort) _ (λ f. h.place)
      (demands Any (has_operand_sort b.place s.sort t.sort) _ (λ f. k.place)
      (demands Any (may_be b.place IntOrReal t.sort) _ (λ f. k.place)
      (demands Any (becomes a.place n s.sort) _ (λ f. h.place) (gives Any (s, t.tree) tt)))))))

  in_operation : (o : Op) (a b : Part) (sc : Scope) → PlacedScope sc → SoundPart a → SoundPart b → Sound Any (operation_rule o a b sc)
  in_operation o a b sc c h k = follows Any Any (operands sc (numbers_of o) a b) _ (in_operands sc (numbers_of o) a b c h k)
      (λ st q. gives Any (typed (operation o st.0.sort (more st.0.tree (more st.1 none))) st.0.sort) tt)

  in_negative : (a : Part) (sc : Scope) → PlacedScope sc → SoundPart a → Sound Any (negative_rule a sc)
  in_negative a sc c h =
      follows Any Any (as_term sc a) _ (in_term sc a c h)
      (λ s q. demands Any (may_be a.place IntOrReal s.sort) _ (λ f. h.place) (demands Any (becomes a.place IntOrReal s.sort) _ (λ f. h.place) (gives Any (typed (operation op.Neg s.sort (more s.tree none)) s.sort) tt)))

  in_ascribed : (e : Part) (w : WrittenType) (sc : Scope) → PlacedScope sc → SoundPart e → IsWritten text w → Sound Any (ascribed_rule e w sc)
  in_ascribed e w sc c h k =
      follows Any Any (as_term sc e) _ (in_term sc e c h)
      (λ t q. follows Any Any (type_rule w ground.Free sc) _ (at_type k ground.Free sc)
      (λ s r. demands Any (has_sort e.place s t.sort) _ (λ f. h.place) (gives Any (typed t.tree s) tt)))

  in_choice : (k a b : Part) (sc : Scope) → PlacedScope sc → SoundPart k → SoundPart a → SoundPart b → Sound Any (choice_rule k a b sc)
  in_choice k a b sc c h i j =
      follows Placed Any (as_formula sc k) _ (in_formula sc k c h)
      (λ f q. follows Any Any (as_term sc a) _ (in_term sc a c i) (λ s r. follows Any Any (wanted sc s.sort b) _ (in_wanted sc s.sort b c j)
      (λ t u. gives Any (typed (choice f s.tree t) s.sort) tt)))

  in_application : (name : Span) (e : SymbolEntry) (args : List Part) (sc : Scope) → PlacedScope sc → IsPlace text name → Parts args → Sound Any (application_rule name e args sc)
  in_application name e args sc c h a =
      demands Any (test (nat_eq (length args) (length e.args)) (fault.Arity name.from name.to)) _ (λ f. h)
      (follows Any Any (unknowns e.vars) _ (any_unknowns e.vars)
      (λ ss q. follows Any Any (all_wanted sc (map (put_sort ss) e.args) args) _ (in_all_wanted sc (map (put_sort ss) e.args) args c a)
      (λ us r. gives Any (record { sorts = ss; args = us }) tt)))

  in_function : (name : Span) (k : ℕ) (e : SymbolEntry) (s : Sort) (args : List Part) (sc : Scope) → PlacedScope sc → IsPlace text name → Parts args → Sound Any (function_rule name k e s args sc)
  in_function name k e s args sc c h a = follows Any Any (application_rule name e args sc) _ (in_application name e args sc c h a)
      (λ x q. gives Any (typed (apply (head.Symbol k) x.sorts x.args) (put_sort x.sorts s)) tt)

  -- ---- fields and records
  of_field : {A : Type 0} (sc : Scope) (x : Span) (o : Option FieldPlace) (y : A) (go : FieldPlace → Rule A) → IsPlace text x → ((f : FieldPlace) → Sound Any (go f))
      → Sound Any (elim o [ Some f ↦ go f | None ↦ refuse (fault.UnknownName (name_at sc x) x.from x.to) y ])
  of_field sc x (Some f) y go h k = k f
  of_field sc x None y go h k = refuses Any (fault.UnknownName (name_at sc x) x.from x.to) y h tt

  in_field : {A : Type 0} (sc : Scope) (x : Span) (y : A) (go : FieldPlace → Rule A) → IsPlace text x → ((f : FieldPlace) → Sound Any (go f)) → Sound Any (with_field sc x y go)
  in_field sc x y go h k = of_field sc x (field_place sc.signature (name_at sc x)) y go h k

  in_type : {A : Type 0} (sc : Scope) (xs : List Set) (y : A) (go : ℕ → Rule A) → Sets xs → ((n : ℕ) → Sound Any (go n)) → Sound Any (with_type sc xs y go)
  in_type sc [] y go h k = gives Any y tt
  in_type sc (x ∷ xs) y go h k = in_field sc x.name y (λ f. go f.of) h.0.name (λ f. k f.of)

  in_projection : (e : Part) (x : Span) (sc : Scope) → PlacedScope sc → SoundPart e → IsPlace text x → Sound Any (field_rule e x sc)
  in_projection e x sc c h k =
      follows Any Any (as_term sc e) _ (in_term sc e c h)
      (λ t q. in_field sc x no_term _ k
      (λ f. follows Any Any (unknowns (arity_at sc.signature f.of)) _ (any_unknowns (arity_at sc.signature f.of))
      (λ ss r. demands Any (has_sort e.place (NamedSort f.of ss) t.sort) _ (λ g. h.place)
      (gives Any (typed (apply (head.Field f.of f.place) ss (more t.tree none)) (field_sort sc.signature f ss)) tt))))

  in_values : (own : Span) (of : ℕ) (ss : List Sort) (got : List ℕ) (xs : List Set) (sc : Scope) → PlacedScope sc → IsPlace text own → Sets xs → Sound Any (values_rule own of ss got xs sc)
  in_values own of ss got [] sc c h a = gives Any no_values tt
  in_values own of ss got (x ∷ xs) sc c h a =
      in_field sc x.name no_values _ a.0.name
      (λ f. demands Any (test (nat_eq f.of of) (fault.MissingField own.from own.to)) _ (λ g. h)
      (demands Any (test (not (list_any (nat_eq f.place) got)) (fault.Twice (name_at sc x.name) x.name.from x.name.to)) _ (λ g. a.0.name)
      (follows Any Any (wanted sc (field_sort sc.signature f ss) x.value) _ (in_wanted sc (field_sort sc.signature f ss) x.value c a.0.value)
      (λ t q. follows Any Any (values_rule own of ss (f.place ∷ got) xs sc) _ (in_values own of ss (f.place ∷ got) xs sc c h a.1)
      (λ v r. gives Any (record { places = f.place ∷ v.places; terms = more t v.terms }) tt)))))

  in_record : (own : Span) (xs : List Set) (sc : Scope) → PlacedScope sc → IsPlace text own → Sets xs → Sound Any (record_rule own xs sc)
  in_record own xs sc c h a =
      in_type sc xs no_term _ a
      (λ of. follows Any Any (unknowns (arity_at sc.signature of)) _ (any_unknowns (arity_at sc.signature of))
      (λ ss q. follows Any Any (values_rule own of ss [] xs sc) _ (in_values own of ss [] xs sc c h a)
      (λ v r. demands Any (test (nat_eq (length v.places) (length (fields_at sc.signature of))) (fault.MissingField own.from own.to)) _ (λ g. h)
      (gives Any (typed (build of ss (length (fields_at sc.signature of)) v.places v.terms) (NamedSort of ss)) tt))))

  in_update : (own : Span) (base : Part) (xs : List Set) (sc : Scope) → PlacedScope sc → IsPlace text own → SoundPart base → Sets xs → Sound Any (update_rule own base xs sc)
  in_update own base xs sc c h b a =
      follows Any Any (as_term sc base) _ (in_term sc base c b)
      (λ t q. in_type sc xs no_term _ a
      (λ of. follows Any Any (unknowns (arity_at sc.signature of)) _ (any_unknowns (arity_at sc.signature of))
      (λ ss r. demands Any (has_sort base.place (NamedSort of ss) t.sort) _ (λ g. b.place)
      (follows Any Any (values_rule own of ss [] xs sc) _ (in_values own of ss [] xs sc c h a)
      (λ v u. gives Any (typed (update of ss (length (fields_at sc.signature of)) t.tree v.places v.terms) (NamedSort of ss)) tt)))))

  -- ---- formulas
  placed_head : (h : Head) (c : Claim) → Placed c → Placed (claim_of_head h c)
  placed_head head.True c h = tt
  placed_head head.False c h = tt
  placed_head (head.Symbol n) c h = h
  placed_head (head.Build n) c h = h
  placed_head (head.Field n k) c h = h
  placed_head (head.Int o) c h = h
  placed_head (head.Real o) c h = h
  placed_head head.Void c h = h

  placed_claim : (t : Tree) → Placed (claim_of t)
  placed_claim (choice c s t) = tt
  placed_claim (apply h ss us) = placed_head h (holds (apply h ss us)) tt
  placed_claim (variable x) = tt
  placed_claim (numeral a b r) = tt
  placed_claim (operation o s us) = tt
  placed_claim (build of ss n ps us) = tt
  placed_claim (update of ss n b ps us) = tt

  in_truth : (place : Span) (r : Rule Typed) → IsPlace text place → Sound Any r → Sound Placed (truth_rule place r)
  in_truth place r h k = follows Any Placed r _ k (λ t q. demands Placed (has_bool place t.sort) _ (λ f. h) (gives Placed (claim_of t.tree) (placed_claim t.tree)))

  in_equation : (x : Relation) (a b : Part) (sc : Scope) → PlacedScope sc → SoundPart a → SoundPart b → Sound Placed (equation_rule x a b sc)
  in_equation x a b sc c h k =
      follows Any Placed (as_term sc a) _ (in_term sc a c h) (λ s q. follows Any Placed (wanted sc s.sort b) _ (in_wanted sc s.sort b c k) (λ t r. gives Placed (relation x s.tree t) tt))

  in_inequality : (x : Relation) (a b : Part) (sc : Scope) → PlacedScope sc → SoundPart a → SoundPart b → Sound Placed (inequality_rule x a b sc)
  in_inequality x a b sc c h k = follows Any Placed (operands sc IntOrReal a b) _ (in_operands sc IntOrReal a b c h k) (λ st q. gives Placed (relation x st.0.tree st.1) tt)

  in_one_sort : (sc : Scope) (s : Sort) (es : List Part) → PlacedScope sc → Parts es → Sound Any (of_one_sort sc s es)
  in_one_sort sc s [] c h = gives Any none tt
  in_one_sort sc s (e ∷ es) c h =
      follows Any Any (wanted sc s e) _ (in_wanted sc s e c h.0) (λ t q. follows Any Any (of_one_sort sc s es) _ (in_one_sort sc s es c h.1) (λ ts r. gives Any (more t ts) tt))

  in_distinct : (es : List Part) (sc : Scope) → PlacedScope sc → Parts es → Sound Placed (distinct_rule es sc)
  in_distinct [] sc c h = gives Placed (distinct none) tt
  in_distinct (e ∷ es) sc c h =
      follows Any Placed (as_term sc e) _ (in_term sc e c h.0)
      (λ t q. follows Any Placed (of_one_sort sc t.sort es) _ (in_one_sort sc t.sort es c h.1) (λ ts r. gives Placed (distinct (more t.tree ts)) tt))

  in_connective : (join : Claim → Claim → Claim) (a b : Part) (sc : Scope) → ((f g : Claim) → Placed (join f g)) → PlacedScope sc → SoundPart a → SoundPart b
      → Sound Placed (connective_rule join a b sc)
  in_connective join a b sc j c h k =
      follows Placed Placed (as_formula sc a) _ (in_formula sc a c h) (λ f q. follows Placed Placed (as_formula sc b) _ (in_formula sc b c k) (λ g r. gives Placed (join f g) (j f g)))

  in_conditional : (k a b : Part) (sc : Scope) → PlacedScope sc → SoundPart k → SoundPart a → SoundPart b → Sound Placed (conditional_rule k a b sc)
  in_conditional k a b sc c h i j =
      follows Placed Placed (as_formula sc k) _ (in_formula sc k c h)
      (λ f q. follows Placed Placed (as_formula sc a) _ (in_formula sc a c i) (λ g r. follows Placed Placed (as_formula sc b) _ (in_formula sc b c j) (λ x u. gives Placed (conditional f g x) tt)))

  in_predicate : (name : Span) (k : ℕ) (e : SymbolEntry) (args : List Part) (sc : Scope) → PlacedScope sc → IsPlace text name → Parts args → Sound Placed (predicate_rule name k e args sc)
  in_predicate name k e args sc c h a = follows Any Placed (application_rule name e args sc) _ (in_application name e args sc c h a) (λ x q. gives Placed (predicate k x.sorts x.args) tt)

  -- ---- blocks
  fine_new : (seen : List (List ℕ)) (xs : List Span) (sc : Scope) → AllByRecursion (IsIdentifier text) xs → AllByRecursion Fine (all_new seen xs sc)
  fine_new seen [] sc h = tt
  fine_new seen (x ∷ xs) sc h = ((λ f. h.0.place), fine_new (name_at sc x ∷ seen) xs sc h.1)

  any_variable : (sc : Scope) (s : Sort) (x : Span) → Sound Any (variable_of sc s x)
  any_variable sc s x = follows Any Any fresh _ any_fresh (λ n q. gives Any (record { name = name_at sc x; number = n; sort = s }) tt)

  in_groups : (seen : List (List ℕ)) (gs : List Group) (sc : Scope) → AllByRecursion (IsGroup text) gs → Sound Any (groups_rule seen gs sc)
  in_groups seen [] sc h = gives Any [] tt
  in_groups seen (g ∷ gs) sc h =
      follows Any Any (all_of (all_new seen g.names sc) (type_rule g.sort ground.Free sc)) _
      (demands_all Any (all_new seen g.names sc) (type_rule g.sort ground.Free sc) (fine_new seen g.names sc h.0.names) (at_type h.0.sort ground.Free sc))
      (λ s q. follows Any Any (each (variable_of sc s) g.names) _
      (forget (each (variable_of sc s) g.names) (of_each Any Any (variable_of sc s) (λ x k. any_variable sc s x) g.names (all_always Any (λ x. tt) g.names)))
      (λ bs r. follows Any Any (groups_rule (map (name_at sc) g.names ++ seen) gs sc) _ (in_groups (map (name_at sc) g.names ++ seen) gs sc h.1) (λ cs u. gives Any (bs ++ cs) tt)))

  placed_locals : (bs : List Bound) → AllByRecursion PlacedLocal (map local_of bs)
  placed_locals [] = tt
  placed_locals (b ∷ bs) = (tt, placed_locals bs)

  pub in_block_scope : (bs : List Bound) (sc : Scope) → PlacedScope sc → PlacedScope (with_block bs sc)
  in_block_scope bs sc c = all_append PlacedLocal (reverse (map local_of bs)) sc.locals (all_reversed PlacedLocal (map local_of bs) (placed_locals bs)) c

  -- triggers of what is merged with the block around it
  fine_covering : (xs : List ℕ) (ps : Patterns) → PlacedPatterns ps → AllByRecursion Fine (covering_all xs ps)
  fine_covering xs no_pattern h = tt
  fine_covering xs (and_pattern place us ps) h = ((λ f. h.0), fine_covering xs ps h.1)

  fine_merged : (xs : List ℕ) (ps : Patterns) (inner : List Condition) → PlacedPatterns ps → AllByRecursion Fine inner → AllByRecursion Fine (merging_triggers xs ps inner)
  fine_merged xs no_pattern inner h k = k
  fine_merged xs (and_pattern place us ps) inner h k = fine_covering xs (and_pattern place us ps) h

  fine_if : (b : Bool) (cs : List Condition) → AllByRecursion Fine cs → AllByRecursion Fine (elim b [ true ↦ cs | false ↦ [] ])
  fine_if true cs h = h
  fine_if false cs h = tt

  fine_merging : (q : Quantifier) (xs : List ℕ) (f : Claim) → Placed f → AllByRecursion Fine (merging q xs f)
  fine_merging q xs (quantified r ys ss ps f) h =
      fine_if (same_quantifier q r) (merging_triggers (xs ++ ys) ps (merging q (xs ++ ys) f)) (fine_merged (xs ++ ys) ps (merging q (xs ++ ys) f) h.0 (fine_merging q (xs ++ ys) f h.1))
  fine_merging q xs truth h = tt
  fine_merging q xs falsity h = tt
  fine_merging q xs (relation r s t) h = tt
  fine_merging q xs (predicate k ss us) h = tt
  fine_merging q xs (distinct us) h = tt
  fine_merging q xs (holds t) h = tt
  fine_merging q xs (negation a) h = tt
  fine_merging q xs (conjunction a b) h = tt
  fine_merging q xs (disjunction a b) h = tt
  fine_merging q xs (exclusion a b) h = tt
  fine_merging q xs (equivalence a b) h = tt
  fine_merging q xs (implication a b) h = tt
  fine_merging q xs (conditional c a b) h = tt

  fine_around : (around : Around) (f : Claim) → Placed f → AllByRecursion Fine (merging_into around f)
  fine_around None f h = tt
  fine_around (Some a) f h = fine_merging a.0 a.1 f h

  in_untested : (k : Class) (e : Part) (sc : Scope) → PlacedScope sc → SoundPart e → Sound Any (untested k e sc)
  in_untested formula e sc c h = follows Placed Any (as_formula sc e) _ (in_formula sc e c h) (λ f q. gives Any (pattern_of f) tt)
  in_untested either e sc c h = follows Any Any (as_term sc e) _ (in_term sc e c h) (λ t q. gives Any t.tree tt)
  in_untested term e sc c h = follows Any Any (as_term sc e) _ (in_term sc e c h) (λ t q. gives Any t.tree tt)

  in_pattern : (sc : Scope) (e : Part) → PlacedScope sc → SoundPart e → Sound Any (pattern_rule sc e)
  in_pattern sc e c h =
      follows Any Any (untested (e.class sc) e sc) _ (in_untested (e.class sc) e sc c h)
      (λ t q. demands Any (test (is_application t && not (has_choice t)) (fault.BadTrigger e.place.from e.place.to)) _ (λ f. h.place) (gives Any t tt))

  in_patterns : (sc : Scope) (es : List Part) → PlacedScope sc → Parts es → Sound Any (patterns_rule sc es)
  in_patterns sc [] c h = gives Any none tt
  in_patterns sc (e ∷ es) c h =
      follows Any Any (pattern_rule sc e) _ (in_pattern sc e c h.0) (λ t q. follows Any Any (patterns_rule sc es) _ (in_patterns sc es c h.1) (λ ts r. gives Any (more t ts) tt))

  first_place_within : (es : List Part) → Parts es → IsPlace text (first_place_of es)
  first_place_within [] h = omega arith
  first_place_within (e ∷ es) h = h.0.place

  in_triggers : (xs : List ℕ) (ts : List (List Part)) (sc : Scope) → PlacedScope sc → AllByRecursion Parts ts → Sound PlacedPatterns (triggers_rule xs ts sc)
  in_triggers xs [] sc c h = gives PlacedPatterns no_pattern tt
  in_triggers xs (es ∷ ts) sc c h =
      follows Any PlacedPatterns (patterns_rule sc es) _ (in_patterns sc es c h.0)
      (λ us q. demands PlacedPatterns (covering xs us (first_place_of es)) _ (λ f. first_place_within es h.0)
      (follows PlacedPatterns PlacedPatterns (triggers_rule xs ts sc) _ (in_triggers xs ts sc c h.1)
      (λ ps r. gives PlacedPatterns (and_pattern (first_place_of es) us ps) (first_place_within es h.0, r))))

  in_block : (q : Quantifier) (gs : List Group) (ts : List (List Part)) (body : Part) (sc : Scope) (around : Around) → PlacedScope sc → AllByRecursion (IsGroup text) gs
      → AllByRecursion Parts ts → SoundPart body → Sound Placed (block_rule q gs ts body sc around)
  in_block q gs ts body sc around c g a h =
      follows Any Placed (groups_rule [] gs sc) _ (in_groups [] gs sc g)
      (λ bs r. let inner = with_block bs sc in
      let xs = map (λ b. b.number) bs in
      let merged = merged_with q around ++ xs in
      let k = in_block_scope bs sc c in
      follows PlacedPatterns Placed (triggers_rule merged ts inner) _ (in_triggers merged ts inner k a)
      (λ ps u. follows Placed Placed (body.formula inner (around_body q merged ts) body.place) _ (h.formula inner k (around_body q merged ts) body.place h.place)
      (λ f v. gives Placed (quantified q xs (map (λ b. b.sort) bs) ps f) (u, v))))

  -- ---- expressions
  in_formula_term : (place : Span) (r : Rule Claim) → IsPlace text place → Sound Placed r → Sound Any (formula_in_term place r)
  in_formula_term place r h k = follows Placed Any r _ k (λ f q. refuses Any (fault.PropInTerm place.from place.to) no_term h tt)

  term_part : (own : Span) (r : Scope → Rule Typed) → IsPlace text own → ((sc : Scope) → PlacedScope sc → Sound Any (r sc)) → SoundPart (a_term_part own r)
  term_part own r h k = record { place = h; term = λ sc c at l. k sc c; formula = λ sc c around at l. in_truth at (r sc) l (k sc c) }

  formula_part : (own : Span) (r : Scope → Around → Rule Claim) → IsPlace text own → ((sc : Scope) → PlacedScope sc → (around : Around) → Sound Placed (r sc around))
      → SoundPart (a_formula_part own r)
  formula_part own r h k = record {
    place = h;
    term = λ sc c at l. in_formula_term at (r sc None) l (k sc c None);
    formula = λ sc c around at l. k sc c around;
  }

  in_binary : (o : BinaryOp) (own : Span) (a b : Part) → IsPlace text own → SoundPart a → SoundPart b → SoundPart (binary_part o own a b)
  in_binary binary.Implies own a b h i j = formula_part own (λ sc around. connective_rule implication a b sc) h (λ sc c around. in_connective implication a b sc (λ f g. tt) c i j)
  in_binary binary.Iff own a b h i j = formula_part own (λ sc around. connective_rule equivalence a b sc) h (λ sc c around. in_connective equivalence a b sc (λ f g. tt) c i j)
  in_binary binary.Xor own a b h i j = formula_part own (λ sc around. connective_rule exclusion a b sc) h (λ sc c around. in_connective exclusion a b sc (λ f g. tt) c i j)
  in_binary binary.Or own a b h i j = formula_part own (λ sc around. connective_rule disjunction a b sc) h (λ sc c around. in_connective disjunction a b sc (λ f g. tt) c i j)
  in_binary binary.And own a b h i j = formula_part own (λ sc around. connective_rule conjunction a b sc) h (λ sc c around. in_connective conjunction a b sc (λ f g. tt) c i j)
  in_binary binary.Equal own a b h i j = formula_part own (λ sc around. equation_rule equal a b sc) h (λ sc c around. in_equation equal a b sc c i j)
  in_binary binary.NotEqual own a b h i j = formula_part own (λ sc around. equation_rule unequal a b sc) h (λ sc c around. in_equation unequal a b sc c i j)
  in_binary binary.Less own a b h i j = formula_part own (λ sc around. inequality_rule less a b sc) h (λ sc c around. in_inequality less a b sc c i j)
  in_binary binary.AtMost own a b h i j = formula_part own (λ sc around. inequality_rule at_most a b sc) h (λ sc c around. in_inequality at_most a b sc c i j)
  in_binary binary.Greater own a b h i j = formula_part own (λ sc around. inequality_rule greater a b sc) h (λ sc c around. in_inequality greater a b sc c i j)
  in_binary binary.AtLeast own a b h i j = formula_part own (λ sc around. inequality_rule at_least a b sc) h (λ sc c around. in_inequality at_least a b sc c i j)
  in_binary binary.Add own a b h i j = term_part own (operation_rule op.Add a b) h (λ sc c. in_operation op.Add a b sc c i j)
  in_binary binary.Sub own a b h i j = term_part own (operation_rule op.Sub a b) h (λ sc c. in_operation op.Sub a b sc c i j)
  in_binary binary.Mul own a b h i j = term_part own (operation_rule op.Mul a b) h (λ sc c. in_operation op.Mul a b sc c i j)
  in_binary binary.Div own a b h i j = term_part own (operation_rule op.Div a b) h (λ sc c. in_operation op.Div a b sc c i j)
  in_binary binary.Rem own a b h i j = term_part own (operation_rule op.Mod a b) h (λ sc c. in_operation op.Mod a b sc c i j)

  in_bind : (x : Span) (k : Class) (e : Part) (sc : Scope) → PlacedScope sc → SoundPart e → Sound PlacedScope (bind x k e sc)
  in_bind x formula e sc c h = follows Placed PlacedScope (as_formula sc e) _ (in_formula sc e c h) (λ f q. gives PlacedScope (with_locals (named (name_at sc x) (a_formula f) ∷ []) sc) (q, c))
  in_bind x either e sc c h = follows Any PlacedScope (as_term sc e) _ (in_term sc e c h) (λ t q. gives PlacedScope (with_locals (named (name_at sc x) (a_term either t.tree t.sort) ∷ []) sc) (tt, c))
  in_bind x term e sc c h = follows Any PlacedScope (as_term sc e) _ (in_term sc e c h) (λ t q. gives PlacedScope (with_locals (named (name_at sc x) (a_term term t.tree t.sort) ∷ []) sc) (tt, c))

  in_let : (own x : Span) (e b : Part) → IsPlace text own → SoundPart e → SoundPart b → SoundPart (let_part own x e b)
  in_let own x e b h i j = record {
    place = h;
    term = λ sc c at l. follows PlacedScope Any (bind x (e.class sc) e sc) _ (in_bind x (e.class sc) e sc c i) (λ inner k. j.term inner k b.place j.place);
    formula = λ sc c around at l. follows PlacedScope Placed (bind x (e.class sc) e sc) _ (in_bind x (e.class sc) e sc c i) (λ inner k. j.formula inner k around b.place j.place);
  }

  -- what a name stands for
  abbrev PlacedName : Named → Type 0
  PlacedName (bound m) = PlacedMeaning m
  PlacedName (function k e s) = Unit {0}
  PlacedName (predicate_name k e) = Unit {0}
  PlacedName unknown = Unit {0}

  placed_result : (k : ℕ) (e : SymbolEntry) (r : Option Sort) → PlacedName (by_result k e r)
  placed_result k e (Some s) = tt
  placed_result k e None = tt

  placed_choice : (b : Bool) (m n : Named) → PlacedName m → PlacedName n → PlacedName (elim b [ true ↦ m | false ↦ n ])
  placed_choice true m n h k = h
  placed_choice false m n h k = k

  placed_symbol : (k : ℕ) (es : List SymbolEntry) (name : List ℕ) → PlacedName (symbol_from k es name)
  placed_symbol k [] name = tt
  placed_symbol k (e ∷ es) name =
      placed_choice (bytes_eq name e.name) (by_result k e e.result) (symbol_from (suc k) es name) (placed_result k e e.result) (placed_symbol (suc k) es name)

  placed_look_up : (ls : List Local) (outside : Named) (name : List ℕ) → AllByRecursion PlacedLocal ls → PlacedName outside → PlacedName (look_up ls outside name)
  placed_look_up [] outside name h k = k
  placed_look_up (l ∷ ls) outside name h k =
      placed_choice (bytes_eq name l.name) (bound l.meaning) (look_up ls outside name) h.0 (placed_look_up ls outside name h.1 k)

  placed_name : (sc : Scope) (name : List ℕ) → PlacedScope sc → PlacedName (meaning_of sc name)
  placed_name sc name c = placed_look_up sc.locals (symbol_from 0 sc.signature.symbols name) name c (placed_symbol 0 sc.signature.symbols name)

  in_name_term : (name : Span) (args : List Part) (sc : Scope) (at : Span) (n : Named) → PlacedScope sc → IsPlace text name → IsPlace text at → Parts args → PlacedName n
      → Sound Any (name_term name args sc at n)
  in_name_term name args sc at (bound (a_variable x s)) c h l a k = demands Any (no_arguments name args) _ (λ f. h) (gives Any (typed (variable x) s) tt)
  in_name_term name args sc at (bound (a_term d t s)) c h l a k = demands Any (no_arguments name args) _ (λ f. h) (gives Any (typed t s) tt)
  in_name_term name args sc at (bound (a_formula f)) c h l a k = demands Any (no_arguments name args) _ (λ g. h) (in_formula_term at (give f) l (gives Placed f k))
  in_name_term name args sc at (function n e s) c h l a k = in_function name n e s args sc c h a
  in_name_term name args sc at (predicate_name n e) c h l a k = in_formula_term at (predicate_rule name n e args sc) l (in_predicate name n e args sc c h a)
  in_name_term name args sc at unknown c h l a k = refuses Any (fault.UnknownName (name_at sc name) name.from name.to) no_term h tt

  in_name_formula : (name : Span) (args : List Part) (sc : Scope) (around : Around) (at : Span) (n : Named) → PlacedScope sc → IsPlace text name → IsPlace text at → Parts args → PlacedName n
      → Sound Placed (name_formula name args sc around at n)
  in_name_formula name args sc around at (bound (a_formula f)) c h l a k =
      demands Placed (no_arguments name args) _ (λ g. h) (demands_all Placed (merging_into around f) (give f) (fine_around around f k) (gives Placed f k))
  in_name_formula name args sc around at (predicate_name n e) c h l a k = in_predicate name n e args sc c h a
  in_name_formula name args sc around at (bound (a_variable x s)) c h l a k = in_truth at _ l (in_name_term name args sc at (bound (a_variable x s)) c h l a k)
  in_name_formula name args sc around at (bound (a_term d t s)) c h l a k = in_truth at _ l (in_name_term name args sc at (bound (a_term d t s)) c h l a k)
  in_name_formula name args sc around at (function n e s) c h l a k = in_truth at _ l (in_name_term name args sc at (function n e s) c h l a k)
  in_name_formula name args sc around at unknown c h l a k = in_truth at _ l (in_name_term name args sc at unknown c h l a k)

  in_name : (own name : Span) (args : List Part) → IsPlace text own → IsPlace text name → Parts args → SoundPart (name_part own name args)
  in_name own name args h k a = record {
    place = h;
    term = λ sc c at l. in_name_term name args sc at (meaning_of sc (name_at sc name)) c k l a (placed_name sc (name_at sc name) c);
    formula = λ sc c around at l. in_name_formula name args sc around at (meaning_of sc (name_at sc name)) c k l a (placed_name sc (name_at sc name) c);
  }

  in_constant : (own : Span) (t : Tree) (f : Claim) → IsPlace text own → Placed f → SoundPart (constant_part own t f)
  in_constant own t f h k = record { place = h; term = λ sc c at l. gives Any (typed t BoolSort) tt; formula = λ sc c around at l. gives Placed f k }

  in_if : (own : Span) (k a b : Part) → IsPlace text own → SoundPart k → SoundPart a → SoundPart b → SoundPart (if_part own k a b)
  in_if own k a b h i j l = record { place = h; term = λ sc c at m. in_choice k a b sc c i j l; formula = λ sc c around at m. in_conditional k a b sc c i j l }

  in_brackets : (own : Span) (e : Part) → IsPlace text own → SoundPart e → SoundPart (bracketed_part own e)
  in_brackets own e h i = record { place = h; term = i.term; formula = i.formula }

  -- the part that the grammar builds
  by_rule : (s : Span) (k : ExprKind) (p : Span → Part) → kind_part k ≡ p → SoundPart (p s) → SoundPart (part_of (expression s k))
  by_rule s k p e h = subst SoundPart (sym (built_part s k ∙ ap (λ (f : Span → Part). f s) e)) h

  mutual
    pub at_tree : {e : Expr} → IsTree text e → SoundPart (part_of e)
    at_tree (is_binary s o a b h i j) = by_rule s _ _ (kind_binary o a b) (in_binary o s (part_of a) (part_of b) h (at_tree i) (at_tree j))
    at_tree (is_not s a h i) =
        by_rule s _ _ (kind_not a) (formula_part s (λ sc around. as_formula sc (part_of a) >> λ f. give (negation f)) h
        (λ sc c around. follows Placed Placed (as_formula sc (part_of a)) _ (in_formula sc (part_of a) c (at_tree i)) (λ f q. gives Placed (negation f) tt)))
    at_tree (is_negative s a h i) = by_rule s _ _ (kind_negative a) (term_part s (negative_rule (part_of a)) h (λ sc c. in_negative (part_of a) sc c (at_tree i)))
    at_tree (is_quantified s q gs ts b h g a i) =
        by_rule s _ _ (kind_quantified q gs ts b) (formula_part s (block_rule q gs (map trigger_of ts) (part_of b)) h (λ sc c around. in_block q gs (map trigger_of ts) (part_of b) sc around c g (at_triggers a) (at_tree i)))
    at_tree (is_let s n a b h k i j) = by_rule s _ _ (kind_let n a b) (in_let s n (part_of a) (part_of b) h (at_tree i) (at_tree j))
    at_tree (is_if s c a b h i j k) = by_rule s _ _ (kind_if c a b) (in_if s (part_of c) (part_of a) (part_of b) h (at_tree i) (at_tree j) (at_tree k))
    at_tree (is_field s a n h i k) = by_rule s _ _ (kind_field a n) (term_part s (field_rule (part_of a) n) h (λ sc c. in_projection (part_of a) n sc c (at_tree i) k.place))
    at_tree (is_apply s n es h k a) = by_rule s _ _ (kind_apply n es) (in_name s n (map part_of es) h k.place (at_trees a))
    at_tree (is_numeral s n h k) = by_rule s _ _ (kind_numeral n) (term_part s (λ sc. numeral_rule n) h (λ sc c. any_numeral n))
    at_tree (is_true s h) = by_rule s _ _ kind_true (in_constant s (constant head.True) truth h tt)
    at_tree (is_false s h) = by_rule s _ _ kind_false (in_constant s (constant head.False) falsity h tt)
    at_tree (is_void s h) = by_rule s _ _ kind_void (term_part s (λ sc. give (typed (constant head.Void) UnitSort)) h (λ sc c. gives Any (typed (constant head.Void) UnitSort) tt))
    at_tree (is_bracketed s a h i) = by_rule s _ _ (kind_bracketed a) (in_brackets s (part_of a) h (at_tree i))
    at_tree (is_ascribed s a w h i k) = by_rule s _ _ (kind_ascribed a w) (term_part s (ascribed_rule (part_of a) w) h (λ sc c. in_ascribed (part_of a) w sc c (at_tree i) k))
    at_tree (is_distinct s es h a) = by_rule s _ _ (kind_distinct es) (formula_part s (λ sc around. distinct_rule (map part_of es) sc) h (λ sc c around. in_distinct (map part_of es) sc c (at_trees a)))
    at_tree (is_record s xs h a) = by_rule s _ _ (kind_record xs) (term_part s (record_rule s (map set_of xs)) h (λ sc c. in_record s (map set_of xs) sc c h (at_settings a)))
    at_tree (is_update s e xs h i a) = by_rule s _ _ (kind_update e xs) (term_part s (update_rule s (part_of e) (map set_of xs)) h (λ sc c. in_update s (part_of e) (map set_of xs) sc c h (at_tree i) (at_settings a)))

    at_trees : {es : List Expr} → AreTrees text es → Parts (map part_of es)
    at_trees no_trees = tt
    at_trees (and_tree e es h a) = (at_tree h, at_trees a)

    at_triggers : {ts : List Trigger} → AreTriggers text ts → AllByRecursion Parts (map trigger_of ts)
    at_triggers no_triggers = tt
    at_triggers (and_trigger s es ts a b) = (subst Parts (sym (built_trigger s es)) (at_trees a), at_triggers b)

    at_settings : {xs : List Setting} → AreSettings text xs → Sets (map set_of xs)
    at_settings no_settings = tt
    at_settings (and_setting s n e xs k h a) = (subst SoundSet (sym (built_setting s n e)) (record { name = k.place; value = at_tree h }), at_settings a)
