-- Where its conditions are met, a rule gives trees whose sorts fit: terms.
use Rattle.std.proofs.Common.{arith, ◌≡◌, ◌≢◌, ◌∙◌, inl, inr, ◌<◌, ◌+◌, ℕ, zero, suc, Bool, true, false, not, nat_eq, nat_lt, List, [], ◌∷◌, map}
use Rattle.std.proofs.Common.{length, refl, sym, ap, subst, Option, Some, None, slice_get}
use Rattle.std.specs.List.{AllByRecursion, list_all, list_any}
use Rattle.std.specs.Str.{bytes_eq}
use Rattle.std.proofs.lemmas.Bool.{and_parts, and_from, not-true, eqb-true, eq-eqb}
use Rattle.std.proofs.lemmas.List.{length-map}
use Rattle.std.proofs.lemmas.Option.{none-some, same_Some, slice_get_within}
use Rattle.ae_base.specs.Options.{or_else, ◌>>=◌, only, when}
use Rattle.ae_base.proofs.AllOf.{all_weaker}
use Rattle.ae_base.proofs.Decided.{decided_of}
use Rattle.ae_base.proofs.ListFacts.{list_all_at}
use Rattle.ae_base.proofs.Tests.{false_true}
use Rattle.ae_core.specs.Decided.{Sorts_discrete}
use Rattle.ae_core.specs.Putting.{put_sort}
use Rattle.ae_core.specs.Signatures.{fields_of, is_sort_over, is_field_sort, names_below, is_result, IsLawfulType, IsLawful}
use Rattle.ae_core.specs.Sorts.{type_fits, head_sort, symbol_sort, field_at, operands as operand_sorts, same_sorts}
use Rattle.ae_core.proofs.SortLaws.{ok_unit, ok_var}
use Rattle.ae_core.specs.declared.terms.Sort.{Sort, Var, Unit as UnitSort, Named as NamedSort}
use Rattle.ae_core.specs.declared.terms.Head.TheVariants as head
use Rattle.ae_core.specs.declared.terms.Op.{Op}
use Rattle.ae_core.specs.declared.terms.Op.TheVariants as op
use Rattle.ae_core.specs.declared.problems.Signature.{Signature}
use Rattle.ae_core.specs.declared.problems.SymbolEntry.{SymbolEntry}
use Rattle.ae_core.specs.declared.problems.TypeEntry.{TypeEntry}
use Rattle.ae_core.specs.declared.problems.FieldEntry.{FieldEntry}
use Rattle.ae_core.specs.declared.problems.Kind.{Kind}
use Rattle.ae_core.specs.declared.problems.Kind.TheVariants.{Abstract, Choices, Fields}
use Rattle.ae_types.specs.Substitutions.{put}
use Rattle.ae_syntax.specs.declared.spans.Span.{Span}
use Rattle.ae_syntax.specs.declared.types.WrittenType.{WrittenType}
use Rattle.ae_elab.specs.declared.faults.TypeFault.{TypeFault}
use Rattle.ae_elab.specs.declared.faults.TypeFault.TheVariants as fault
use Rattle.ae_elab.specs.declared.fields.FieldPlace.{FieldPlace}
use Rattle.ae_elab.specs.declared.numbers.Numbers.{Numbers}
use Rattle.ae_elab.specs.declared.numbers.Numbers.TheVariants.{IntOrReal}
use Rattle.ae_elab.specs.declared.grounds.Ground.TheVariants as ground
use Rattle.ae_elab.specs.Conditions.{IsOneOf, sorts_among, test, has_sort, has_operand_sort, may_be, becomes}
use Rattle.ae_elab.specs.Trees.{Tree, Trees, Claim, none, more, apply, operation, build, update, choice}
use Rattle.ae_elab.specs.Scope.{Scope, Meaning, a_variable, a_term, a_formula, Local, first_place, after_one, in_type, field_from, field_place}
use Rattle.ae_elab.specs.Scope.{name_at, scope_with}
use Rattle.ae_elab.specs.Rules.{Passed, Rule, give, ◌>>◌, ◌⇒◌, refuse, fresh, unknowns, Typed, typed, no_term, Around, Part, Set, as_term, as_formula}
use Rattle.ae_elab.specs.Rules.{wanted, all_wanted}
use Rattle.ae_elab.specs.WrittenTypes.{type_rule}
use Rattle.ae_elab.specs.Terms.{numbers_of, operands, operation_rule, negative_rule, ascribed_rule, choice_rule, Applied, application_rule}
use Rattle.ae_elab.specs.Terms.{function_rule, fields_at, arity_at, field_sort, with_field, field_rule, Values, no_values, values_rule, with_type}
use Rattle.ae_elab.specs.Terms.{record_rule, update_rule}
use Rattle.ae_elab.proofs.PutLaws.{put_unit, put_named}
use Rattle.ae_typed_laws.proofs.MetConditions as met
use Rattle.ae_typed_laws.proofs.MetConditions.{IsMetOne, Grows, grows_not, grows_then}
use Rattle.ae_lawful_problems.proofs.FitRules.{Gives, gives_value, gives_then, gives_after}
use Rattle.ae_typed_laws.proofs.ParsedTrees.{IsWritten}
use Rattle.ae_typed_laws.proofs.SortRules.{ok_weaker, IsFree, sort_given}
use Rattle.ae_lawful_problems.proofs.SortedTrees.{Env, look, fits, AllFit, IsNumber, IsRecordType, AreFieldSorts, Sorted, of_apply, of_operation}
use Rattle.ae_lawful_problems.proofs.SortedTrees.{of_build, of_update, of_choice, AreSorted, of_none, of_more, Fitting}
use Rattle.ae_lawful_problems.proofs.SortedTerms.{field_head}
use Rattle.ae_lawful_problems.proofs.WrittenPlaces.{Once, all_there}
use Rattle.ae_lawful_problems.proofs.TestsOnly.{type_tests}
use Rattle.ae_lawful_problems.proofs.PutFits.{named_fits, over_fits, put_changes, put_changed, puts_changed}

-- ---- a field's name
chosen_field : {X : Type 0} (p : X → Bool) (x : X) (b : Bool) (o : Option ℕ) (xs : List X) (n : ℕ) → ((k : ℕ) → o ≡ Some k → (y : X) × (slice_get xs k ≡ Some y))
    → elim b [ true ↦ Some 0 | false ↦ after_one o ] ≡ Some n → (y : X) × (slice_get (x ∷ xs) n ≡ Some y)
chosen_field p x true o xs n h e = (x, ap (slice_get (x ∷ xs)) (sym (same_Some 0 n e)))
chosen_field p x false None xs n h e = absurd (none-some n e)
chosen_field p x false (Some k) xs n h e = let y = h k refl in (y.0, ap (slice_get (x ∷ xs)) (sym (same_Some (suc k) n e)) ∙ y.1)

first_there : {X : Type 0} (p : X → Bool) (xs : List X) (n : ℕ) → first_place p xs ≡ Some n → (y : X) × (slice_get xs n ≡ Some y)
first_there p [] n e = absurd (none-some n e)
first_there p (x ∷ xs) n e = chosen_field p x (p x) (first_place p xs) xs n (λ k f. first_there p xs k f) e

-- the type, the fields and the field that a field's place names
pub record IsFieldOf (ts : List TypeEntry) (of place : ℕ) : Type 0 where
  pub entry : TypeEntry
  pub field : FieldEntry
  pub declared : slice_get ts of ≡ Some entry
  pub there : slice_get (fields_of entry) place ≡ Some field

chosen_type : (before : ℕ) (t : TypeEntry) (ts : List TypeEntry) (o : Option ℕ) (later : Option FieldPlace) (f : FieldPlace) → in_type before o later ≡ Some f
    → ((k : ℕ) → o ≡ Some k → (y : FieldEntry) × (slice_get (fields_of t) k ≡ Some y)) → (later ≡ Some f → (j : ℕ) × (f.of ≡ suc before + j) × IsFieldOf ts j f.place)
    → (j : ℕ) × (f.of ≡ before + j) × IsFieldOf (t ∷ ts) j f.place
chosen_type before t ts (Some k) later f e h l =
    let i = same_Some (record { of = before; place = k }) f e in
    let y = h k refl in (
      0,
      let z = ap (λ (x : FieldPlace). x.of) i in omega (arith, z),
      record { entry = t; field = y.0; declared = refl; there = ap (slice_get (fields_of t)) (sym (ap (λ (x : FieldPlace). x.place) i)) ∙ y.1 },
    )
chosen_type before t ts None later f e h l =
    let x = l e in
    (suc x.0, let z = x.1 in omega (arith, z), record { entry = x.2.entry; field = x.2.field; declared = x.2.declared; there = x.2.there })

field_there : (before : ℕ) (ts : List TypeEntry) (name : List ℕ) (f : FieldPlace) → field_from before ts name ≡ Some f → (j : ℕ) × (f.of ≡ before + j) × IsFieldOf ts j f.place
field_there before [] name f e = absurd (none-some f e)
field_there before (t ∷ ts) name f e =
    chosen_type before t ts (first_place (λ (x : FieldEntry). bytes_eq name x.name) (fields_of t)) (field_from (suc before) ts name) f e
    (λ k g. first_there (λ (x : FieldEntry). bytes_eq name x.name) (fields_of t) k g) (field_there (suc before) ts name f)

pub field_is : (sig : Signature) (name : List ℕ) (f : FieldPlace) → field_place sig name ≡ Some f → IsFieldOf sig.types f.of f.place
field_is sig name f e =
    let x = field_there 0 sig.types name f e in
    subst (λ (k : ℕ). IsFieldOf sig.types k f.place) (let z = x.1 in omega (arith, z)) x.2

-- a type with a field is a record type
pub record_kind : (k : Kind) (e : TypeEntry) (place : ℕ) (x : FieldEntry) → e.kind ≡ k → slice_get (fields_of e) place ≡ Some x → e.kind ≡ Fields (fields_of e)
record_kind (Fields fs) e place x q g = q ∙ ap Fields (sym (ap (λ k. elim k [ Fields fs ↦ fs | Abstract ↦ [] | Choices cs ↦ [] ]) q))
record_kind Abstract e place x q g = absurd (none-some x (sym (ap (λ (fs : List FieldEntry). slice_get fs place) (ap (λ k. elim k [ Fields fs ↦ fs | Abstract ↦ [] | Choices cs ↦ [] ]) q)) ∙ g))
record_kind (Choices cs) e place x q g = absurd (none-some x (sym (ap (λ (fs : List FieldEntry). slice_get fs place) (ap (λ k. elim k [ Fields fs ↦ fs | Abstract ↦ [] | Choices cs ↦ [] ]) q)) ∙ g))

module _ (F : Signature) (law : IsLawful F) (m : ℕ → Sort) (text : List ℕ) where
  abbrev pub Fit : Sort → Type 0
  Fit s = fits F s ≡ true

  abbrev pub MeaningFits : Env → Meaning → Type 0
  MeaningFits env (a_variable x s) = (look env x ≡ Some (put m s)) × Fit s
  MeaningFits env (a_term c t s) = Sorted F m env t (put m s) × Fit s
  MeaningFits env (a_formula f) = Fitting F m env f

  abbrev pub LocalFits : Env → Local → Type 0
  LocalFits env l = MeaningFits env l.meaning

  -- what is known at a place of a text fits
  pub record Lies (env : Env) (p : Passed) (sc : Scope) : Type 0 where
    pub text_is : sc.text ≡ text
    pub types : (h : ℕ) (e : TypeEntry) → slice_get sc.signature.types h ≡ Some e → slice_get F.types h ≡ Some e
    pub symbols : (h : ℕ) (e : SymbolEntry) → slice_get sc.signature.symbols h ≡ Some e → slice_get F.symbols h ≡ Some e
    pub locals : AllByRecursion (LocalFits env) sc.locals
    pub below : AllByRecursion (λ b. b.0 < p.next) env

  pub lies_later : (env : Env) (p q : Passed) (sc : Scope) → Grows m p q → Lies env p sc → Lies env q sc
  lies_later env p q sc g l = record {
    text_is = l.text_is;
    types = l.types;
    symbols = l.symbols;
    locals = l.locals;
    below = all_weaker (λ (b : ℕ × Sort). b.0 < p.next) (λ (b : ℕ × Sort). b.0 < q.next) (λ b h. let n = g.next in omega (arith, h, n)) env l.below;
  }

  abbrev pub TypedFits : Env → Typed → Passed → Type 0
  TypedFits env t q = Sorted F m env t.tree (put m t.sort) × Fit t.sort

  abbrev pub TreeFits : Env → Sort → Tree → Passed → Type 0
  TreeFits env s t q = Sorted F m env t (put m s)

  abbrev pub ClaimFits : Env → Claim → Passed → Type 0
  ClaimFits env f q = Fitting F m env f

  pub record FitsPart (e : Part) : Type 0 where
    pub term : (env : Env) (sc : Scope) (p : Passed) → Lies env p sc → (at : Span) → Gives F m p (TypedFits env) (e.term sc at)
    pub formula : (env : Env) (sc : Scope) (p : Passed) → Lies env p sc → (around : Around) (at : Span) → Gives F m p (ClaimFits env) (e.formula sc around at)

  pub record FitsSet (x : Set) : Type 0 where
    pub value : FitsPart x.value

  -- a condition that nothing meets
  pub refused : {A : Type 0} (Q : A → Passed → Type 0) (e : TypeFault) (x : A) (p : Passed) → Gives F m p Q (refuse e x)
  refused Q e x p = record { by = λ c. false_true c.0 }

  pub typed_at : (env : Env) (t : Tree) (s : Sort) (q : Passed) → Sorted F m env t s → put m s ≡ s → Fit s → TypedFits env (typed t s) q
  typed_at env t s q h e f = (subst (Sorted F m env t) (sym e) h, f)

  -- ---- new unknowns
  record Unknown (n : ℕ) (ss : List Sort) (q : Passed) : Type 0 where
    pub count : length ss ≡ n
    pub fit : AllFit F ss

  new_unknowns : (n : ℕ) (p : Passed) → Gives F m p (Unknown n) (unknowns n)
  new_unknowns zero p = gives_value F m (Unknown 0) [] p (record { count = refl; fit = tt })
  new_unknowns (suc n) p =
      gives_then F m (λ k q. Unit {0}) (Unknown (suc n)) fresh (λ k. unknowns n >> λ ss. give (Var k ∷ ss)) p
      (record { by = λ c. record { fit = tt; grows = record { next = omega arith; written = omega arith }; value = tt } })
      (λ k q g x. gives_then F m (Unknown n) (Unknown (suc n)) (unknowns n) (λ ss. give (Var k ∷ ss)) q (new_unknowns n q)
      (λ ss r h u. gives_value F m (Unknown (suc n)) (Var k ∷ ss) r (record { count = ap suc u.count; fit = (ok_var F (λ i. true) (λ i. true) k, u.fit) })))

  module _ (env : Env) (sc : Scope) where
    in_term : (e : Part) (p : Passed) → Lies env p sc → FitsPart e → Gives F m p (TypedFits env) (as_term sc e)
    in_term e p l h = h.term env sc p l e.place

    pub in_formula : (e : Part) (p : Passed) → Lies env p sc → FitsPart e → Gives F m p (ClaimFits env) (as_formula sc e)
    in_formula e p l h = h.formula env sc p l None e.place

    pub in_wanted : (s : Sort) (e : Part) (p : Passed) → Lies env p sc → FitsPart e → Fit s → Gives F m p (TreeFits env s) (wanted sc s e)
    in_wanted s e p l h f =
        gives_then F m (TypedFits env) (TreeFits env s) (as_term sc e) (λ t. has_sort e.place s t.sort ⇒ give t.tree) p (in_term e p l h)
        (λ t q g x. gives_after F m (TreeFits env s) (has_sort e.place s t.sort) (give t.tree) q (f, x.1)
        (λ i. gives_value F m (TreeFits env s) t.tree q (subst (Sorted F m env t.tree) (sym i) x.0)))

    abbrev ListFits : List Sort → Trees → Passed → Type 0
    ListFits ss us q = AreSorted F m env us (map (put m) ss)

    in_all_wanted : (ss : List Sort) (es : List Part) (p : Passed) → Lies env p sc → AllByRecursion FitsPart es → length ss ≡ length es → AllFit F ss → Gives F m p (ListFits ss) (all_wanted sc ss es)
    in_all_wanted [] [] p l h e f = gives_value F m (ListFits []) none p (of_none env)
    in_all_wanted [] (x ∷ es) p l h e f = absurd (omega (arith, e))
    in_all_wanted (s ∷ ss) [] p l h e f = absurd (omega (arith, e))
    in_all_wanted (s ∷ ss) (x ∷ es) p l h e f =
        gives_then F m (TreeFits env s) (ListFits (s ∷ ss)) (wanted sc s x) (λ t. all_wanted sc ss es >> λ ts. give (more t ts)) p (in_wanted s x p l h.0 f.0)
        (λ t q g u. gives_then F m (ListFits ss) (ListFits (s ∷ ss)) (all_wanted sc ss es) (λ ts. give (more t ts)) q
        (in_all_wanted ss es q (lies_later env p q sc g l) h.1 (omega (arith, e)) f.1)
        (λ ts r i v. gives_value F m (ListFits (s ∷ ss)) (more t ts) r (of_more env t ts (put m s) (map (put m) ss) u v)))

    -- ---- arithmetic
    pub record OperandsFit (n : Numbers) (st : Typed × Tree) (q : Passed) : Type 0 where
      pub left : Sorted F m env st.0.tree (put m st.0.sort)
      pub right : Sorted F m env st.1 (put m st.0.sort)
      pub one : IsOneOf (put m st.0.sort) (sorts_among n)
      pub fit : Fit st.0.sort

    pub in_operands : (n : Numbers) (a b : Part) (p : Passed) → Lies env p sc → FitsPart a → FitsPart b → Gives F m p (OperandsFit n) (operands sc n a b)
    in_operands n a b p l h k =
        gives_then F m (TypedFits env) (OperandsFit n) (as_term sc a)
        (λ s. may_be a.place n s.sort ⇒ as_term sc b >> λ t. may_be a.place n s.sort ⇒ has_operand_sort b.place s.sort t.sort ⇒ may_be b.place IntOrReal t.sort ⇒ becomes a.place n s.sort ⇒ give (s, t.tree)) p
        (in_term a p l h)
        (λ s q g x. gives_after F m (OperandsFit n) (may_be a.place n s.sort)
        (as_term sc b >> λ t. may_be a.place n s.sort ⇒ has_operand_sort b.place s.sort t.sort ⇒ may_be b.place IntOrReal t.sort ⇒ becomes a.place n s.sort ⇒ give (s, t.tree)) q x.1
        (λ c. gives_then F m (TypedFits env) (OperandsFit n) (as_term sc b)
        (λ t. may_be a.place n s.sort ⇒ has_operand_sort b.place s.sort t.sort ⇒ may_be b.place IntOrReal t.sort ⇒ becomes a.place n s.sort ⇒ give (s, t.tree)) q
        (in_term b q (lies_later env p q sc g l) k)
        (λ t r i y. gives_after F m (OperandsFit n) (may_be a.place n s.sort) (has_operand_sort b.place s.sort t.sort ⇒ may_be b.place IntOrReal t.sort ⇒ becomes a.place n s.sort ⇒ give (s, t.tree)) r x.1
        (λ c. gives_after F m (OperandsFit n) (has_operand_sort b.place s.sort t.sort) (may_be b.place IntOrReal t.sort ⇒ becomes a.place n s.sort ⇒ give (s, t.tree)) r (x.1, y.1)
        (λ e. gives_after F m (OperandsFit n) (may_be b.place IntOrReal t.sort) (becomes a.place n s.sort ⇒ give (s, t.tree)) r y.1
        (λ c. gives_after F m (OperandsFit n) (becomes a.place n s.sort) (give (s, t.tree)) r x.1
        (λ o. gives_value F m (OperandsFit n) (s, t.tree) r (record { left = x.0; right = subst (Sorted F m env t.tree) (sym e) y.0; one = o; fit = x.1 }))))))))

    number_of : (o : Op) (t : Sort) → IsOneOf t (sorts_among (numbers_of o)) → IsNumber o t
    number_of op.Mod t (inl e) = inl e
    number_of op.Mod t (inr x) = absurd x
    number_of op.Add t (inl e) = inl e
    number_of op.Add t (inr (inl e)) = inr (e, refl)
    number_of op.Add t (inr (inr x)) = absurd x
    number_of op.Sub t (inl e) = inl e
    number_of op.Sub t (inr (inl e)) = inr (e, refl)
    number_of op.Sub t (inr (inr x)) = absurd x
    number_of op.Mul t (inl e) = inl e
    number_of op.Mul t (inr (inl e)) = inr (e, refl)
    number_of op.Mul t (inr (inr x)) = absurd x
    number_of op.Div t (inl e) = inl e
    number_of op.Div t (inr (inl e)) = inr (e, refl)
    number_of op.Div t (inr (inr x)) = absurd x
    number_of op.Neg t (inl e) = inl e
    number_of op.Neg t (inr (inl e)) = inr (e, refl)
    number_of op.Neg t (inr (inr x)) = absurd x

    pub in_operation : (o : Op) → ((t : Sort) → operand_sorts o (t ∷ []) ≡ t ∷ t ∷ []) → (a b : Part) (p : Passed) → Lies env p sc → FitsPart a → FitsPart b → Gives F m p (TypedFits env) (operation_rule o a b sc)
    in_operation o two a b p l h k =
        gives_then F m (OperandsFit (numbers_of o)) (TypedFits env) (operands sc (numbers_of o) a b) (λ st. give (typed (operation o st.0.sort (more st.0.tree (more st.1 none))) st.0.sort)) p
        (in_operands (numbers_of o) a b p l h k)
        (λ st q g x. let t = put m st.0.sort in
        gives_value F m (TypedFits env) (typed (operation o st.0.sort (more st.0.tree (more st.1 none))) st.0.sort) q (
          of_operation env o st.0.sort (more st.0.tree (more st.1 none)) t refl (number_of o t x.one)
              (subst (AreSorted F m env (more st.0.tree (more st.1 none))) (sym (two t))
              (of_more env st.0.tree (more st.1 none) t (t ∷ []) x.left (of_more env st.1 none t [] x.right (of_none env)))),
          x.fit,
        ))

    pub in_negative : (a : Part) (p : Passed) → Lies env p sc → FitsPart a → Gives F m p (TypedFits env) (negative_rule a sc)
    in_negative a p l h =
        gives_then F m (TypedFits env) (TypedFits env) (as_term sc a)
        (λ s. may_be a.place IntOrReal s.sort ⇒ becomes a.place IntOrReal s.sort ⇒ give (typed (operation op.Neg s.sort (more s.tree none)) s.sort)) p (in_term a p l h)
        (λ s q g x. let t = put m s.sort in
        gives_after F m (TypedFits env) (may_be a.place IntOrReal s.sort) (becomes a.place IntOrReal s.sort ⇒ give (typed (operation op.Neg s.sort (more s.tree none)) s.sort)) q x.1
        (λ c. gives_after F m (TypedFits env) (becomes a.place IntOrReal s.sort) (give (typed (operation op.Neg s.sort (more s.tree none)) s.sort)) q x.1
        (λ o. gives_value F m (TypedFits env) (typed (operation op.Neg s.sort (more s.tree none)) s.sort) q
        (of_operation env op.Neg s.sort (more s.tree none) t refl (number_of op.Neg t o) (of_more env s.tree none t [] x.0 (of_none env)), x.1))))

    -- ---- written sorts
    -- ---- written sorts
    type_case : {p : Passed} → Lies env p sc → (h n : ℕ) (o : Option TypeEntry) → slice_get sc.signature.types h ≡ o → or_else (o >>= λ (e : TypeEntry). Some (nat_eq e.arity n)) false ≡ true → type_fits F h n ≡ true
    type_case l h n (Some e) g f = ap (λ o. or_else (o >>= λ (e : TypeEntry). Some (nat_eq e.arity n)) false) (l.types h e g) ∙ f
    type_case l h n None g f = false_true f

    type_stays : {p : Passed} → Lies env p sc → (h n : ℕ) → type_fits sc.signature h n ≡ true → type_fits F h n ≡ true
    type_stays l h n f = type_case l h n (slice_get sc.signature.types h) refl f

    pub free_fits : {p : Passed} → Lies env p sc → (s : Sort) (q : Passed) → IsFree m sc.signature s q → Fit s
    free_fits l s q h =
        ok_weaker sc.signature F (λ i. false) (λ i. nat_lt i (length q.written)) (λ i. true) (λ i. true) (type_stays l) (λ i e. refl) (λ i e. refl) s h

    in_this_text : {p : Passed} → Lies env p sc → scope_with text sc.signature sc.locals ≡ sc
    in_this_text l = λ i. scope_with (sym l.text_is i) sc.signature sc.locals

    pub in_written : (w : WrittenType) (p : Passed) → Lies env p sc → IsWritten text w → Gives F m p (λ s q. Fit s) (type_rule w ground.Free sc)
    in_written w p l h =
        let r = subst (λ (z : Scope). met.Gives m p (IsFree m sc.signature) (type_rule w ground.Free z)) (in_this_text l) (sort_given m sc.signature text sc.locals ground.Free tt h p) in
        record { by = λ c. let a = r.by c in record { fit = (type_tests F text h).at ground.Free sc p; grows = a.grows; value = free_fits l (type_rule w ground.Free sc p).value (type_rule w ground.Free sc p).passed a.value } }

    pub in_ascribed : (e : Part) (w : WrittenType) (p : Passed) → Lies env p sc → FitsPart e → IsWritten text w → Gives F m p (TypedFits env) (ascribed_rule e w sc)
    in_ascribed e w p l h k =
        gives_then F m (TypedFits env) (TypedFits env) (as_term sc e) (λ t. type_rule w ground.Free sc >> λ s. has_sort e.place s t.sort ⇒ give (typed t.tree s)) p (in_term e p l h)
        (λ t q g x. gives_then F m (λ s q. Fit s) (TypedFits env) (type_rule w ground.Free sc) (λ s. has_sort e.place s t.sort ⇒ give (typed t.tree s)) q (in_written w q (lies_later env p q sc g l) k)
        (λ s r i f. gives_after F m (TypedFits env) (has_sort e.place s t.sort) (give (typed t.tree s)) r (f, x.1)
        (λ c. gives_value F m (TypedFits env) (typed t.tree s) r (subst (Sorted F m env t.tree) (sym c) x.0, f))))

    pub in_choice : (c a b : Part) (p : Passed) → Lies env p sc → FitsPart c → FitsPart a → FitsPart b → Gives F m p (TypedFits env) (choice_rule c a b sc)
    in_choice c a b p l h i j =
        gives_then F m (ClaimFits env) (TypedFits env) (as_formula sc c) (λ f. as_term sc a >> λ s. wanted sc s.sort b >> λ t. give (typed (choice f s.tree t) s.sort)) p (in_formula c p l h)
        (λ f q g x. gives_then F m (TypedFits env) (TypedFits env) (as_term sc a) (λ s. wanted sc s.sort b >> λ t. give (typed (choice f s.tree t) s.sort)) q (in_term a q (lies_later env p q sc g l) i)
        (λ s r u y. gives_then F m (TreeFits env s.sort) (TypedFits env) (wanted sc s.sort b) (λ t. give (typed (choice f s.tree t) s.sort)) r
        (in_wanted s.sort b r (lies_later env p r sc (grows_then m p q r g u) l) j y.1)
        (λ t v w z. gives_value F m (TypedFits env) (typed (choice f s.tree t) s.sort) v (of_choice env f s.tree t (put m s.sort) x y.0 z, y.1))))

    -- ---- applications
    pub record AppliedFits (e : SymbolEntry) (a : Applied) (q : Passed) : Type 0 where
      pub count : length a.sorts ≡ e.vars
      pub fit : AllFit F a.sorts
      pub args : AreSorted F m env a.args (map (put_sort (map (put m) a.sorts)) e.args)

    args_fit : (ss ts : List Sort) → AllFit F ss → list_all (is_sort_over F (length ss)) ts ≡ true → AllFit F (map (put_sort ss) ts)
    args_fit ss [] a h = tt
    args_fit ss (t ∷ ts) a h =
        let p = and_parts (is_sort_over F (length ss) t) (list_all (is_sort_over F (length ss)) ts) h in
        (over_fits F ss a t p.0, args_fit ss ts a p.1)

    pub in_application : (name : Span) (k : ℕ) (e : SymbolEntry) (args : List Part) (p : Passed) → Lies env p sc → slice_get F.symbols k ≡ Some e → AllByRecursion FitsPart args
        → Gives F m p (AppliedFits e) (application_rule name e args sc)
    in_application name k e args p l d a =
        gives_after F m (AppliedFits e) (test (nat_eq (length args) (length e.args)) (fault.Arity name.from name.to))
        (unknowns e.vars >> λ ss. all_wanted sc (map (put_sort ss) e.args) args >> λ us. give (record { sorts = ss; args = us })) p tt
        (λ n. gives_then F m (Unknown e.vars) (AppliedFits e) (unknowns e.vars) (λ ss. all_wanted sc (map (put_sort ss) e.args) args >> λ us. give (record { sorts = ss; args = us })) p (new_unknowns e.vars p)
        (λ ss q g u. gives_then F m (ListFits (map (put_sort ss) e.args)) (AppliedFits e) (all_wanted sc (map (put_sort ss) e.args) args) (λ us. give (record { sorts = ss; args = us })) q
        (in_all_wanted (map (put_sort ss) e.args) args q (lies_later env p q sc g l) a (length-map e.args (put_sort ss) ∙ sym (eqb-true (length args) (length e.args) n))
        (args_fit ss e.args u.fit (subst (λ (n : ℕ). list_all (is_sort_over F n) e.args ≡ true) (sym u.count) (law.symbols k e d).0)))
        (λ us r i v. gives_value F m (AppliedFits e) (record { sorts = ss; args = us }) r (record {
          count = u.count;
          fit = u.fit;
          args = subst (AreSorted F m env us)
              (puts_changed F (put m) (put_changes m) ss e.args (subst (λ (n : ℕ). list_all (is_sort_over F n) e.args ≡ true) (sym u.count) (law.symbols k e d).0)) v;
        }))))

    same_lists : (xs : List Sort) → same_sorts xs xs ≡ true
    same_lists xs = decided_of (Sorts_discrete xs xs) refl

    pub symbol_applied : (k : ℕ) (e : SymbolEntry) (ss : List Sort) (s : Sort) → slice_get F.symbols k ≡ Some e → e.result ≡ Some s → length ss ≡ e.vars
        → head_sort F (head.Symbol k) ss (map (put_sort ss) e.args) ≡ Some (put_sort ss s)
    symbol_applied k e ss s d r n =
        ap (λ o. o >>= symbol_sort ss (map (put_sort ss) e.args)) d
        ∙ ap (λ b. only b e.result >>= λ s. Some (put_sort ss s))
        (and_from (nat_eq (length ss) e.vars) (same_sorts (map (put_sort ss) e.args) (map (put_sort ss) e.args)) (eq-eqb (length ss) e.vars n) (same_lists (map (put_sort ss) e.args)))
        ∙ ap (λ o. o >>= λ s. Some (put_sort ss s)) r

    result_over : (k : ℕ) (e : SymbolEntry) (s : Sort) (n : ℕ) → slice_get F.symbols k ≡ Some e → e.result ≡ Some s → n ≡ e.vars → is_sort_over F n s ≡ true
    result_over k e s n d r c = subst (λ (z : ℕ). is_sort_over F z s ≡ true) (sym c) (sym (ap (is_result F e.vars) r) ∙ (law.symbols k e d).1)

    pub in_function : (name : Span) (k : ℕ) (e : SymbolEntry) (s : Sort) (args : List Part) (p : Passed) → Lies env p sc → slice_get F.symbols k ≡ Some e → e.result ≡ Some s → AllByRecursion FitsPart args
        → Gives F m p (TypedFits env) (function_rule name k e s args sc)
    in_function name k e s args p l d r a =
        gives_then F m (AppliedFits e) (TypedFits env) (application_rule name e args sc) (λ a. give (typed (apply (head.Symbol k) a.sorts a.args) (put_sort a.sorts s))) p (in_application name k e args p l d a)
        (λ x q g h. let ss = map (put m) x.sorts in
        let over = result_over k e s (length x.sorts) d r h.count in
        gives_value F m (TypedFits env) (typed (apply (head.Symbol k) x.sorts x.args) (put_sort x.sorts s)) q (
          of_apply env (head.Symbol k) x.sorts x.args (map (put_sort ss) e.args) (put m (put_sort x.sorts s)) h.fit
              (symbol_applied k e ss s d r (length-map x.sorts (put m) ∙ h.count) ∙ ap Some (sym (put_changed F (put m) (put_changes m) x.sorts s over))) h.args,
          over_fits F x.sorts h.fit s over,
        ))

    -- ---- fields
    module _ {p : Passed} (l : Lies env p sc) (f : FieldPlace) (x : IsFieldOf sc.signature.types f.of f.place) where
      abbrev the_fields : List FieldEntry
      the_fields = fields_of x.entry

      declared_in : slice_get F.types f.of ≡ Some x.entry
      declared_in = l.types f.of x.entry x.declared

      kind_is : x.entry.kind ≡ Fields the_fields
      kind_is = record_kind x.entry.kind x.entry f.place x.field refl x.there

      fields_are : fields_at sc.signature f.of ≡ the_fields
      fields_are = ap (λ o. elim o [ Some e ↦ fields_of e | None ↦ [] ]) x.declared

      arity_is : arity_at sc.signature f.of ≡ x.entry.arity
      arity_is = ap (λ o. elim o [ Some e ↦ e.arity | None ↦ 0 ]) x.declared

      sort_is : (ss : List Sort) → field_sort sc.signature f ss ≡ put_sort ss x.field.sort
      sort_is ss = ap (λ o. elim o [ Some e ↦ put_sort ss e.sort | None ↦ UnitSort ]) (ap (λ (fs : List FieldEntry). slice_get fs f.place) fields_are ∙ x.there)

      is_type : (ss : List Sort) → length ss ≡ x.entry.arity → IsRecordType F f.of ss the_fields
      is_type ss n = record { entry = x.entry; declared = declared_in; kind = kind_is; arity = n }

      field_over : is_sort_over F x.entry.arity x.field.sort ≡ true
      field_over =
          let t : IsLawfulType F f.of x.entry = law.types f.of x.entry declared_in in
          let both : (the_fields ≢ []) × (list_all (λ (g : FieldEntry). is_field_sort F f.of x.entry.arity g.sort) the_fields ≡ true) = rw kind_is at t in
          (and_parts (is_sort_over F x.entry.arity x.field.sort) (names_below f.of x.field.sort)
          (list_all_at (λ (g : FieldEntry). is_field_sort F f.of x.entry.arity g.sort) the_fields f.place x.field both.1 x.there)).0

      field_at_is : (ss : List Sort) → field_at ss the_fields f.place ≡ Some (put_sort ss x.field.sort)
      field_at_is ss = ap (λ o. o >>= λ (g : FieldEntry). Some (put_sort ss g.sort)) x.there

    -- a field's name is looked up
    of_field : {A : Type 0} (Q : A → Passed → Type 0) (x : Span) (o : Option FieldPlace) (y : A) (go : FieldPlace → Rule A) (p : Passed)
        → ((f : FieldPlace) → o ≡ Some f → Gives F m p Q (go f)) → Gives F m p Q (elim o [ Some f ↦ go f | None ↦ refuse (fault.UnknownName (name_at sc x) x.from x.to) y ])
    of_field Q x (Some f) y go p k = k f refl
    of_field Q x None y go p k = refused Q (fault.UnknownName (name_at sc x) x.from x.to) y p

    in_field : {A : Type 0} (Q : A → Passed → Type 0) (x : Span) (y : A) (go : FieldPlace → Rule A) (p : Passed)
        → ((f : FieldPlace) → IsFieldOf sc.signature.types f.of f.place → Gives F m p Q (go f)) → Gives F m p Q (with_field sc x y go)
    in_field Q x y go p k = of_field Q x (field_place sc.signature (name_at sc x)) y go p (λ f e. k f (field_is sc.signature (name_at sc x) f e))

    record_fits : (f : FieldPlace) (i : IsFieldOf sc.signature.types f.of f.place) {p : Passed} → Lies env p sc → (ss : List Sort) → length ss ≡ i.entry.arity → AllFit F ss → Fit (NamedSort f.of ss)
    record_fits f i l ss n a =
        named_fits F f.of ss (ap (λ o. or_else (o >>= λ (e : TypeEntry). Some (nat_eq e.arity (length ss))) false) (l.types f.of i.entry i.declared) ∙ eq-eqb i.entry.arity (length ss) (sym n)) a

    projected : {p : Passed} (l : Lies env p sc) (f : FieldPlace) (x : IsFieldOf sc.signature.types f.of f.place) (t : Tree) (ss : List Sort) {q : Passed} → Unknown (arity_at sc.signature f.of) ss q
        → Sorted F m env t (NamedSort f.of (map (put m) ss)) → TypedFits env (typed (apply (head.Field f.of f.place) ss (more t none)) (field_sort sc.signature f ss)) q
    projected l f x t ss u h =
        let count = u.count ∙ arity_is l f x in
        let us = map (put m) ss in
        let over = subst (λ (n : ℕ). is_sort_over F n x.field.sort ≡ true) (sym count) (field_over l f x) in
        let is = ap (put m) (sort_is l f x ss) ∙ put_changed F (put m) (put_changes m) ss x.field.sort over in (
          of_apply env (head.Field f.of f.place) ss (more t none) (NamedSort f.of us ∷ []) (put m (field_sort sc.signature f ss)) u.fit
              (field_head F [] f.of f.place us (the_fields l f x) (put_sort us x.field.sort) (is_type l f x us (length-map ss (put m) ∙ count)) (field_at_is l f x us) ∙ ap Some (sym is))
              (of_more env t none (NamedSort f.of us) [] h (of_none env)),
          ap (fits F) (sort_is l f x ss) ∙ over_fits F ss u.fit x.field.sort over,
        )

    pub in_projection : (e : Part) (x : Span) (p : Passed) → Lies env p sc → FitsPart e → Gives F m p (TypedFits env) (field_rule e x sc)
    in_projection e x p l h =
        gives_then F m (TypedFits env) (TypedFits env) (as_term sc e)
        (λ t. with_field sc x no_term λ f. unknowns (arity_at sc.signature f.of) >> λ ss. has_sort e.place (NamedSort f.of ss) t.sort
        ⇒ give (typed (apply (head.Field f.of f.place) ss (more t.tree none)) (field_sort sc.signature f ss))) p (in_term e p l h)
        (λ t q g y. in_field (TypedFits env) x no_term
        (λ f. unknowns (arity_at sc.signature f.of) >> λ ss. has_sort e.place (NamedSort f.of ss) t.sort ⇒ give (typed (apply (head.Field f.of f.place) ss (more t.tree none)) (field_sort sc.signature f ss))) q
        (λ f i. gives_then F m (Unknown (arity_at sc.signature f.of)) (TypedFits env) (unknowns (arity_at sc.signature f.of))
        (λ ss. has_sort e.place (NamedSort f.of ss) t.sort ⇒ give (typed (apply (head.Field f.of f.place) ss (more t.tree none)) (field_sort sc.signature f ss))) q (new_unknowns (arity_at sc.signature f.of) q)
        (λ ss r j u. gives_after F m (TypedFits env) (has_sort e.place (NamedSort f.of ss) t.sort) (give (typed (apply (head.Field f.of f.place) ss (more t.tree none)) (field_sort sc.signature f ss))) r
        (record_fits f i l ss (u.count ∙ arity_is l f i) u.fit, y.1)
        (λ c. gives_value F m (TypedFits env) (typed (apply (head.Field f.of f.place) ss (more t.tree none)) (field_sort sc.signature f ss)) r
        (projected l f i t.tree ss u (subst (Sorted F m env t.tree) (sym c ∙ put_named m f.of ss) y.0))))))

    -- ---- records
    record ValuesFit (fs : List FieldEntry) (ss : List Sort) (got : List ℕ) (v : Values) (q : Passed) : Type 0 where
      pub args : List Sort
      pub sorted : AreSorted F m env v.terms args
      pub fields : AreFieldSorts (map (put m) ss) fs v.places args
      pub within : AllByRecursion (λ k. k < length fs) v.places
      pub once : Once got v.places

    -- the record type that the fields are of
    module _ (of : ℕ) (ss : List Sort) (e : TypeEntry) (there : slice_get sc.signature.types of ≡ Some e) (count : length ss ≡ e.arity) (fit : AllFit F ss) where
      value_fits : (f : FieldPlace) (i : IsFieldOf sc.signature.types f.of f.place) {p : Passed} → Lies env p sc → f.of ≡ of → Fit (field_sort sc.signature f ss)
      value_fits f i l same =
          let entry : i.entry ≡ e = same_Some i.entry e (sym i.declared ∙ ap (slice_get sc.signature.types) same ∙ there) in
          let n : length ss ≡ i.entry.arity = count ∙ ap (λ (x : TypeEntry). x.arity) (sym entry) in
          ap (fits F) (sort_is l f i ss) ∙ over_fits F ss fit i.field.sort (subst (λ (n : ℕ). is_sort_over F n i.field.sort ≡ true) (sym n) (field_over l f i))

      value_more : (got : List ℕ) (f : FieldPlace) (i : IsFieldOf sc.signature.types f.of f.place) (p q r : Passed) (l : Lies env p sc) → f.of ≡ of → list_any (nat_eq f.place) got ≡ false
          → (t : Tree) → TreeFits env (field_sort sc.signature f ss) t q → (v : Values) → ValuesFit (fields_of e) ss (f.place ∷ got) v r
          → ValuesFit (fields_of e) ss got (record { places = f.place ∷ v.places; terms = more t v.terms }) r
      value_more got f i p q r l same new t h v k =
          let entry : i.entry ≡ e = same_Some i.entry e (sym i.declared ∙ ap (slice_get sc.signature.types) same ∙ there) in
          let field : slice_get (fields_of e) f.place ≡ Some i.field = ap (λ (x : TypeEntry). slice_get (fields_of x) f.place) (sym entry) ∙ i.there in
          let n : length ss ≡ i.entry.arity = count ∙ ap (λ (x : TypeEntry). x.arity) (sym entry) in
          let over = subst (λ (n : ℕ). is_sort_over F n i.field.sort ≡ true) (sym n) (field_over l f i) in
          let is : put m (field_sort sc.signature f ss) ≡ put_sort (map (put m) ss) i.field.sort = ap (put m) (sort_is l f i ss) ∙ put_changed F (put m) (put_changes m) ss i.field.sort over in
          record {
            args = put_sort (map (put m) ss) i.field.sort ∷ k.args;
            sorted = of_more env t v.terms (put_sort (map (put m) ss) i.field.sort) k.args (subst (Sorted F m env t) is h) k.sorted;
            fields = (ap (λ o. o >>= λ (g : FieldEntry). Some (put_sort (map (put m) ss) g.sort)) field, k.fields);
            within = (slice_get_within (fields_of e) f.place i.field field, k.within);
            once = (new, k.once);
          }

      in_values : (own : Span) (got : List ℕ) (xs : List Set) (p : Passed) → Lies env p sc → AllByRecursion FitsSet xs → Gives F m p (ValuesFit (fields_of e) ss got) (values_rule own of ss got xs sc)
      in_values own got [] p l a = gives_value F m (ValuesFit (fields_of e) ss got) no_values p (record { args = []; sorted = of_none env; fields = tt; within = tt; once = tt })
      in_values own got (x ∷ xs) p l a =
          in_field (ValuesFit (fields_of e) ss got) x.name no_values
          (λ f. test (nat_eq f.of of) (fault.MissingField own.from own.to)
          ⇒ test (not (list_any (nat_eq f.place) got)) (fault.Twice (name_at sc x.name) x.name.from x.name.to)
          ⇒ wanted sc (field_sort sc.signature f ss) x.value >> λ t. values_rule own of ss (f.place ∷ got) xs sc >> λ v. give (record { places = f.place ∷ v.places; terms = more t v.terms })) p
          (λ f i. gives_after F m (ValuesFit (fields_of e) ss got) (test (nat_eq f.of of) (fault.MissingField own.from own.to))
          (test (not (list_any (nat_eq f.place) got)) (fault.Twice (name_at sc x.name) x.name.from x.name.to)
          ⇒ wanted sc (field_sort sc.signature f ss) x.value >> λ t. values_rule own of ss (f.place ∷ got) xs sc >> λ v. give (record { places = f.place ∷ v.places; terms = more t v.terms })) p tt
          (λ same. gives_after F m (ValuesFit (fields_of e) ss got) (test (not (list_any (nat_eq f.place) got)) (fault.Twice (name_at sc x.name) x.name.from x.name.to))
          (wanted sc (field_sort sc.signature f ss) x.value >> λ t. values_rule own of ss (f.place ∷ got) xs sc >> λ v. give (record { places = f.place ∷ v.places; terms = more t v.terms })) p tt
          (λ new. gives_then F m (TreeFits env (field_sort sc.signature f ss)) (ValuesFit (fields_of e) ss got) (wanted sc (field_sort sc.signature f ss) x.value)
          (λ t. values_rule own of ss (f.place ∷ got) xs sc >> λ v. give (record { places = f.place ∷ v.places; terms = more t v.terms })) p
          (in_wanted (field_sort sc.signature f ss) x.value p l a.0.value (value_fits f i l (eqb-true f.of of same)))
          (λ t q g h. gives_then F m (ValuesFit (fields_of e) ss (f.place ∷ got)) (ValuesFit (fields_of e) ss got) (values_rule own of ss (f.place ∷ got) xs sc)
          (λ v. give (record { places = f.place ∷ v.places; terms = more t v.terms })) q
          (in_values own (f.place ∷ got) xs q (lies_later env p q sc g l) a.1)
          (λ v r j k. gives_value F m (ValuesFit (fields_of e) ss got) (record { places = f.place ∷ v.places; terms = more t v.terms }) r
          (value_more got f i p q r l (eqb-true f.of of same) (not-true (list_any (nat_eq f.place) got) new) t h v k))))))

    -- the first field's type
    in_set_type : {A : Type 0} (Q : A → Passed → Type 0) (xs : List Set) (y : A) (go : ℕ → Rule A) (p : Passed)
        → (xs ≡ [] → Q y p) → ((f : FieldPlace) → IsFieldOf sc.signature.types f.of f.place → Gives F m p Q (go f.of)) → Gives F m p Q (with_type sc xs y go)
    in_set_type Q [] y go p z k = gives_value F m Q y p (z refl)
    in_set_type Q (x ∷ xs) y go p z k = in_field Q x.name y (λ f. go f.of) p k

    module _ (f : FieldPlace) (i : IsFieldOf sc.signature.types f.of f.place) {p : Passed} (l : Lies env p sc) (ss : List Sort) (n : length ss ≡ i.entry.arity) (fit : AllFit F ss) where
      abbrev whole_sort : Sort
      whole_sort = NamedSort f.of ss

      put_whole : put m whole_sort ≡ NamedSort f.of (map (put m) ss)
      put_whole = put_named m f.of ss

      whole_fits : Fit whole_sort
      whole_fits = record_fits f i l ss n fit

      record_type : IsRecordType F f.of (map (put m) ss) (fields_of i.entry)
      record_type = is_type l f i (map (put m) ss) (length-map ss (put m) ∙ n)

      built_fits : (v : Values) {q : Passed} → ValuesFit (fields_of i.entry) ss [] v q → length v.places ≡ length (fields_at sc.signature f.of)
          → TypedFits env (typed (build f.of ss (length (fields_at sc.signature f.of)) v.places v.terms) whole_sort) q
      built_fits v k c =
          let size = length (fields_at sc.signature f.of) in
          let long : size ≡ length (fields_of i.entry) = ap length (fields_are l f i) in (
            subst (Sorted F m env (build f.of ss size v.places v.terms)) (sym put_whole)
                (of_build env f.of ss size v.places v.terms (fields_of i.entry) k.args fit record_type long k.fields
                (all_there size v.places k.once (subst (λ (z : ℕ). AllByRecursion (λ k. k < z) v.places) (sym long) k.within) c) k.sorted),
            whole_fits,
          )

      updated_fits : (b : Tree) (v : Values) {q : Passed} → Sorted F m env b (put m whole_sort) → ValuesFit (fields_of i.entry) ss [] v q
          → TypedFits env (typed (update f.of ss (length (fields_at sc.signature f.of)) b v.places v.terms) whole_sort) q
      updated_fits b v h k =
          let size = length (fields_at sc.signature f.of) in (
            subst (Sorted F m env (update f.of ss size b v.places v.terms)) (sym put_whole)
                (of_update env f.of ss size b v.places v.terms (fields_of i.entry) k.args fit record_type (ap length (fields_are l f i)) k.fields
                (subst (Sorted F m env b) put_whole h) k.sorted),
            whole_fits,
          )

    void_fits : (q : Passed) → TypedFits env no_term q
    void_fits q = (
      subst (Sorted F m env no_term.tree) (sym (put_unit m))
          (of_apply env head.Void [] none [] UnitSort tt (ap (λ x. when x UnitSort) (and_from (same_sorts [] []) (same_sorts [] []) (same_lists []) (same_lists []))) (of_none env)),
      ok_unit F (λ i. true) (λ i. true),
    )

    pub in_record : (own : Span) (xs : List Set) (p : Passed) → Lies env p sc → AllByRecursion FitsSet xs → Gives F m p (TypedFits env) (record_rule own xs sc)
    in_record own xs p l a =
        in_set_type (TypedFits env) xs no_term
        (λ of. unknowns (arity_at sc.signature of) >> λ ss. values_rule own of ss [] xs sc >> λ v.
        let count = length (fields_at sc.signature of) in
        test (nat_eq (length v.places) count) (fault.MissingField own.from own.to) ⇒ give (typed (build of ss count v.places v.terms) (NamedSort of ss))) p (λ e. void_fits p)
        (λ f i. gives_then F m (Unknown (arity_at sc.signature f.of)) (TypedFits env) (unknowns (arity_at sc.signature f.of))
        (λ ss. values_rule own f.of ss [] xs sc >> λ v.
        test (nat_eq (length v.places) (length (fields_at sc.signature f.of))) (fault.MissingField own.from own.to) ⇒ give (typed (build f.of ss (length (fields_at sc.signature f.of)) v.places v.terms) (NamedSort f.of ss))) p
        (new_unknowns (arity_at sc.signature f.of) p)
        (λ ss q g u. let n = u.count ∙ arity_is l f i in
        gives_then F m (ValuesFit (fields_of i.entry) ss []) (TypedFits env) (values_rule own f.of ss [] xs sc)
        (λ v. test (nat_eq (length v.places) (length (fields_at sc.signature f.of))) (fault.MissingField own.from own.to) ⇒ give (typed (build f.of ss (length (fields_at sc.signature f.of)) v.places v.terms) (NamedSort f.of ss))) q
        (in_values f.of ss i.entry i.declared n u.fit own [] xs q (lies_later env p q sc g l) a)
        (λ v r j k. gives_after F m (TypedFits env) (test (nat_eq (length v.places) (length (fields_at sc.signature f.of))) (fault.MissingField own.from own.to))
        (give (typed (build f.of ss (length (fields_at sc.signature f.of)) v.places v.terms) (NamedSort f.of ss))) r tt
        (λ c. gives_value F m (TypedFits env) (typed (build f.of ss (length (fields_at sc.signature f.of)) v.places v.terms) (NamedSort f.of ss)) r
        (built_fits f i l ss n u.fit v k (eqb-true (length v.places) (length (fields_at sc.signature f.of)) c))))))

    pub in_update : (own : Span) (base : Part) (xs : List Set) (p : Passed) → Lies env p sc → FitsPart base → AllByRecursion FitsSet xs → Gives F m p (TypedFits env) (update_rule own base xs sc)
    in_update own base xs p l b a =
        gives_then F m (TypedFits env) (TypedFits env) (as_term sc base)
        (λ t. with_type sc xs no_term λ of. unknowns (arity_at sc.signature of) >> λ ss. has_sort base.place (NamedSort of ss) t.sort
        ⇒ values_rule own of ss [] xs sc >> λ v. give (typed (update of ss (length (fields_at sc.signature of)) t.tree v.places v.terms) (NamedSort of ss))) p (in_term base p l b)
        (λ t q g y. in_set_type (TypedFits env) xs no_term
        (λ of. unknowns (arity_at sc.signature of) >> λ ss. has_sort base.place (NamedSort of ss) t.sort
        ⇒ values_rule own of ss [] xs sc >> λ v. give (typed (update of ss (length (fields_at sc.signature of)) t.tree v.places v.terms) (NamedSort of ss))) q (λ e. void_fits q)
        (λ f i. gives_then F m (Unknown (arity_at sc.signature f.of)) (TypedFits env) (unknowns (arity_at sc.signature f.of))
        (λ ss. has_sort base.place (NamedSort f.of ss) t.sort
        ⇒ values_rule own f.of ss [] xs sc >> λ v. give (typed (update f.of ss (length (fields_at sc.signature f.of)) t.tree v.places v.terms) (NamedSort f.of ss))) q
        (new_unknowns (arity_at sc.signature f.of) q)
        (λ ss r j u. let n = u.count ∙ arity_is l f i in
        gives_after F m (TypedFits env) (has_sort base.place (NamedSort f.of ss) t.sort)
        (values_rule own f.of ss [] xs sc >> λ v. give (typed (update f.of ss (length (fields_at sc.signature f.of)) t.tree v.places v.terms) (NamedSort f.of ss))) r (record_fits f i l ss n u.fit, y.1)
        (λ c. gives_then F m (ValuesFit (fields_of i.entry) ss []) (TypedFits env) (values_rule own f.of ss [] xs sc)
        (λ v. give (typed (update f.of ss (length (fields_at sc.signature f.of)) t.tree v.places v.terms) (NamedSort f.of ss))) r
        (in_values f.of ss i.entry i.declared n u.fit own [] xs r (lies_later env p r sc (grows_then m p q r g j) l) a)
        (λ v w z k. gives_value F m (TypedFits env) (typed (update f.of ss (length (fields_at sc.signature f.of)) t.tree v.places v.terms) (NamedSort f.of ss)) w
        (updated_fits f i l ss n u.fit t.tree v (subst (Sorted F m env t.tree) (sym c) y.0) k))))))
