-- Where its conditions are met, a rule gives trees whose triggers may stand: terms.
use Rattle.std.proofs.Common.{arith, ◌≡◌, ◌<◌, ℕ, zero, suc, true, false, not, nat_eq, pos, List, [], ◌∷◌, map, length, refl, sym, ap}
use Rattle.std.proofs.Common.{subst, Option, Some, None}
use Rattle.std.specs.List.{AllByRecursion, IsDistinct, list_any}
use Rattle.std.proofs.lemmas.Bool.{eqb-true, not-true}
use Rattle.std.proofs.lemmas.Option.{slice_get_within}
use Rattle.ae_base.proofs.AllOf.{all_weaker}
use Rattle.ae_base.proofs.Tests.{false_true}
use Rattle.ae_core.specs.Putting.{put_sort}
use Rattle.ae_core.specs.Signatures.{fields_of}
use Rattle.ae_core.specs.declared.terms.Sort.{Sort, Var, Int, Real, Named as NamedSort}
use Rattle.ae_core.specs.declared.terms.Head.TheVariants as head
use Rattle.ae_core.specs.declared.terms.Op.{Op}
use Rattle.ae_core.specs.declared.terms.Op.TheVariants as op
use Rattle.ae_core.specs.declared.problems.SymbolEntry.{SymbolEntry}
use Rattle.ae_core.specs.declared.problems.FieldEntry.{FieldEntry}
use Rattle.ae_syntax.specs.declared.spans.Span.{Span}
use Rattle.ae_syntax.specs.declared.types.WrittenType.{WrittenType}
use Rattle.ae_syntax.specs.declared.exprs.Number.{Number}
use Rattle.ae_syntax.specs.declared.exprs.Number.TheVariants as number
use Rattle.ae_elab.specs.declared.faults.TypeFault.{TypeFault}
use Rattle.ae_elab.specs.declared.faults.TypeFault.TheVariants as fault
use Rattle.ae_elab.specs.declared.fields.FieldPlace.{FieldPlace}
use Rattle.ae_elab.specs.declared.grounds.Ground.TheVariants as ground
use Rattle.ae_elab.specs.declared.numbers.Numbers.{Numbers}
use Rattle.ae_elab.specs.declared.numbers.Numbers.TheVariants.{IntOrReal}
use Rattle.ae_elab.specs.Conditions.{test, has_sort, has_operand_sort, may_be, becomes}
use Rattle.ae_elab.specs.Trees.{Tree, Trees, Claim, none, more, numeral, apply, operation, build, update, choice}
use Rattle.ae_elab.specs.Scope.{Scope, scope_with, Meaning, a_variable, a_term, a_formula, Local, name_at, field_place}
use Rattle.ae_elab.specs.Rules.{Passed, Rule, give, ◌>>◌, ◌⇒◌, refuse, fresh, unknowns, Typed, typed, no_term, Around, Part, Set, as_term, as_formula}
use Rattle.ae_elab.specs.Rules.{wanted, all_wanted}
use Rattle.ae_elab.specs.WrittenTypes.{type_rule}
use Rattle.ae_elab.specs.Terms.{numeral_rule, numbers_of, operands, operation_rule, negative_rule, ascribed_rule, choice_rule, Applied}
use Rattle.ae_elab.specs.Terms.{application_rule, function_rule}
use Rattle.ae_elab.specs.Terms.{fields_at, arity_at, field_sort, with_field, field_rule, Values, no_values, values_rule, with_type, record_rule}
use Rattle.ae_elab.specs.Terms.{update_rule}
use Rattle.ae_typed_laws.proofs.ParsedTrees.{IsWritten}
use Rattle.ae_typed_laws.proofs.MetConditions.{Gives, gives_value, gives_then, gives_after, Grows, grows_then}
use Rattle.ae_typed_laws.proofs.SortRules.{IsFree, sort_given}
use Rattle.ae_lawful_problems.proofs.WrittenPlaces.{Once}
use Rattle.ae_lawful_problems.proofs.CoveredTrees.{bound_in, how_many, AreFields, CoveredTerm, CoveredTerms, Covered, IsAlone}
use Rattle.ae_lawful_problems.proofs.TypedTrees.{IsFieldOf, field_is}

-- these numbers are none of those
abbrev pub Avoids : List ℕ → List ℕ → Type 0
Avoids outer xs = AllByRecursion (λ s. AllByRecursion (λ x. nat_eq s x ≡ false) xs) outer

-- a formula whose triggers may stand, with new variables: `outer` are the variables of the blocks around it
pub record ClaimCovered (outer : List ℕ) (around : Around) (f : Claim) (q : Passed) : Type 0 where
  pub covered : Covered around f
  pub distinct : IsDistinct nat_eq (bound_in f)
  pub below : AllByRecursion (λ x. x < q.next) (bound_in f)
  pub apart : Avoids outer (bound_in f)

-- it may stand for itself
pub alone : {outer : List ℕ} {f : Claim} {q : Passed} → ClaimCovered outer None f q → IsAlone f
alone h = record { fine = h.covered; distinct = h.distinct }

abbrev pub TypedCovered : Typed → Passed → Type 0
TypedCovered t q = CoveredTerm t.tree

abbrev pub TreeCovered : Tree → Passed → Type 0
TreeCovered t q = CoveredTerm t

abbrev pub ListCovered : Trees → Passed → Type 0
ListCovered us q = CoveredTerms us

abbrev pub BothCovered : Typed × Tree → Passed → Type 0
BothCovered st q = CoveredTerm st.0.tree × CoveredTerm st.1

abbrev pub AppliedCovered : Applied → Passed → Type 0
AppliedCovered a q = CoveredTerms a.args

abbrev pub Whatever : {A : Type 0} → A → Passed → Type 0
Whatever x q = Unit {0}

abbrev pub MeaningCovered : List ℕ → Passed → Meaning → Type 0
MeaningCovered outer p (a_variable x s) = Unit {0}
MeaningCovered outer p (a_term c t s) = CoveredTerm t
MeaningCovered outer p (a_formula f) = ClaimCovered outer None f p

abbrev pub LocalCovered : List ℕ → Passed → Local → Type 0
LocalCovered outer p l = MeaningCovered outer p l.meaning

module _ (m : ℕ → Sort) (text : List ℕ) where
  -- what is known at a place of a text
  pub record Stands (outer : List ℕ) (p : Passed) (sc : Scope) : Type 0 where
    pub text_is : sc.text ≡ text
    pub locals : AllByRecursion (LocalCovered outer p) sc.locals
    pub below : AllByRecursion (λ s. s < p.next) outer

  pub below_later : (p q : Passed) (xs : List ℕ) → Grows m p q → AllByRecursion (λ x. x < p.next) xs → AllByRecursion (λ x. x < q.next) xs
  below_later p q xs g a = all_weaker (λ (x : ℕ). x < p.next) (λ (x : ℕ). x < q.next) (λ x h. let n = g.next in omega (arith, h, n)) xs a

  pub claim_later : (outer : List ℕ) (around : Around) (f : Claim) (p q : Passed) → Grows m p q → ClaimCovered outer around f p → ClaimCovered outer around f q
  claim_later outer around f p q g h = record { covered = h.covered; distinct = h.distinct; below = below_later p q (bound_in f) g h.below; apart = h.apart }

  meaning_later : (outer : List ℕ) (p q : Passed) → Grows m p q → (k : Meaning) → MeaningCovered outer p k → MeaningCovered outer q k
  meaning_later outer p q g (a_variable x s) h = tt
  meaning_later outer p q g (a_term c t s) h = h
  meaning_later outer p q g (a_formula f) h = claim_later outer None f p q g h

  pub stands_later : (outer : List ℕ) (p q : Passed) (sc : Scope) → Grows m p q → Stands outer p sc → Stands outer q sc
  stands_later outer p q sc g l = record {
    text_is = l.text_is;
    locals = all_weaker (LocalCovered outer p) (LocalCovered outer q) (λ x h. meaning_later outer p q g x.meaning h) sc.locals l.locals;
    below = below_later p q outer g l.below;
  }

  pub record CoveredPart (e : Part) : Type 0 where
    pub term : (outer : List ℕ) (sc : Scope) (p : Passed) → Stands outer p sc → (at : Span) → Gives m p TypedCovered (e.term sc at)
    pub formula : (outer : List ℕ) (sc : Scope) (p : Passed) → Stands outer p sc → (around : Around) (at : Span) → Gives m p (ClaimCovered outer around) (e.formula sc around at)

  pub record CoveredSet (x : Set) : Type 0 where
    pub value : CoveredPart x.value

  abbrev pub Parts : List Part → Type 0
  Parts = AllByRecursion CoveredPart

  -- a condition that nothing meets
  pub refused_here : {A : Type 0} (Q : A → Passed → Type 0) (e : TypeFault) (x : A) (p : Passed) → Gives m p Q (refuse e x)
  refused_here Q e x p = record { by = λ c. false_true c.0 }

  new_unknowns : (n : ℕ) (p : Passed) → Gives m p Whatever (unknowns n)
  new_unknowns zero p = gives_value m Whatever [] p tt
  new_unknowns (suc n) p =
      gives_then m Whatever Whatever fresh (λ k. unknowns n >> λ ss. give (Var k ∷ ss)) p
      (record { by = λ c. record { grows = record { next = omega arith; written = omega arith }; value = tt } })
      (λ k q g x. gives_then m Whatever Whatever (unknowns n) (λ ss. give (Var k ∷ ss)) q (new_unknowns n q) (λ ss r h u. gives_value m Whatever (Var k ∷ ss) r tt))

  module _ (outer : List ℕ) (sc : Scope) where
    abbrev L : Passed → Type 0
    L p = Stands outer p sc

    later : (p q : Passed) → Grows m p q → L p → L q
    later p q g l = stands_later outer p q sc g l

    in_term : (e : Part) (p : Passed) → L p → CoveredPart e → Gives m p TypedCovered (as_term sc e)
    in_term e p l h = h.term outer sc p l e.place

    pub covers_formula : (e : Part) (p : Passed) → L p → CoveredPart e → Gives m p (ClaimCovered outer None) (as_formula sc e)
    covers_formula e p l h = h.formula outer sc p l None e.place

    pub covers_wanted : (s : Sort) (e : Part) (p : Passed) → L p → CoveredPart e → Gives m p TreeCovered (wanted sc s e)
    covers_wanted s e p l h =
        gives_then m TypedCovered TreeCovered (as_term sc e) (λ t. has_sort e.place s t.sort ⇒ give t.tree) p (in_term e p l h)
        (λ t q g x. gives_after m TreeCovered (has_sort e.place s t.sort) (give t.tree) q (λ c. gives_value m TreeCovered t.tree q x))

    covers_all : (ss : List Sort) (es : List Part) (p : Passed) → L p → Parts es → Gives m p ListCovered (all_wanted sc ss es)
    covers_all [] es p l h = gives_value m ListCovered none p tt
    covers_all (s ∷ ss) [] p l h = gives_value m ListCovered none p tt
    covers_all (s ∷ ss) (e ∷ es) p l h =
        gives_then m TreeCovered ListCovered (wanted sc s e) (λ t. all_wanted sc ss es >> λ ts. give (more t ts)) p (covers_wanted s e p l h.0)
        (λ t q g x. gives_then m ListCovered ListCovered (all_wanted sc ss es) (λ ts. give (more t ts)) q (covers_all ss es q (later p q g l) h.1)
        (λ ts r i y. gives_value m ListCovered (more t ts) r (x, y)))

    -- ---- arithmetic
    pub covers_numeral : (n : Number) (p : Passed) → Gives m p TypedCovered (numeral_rule n)
    covers_numeral (number.Whole n) p = gives_value m TypedCovered (typed (numeral n (pos 1) false) Int) p tt
    covers_numeral (number.Decimal a b) p = gives_value m TypedCovered (typed (numeral a b true) Real) p tt

    pub covers_operands : (n : Numbers) (a b : Part) (p : Passed) → L p → CoveredPart a → CoveredPart b → Gives m p BothCovered (operands sc n a b)
    covers_operands n a b p l h k =
        gives_then m TypedCovered BothCovered (as_term sc a) _ p (in_term a p l h)
        (λ s q g x. gives_after m BothCovered (may_be a.place n s.sort) _ q
        (λ c. gives_then m TypedCovered BothCovered (as_term sc b) _ q (in_term b q (later p q g l) k)
        (λ t r i y. gives_after m BothCovered (may_be a.place n s.sort) _ r
        (λ c. gives_after m BothCovered (has_operand_sort b.place s.sort t.sort) _ r
        (λ c. gives_after m BothCovered (may_be b.place IntOrReal t.sort) _ r
        (λ c. gives_after m BothCovered (becomes a.place n s.sort) _ r (λ c. gives_value m BothCovered (s, t.tree) r (x, y))))))))

    pub covers_operation : (o : Op) (a b : Part) (p : Passed) → L p → CoveredPart a → CoveredPart b → Gives m p TypedCovered (operation_rule o a b sc)
    covers_operation o a b p l h k =
        gives_then m BothCovered TypedCovered (operands sc (numbers_of o) a b) _ p (covers_operands (numbers_of o) a b p l h k)
        (λ st q g x. gives_value m TypedCovered (typed (operation o st.0.sort (more st.0.tree (more st.1 none))) st.0.sort) q (x.0, (x.1, tt)))

    pub covers_negative : (a : Part) (p : Passed) → L p → CoveredPart a → Gives m p TypedCovered (negative_rule a sc)
    covers_negative a p l h =
        gives_then m TypedCovered TypedCovered (as_term sc a) _ p (in_term a p l h)
        (λ s q g x. gives_after m TypedCovered (may_be a.place IntOrReal s.sort) _ q
        (λ c. gives_after m TypedCovered (becomes a.place IntOrReal s.sort) _ q
        (λ c. gives_value m TypedCovered (typed (operation op.Neg s.sort (more s.tree none)) s.sort) q (x, tt))))

    -- ---- written sorts
    in_this_text : {p : Passed} → L p → scope_with text sc.signature sc.locals ≡ sc
    in_this_text l = λ i. scope_with (sym l.text_is i) sc.signature sc.locals

    pub grows_written : (w : WrittenType) (p : Passed) → L p → IsWritten text w → Gives m p Whatever (type_rule w ground.Free sc)
    grows_written w p l h =
        let r = subst (λ (z : Scope). Gives m p (IsFree m sc.signature) (type_rule w ground.Free z)) (in_this_text l) (sort_given m sc.signature text sc.locals ground.Free tt h p) in
        record { by = λ c. record { grows = (r.by c).grows; value = tt } }

    pub covers_ascribed : (e : Part) (w : WrittenType) (p : Passed) → L p → CoveredPart e → IsWritten text w → Gives m p TypedCovered (ascribed_rule e w sc)
    covers_ascribed e w p l h k =
        gives_then m TypedCovered TypedCovered (as_term sc e) _ p (in_term e p l h)
        (λ t q g x. gives_then m Whatever TypedCovered (type_rule w ground.Free sc) _ q (grows_written w q (later p q g l) k)
        (λ s r i f. gives_after m TypedCovered (has_sort e.place s t.sort) _ r (λ c. gives_value m TypedCovered (typed t.tree s) r x)))

    pub covers_choice : (k a b : Part) (p : Passed) → L p → CoveredPart k → CoveredPart a → CoveredPart b → Gives m p TypedCovered (choice_rule k a b sc)
    covers_choice k a b p l h i j =
        gives_then m (ClaimCovered outer None) TypedCovered (as_formula sc k) _ p (covers_formula k p l h)
        (λ f q g x. gives_then m TypedCovered TypedCovered (as_term sc a) _ q (in_term a q (later p q g l) i)
        (λ s r u y. gives_then m TreeCovered TypedCovered (wanted sc s.sort b) _ r (covers_wanted s.sort b r (later p r (grows_then m p q r g u) l) j)
        (λ t v w z. gives_value m TypedCovered (typed (choice f s.tree t) s.sort) v (alone x, y, z))))

    -- ---- applications
    pub covers_application : (name : Span) (e : SymbolEntry) (args : List Part) (p : Passed) → L p → Parts args → Gives m p AppliedCovered (application_rule name e args sc)
    covers_application name e args p l a =
        gives_after m AppliedCovered (test (nat_eq (length args) (length e.args)) (fault.Arity name.from name.to)) _ p
        (λ c. gives_then m Whatever AppliedCovered (unknowns e.vars) _ p (new_unknowns e.vars p)
        (λ ss q g u. gives_then m ListCovered AppliedCovered (all_wanted sc (map (put_sort ss) e.args) args) _ q (covers_all (map (put_sort ss) e.args) args q (later p q g l) a)
        (λ us r i y. gives_value m AppliedCovered (record { sorts = ss; args = us }) r y)))

    pub covers_function : (name : Span) (k : ℕ) (e : SymbolEntry) (s : Sort) (args : List Part) (p : Passed) → L p → Parts args
        → Gives m p TypedCovered (function_rule name k e s args sc)
    covers_function name k e s args p l a =
        gives_then m AppliedCovered TypedCovered (application_rule name e args sc) _ p (covers_application name e args p l a)
        (λ x q g h. gives_value m TypedCovered (typed (apply (head.Symbol k) x.sorts x.args) (put_sort x.sorts s)) q h)

    -- ---- fields
    found_field : {A : Type 0} (Q : A → Passed → Type 0) (x : Span) (o : Option FieldPlace) (y : A) (go : FieldPlace → Rule A) (p : Passed)
        → ((f : FieldPlace) → o ≡ Some f → Gives m p Q (go f)) → Gives m p Q (elim o [ Some f ↦ go f | None ↦ refuse (fault.UnknownName (name_at sc x) x.from x.to) y ])
    found_field Q x (Some f) y go p k = k f refl
    found_field Q x None y go p k = refused_here Q (fault.UnknownName (name_at sc x) x.from x.to) y p

    -- its place is among those of its type
    abbrev IsField : FieldPlace → Type 0
    IsField f = f.place < length (fields_at sc.signature f.of)

    field_within : (f : FieldPlace) → IsFieldOf sc.signature.types f.of f.place → IsField f
    field_within f x =
        let are : fields_at sc.signature f.of ≡ fields_of x.entry = ap (λ o. elim o [ Some e ↦ fields_of e | None ↦ [] ]) x.declared in
        subst (λ (fs : List FieldEntry). f.place < length fs) (sym are) (slice_get_within (fields_of x.entry) f.place x.field x.there)

    of_name : {A : Type 0} (Q : A → Passed → Type 0) (x : Span) (y : A) (go : FieldPlace → Rule A) (p : Passed)
        → ((f : FieldPlace) → IsField f → Gives m p Q (go f)) → Gives m p Q (with_field sc x y go)
    of_name Q x y go p k =
        found_field Q x (field_place sc.signature (name_at sc x)) y go p (λ f e. k f (field_within f (field_is sc.signature (name_at sc x) f e)))

    pub covers_projection : (e : Part) (x : Span) (p : Passed) → L p → CoveredPart e → Gives m p TypedCovered (field_rule e x sc)
    covers_projection e x p l h =
        gives_then m TypedCovered TypedCovered (as_term sc e) _ p (in_term e p l h)
        (λ t q g y. of_name TypedCovered x no_term _ q
        (λ f i. gives_then m Whatever TypedCovered (unknowns (arity_at sc.signature f.of)) _ q (new_unknowns (arity_at sc.signature f.of) q)
        (λ ss r j u. gives_after m TypedCovered (has_sort e.place (NamedSort f.of ss) t.sort) _ r
        (λ c. gives_value m TypedCovered (typed (apply (head.Field f.of f.place) ss (more t.tree none)) (field_sort sc.signature f ss)) r (y, tt)))))

    -- ---- records
    record ValuesCovered (n : ℕ) (got : List ℕ) (v : Values) (q : Passed) : Type 0 where
      pub once : Once got v.places
      pub within : AllByRecursion (λ k. k < n) v.places
      pub count : how_many v.terms ≡ length v.places
      pub terms : CoveredTerms v.terms

    abbrev size : ℕ → ℕ
    size of = length (fields_at sc.signature of)

    covers_values : (own : Span) (of : ℕ) (ss : List Sort) (got : List ℕ) (xs : List Set) (p : Passed) → L p → AllByRecursion CoveredSet xs
        → Gives m p (ValuesCovered (size of) got) (values_rule own of ss got xs sc)
    covers_values own of ss got [] p l a = gives_value m (ValuesCovered (size of) got) no_values p (record { once = tt; within = tt; count = refl; terms = tt })
    covers_values own of ss got (x ∷ xs) p l a =
        let Q = ValuesCovered (size of) got in
        of_name Q x.name no_values _ p
        (λ f i. gives_after m Q (test (nat_eq f.of of) (fault.MissingField own.from own.to)) _ p
        (λ same. gives_after m Q (test (not (list_any (nat_eq f.place) got)) (fault.Twice (name_at sc x.name) x.name.from x.name.to)) _ p
        (λ new. gives_then m TreeCovered Q (wanted sc (field_sort sc.signature f ss) x.value) _ p (covers_wanted (field_sort sc.signature f ss) x.value p l a.0.value)
        (λ t q g h. gives_then m (ValuesCovered (size of) (f.place ∷ got)) Q (values_rule own of ss (f.place ∷ got) xs sc) _ q
        (covers_values own of ss (f.place ∷ got) xs q (later p q g l) a.1)
        (λ v r j k. gives_value m Q (record { places = f.place ∷ v.places; terms = more t v.terms }) r (record {
          once = (not-true (list_any (nat_eq f.place) got) new, k.once);
          within = (subst (λ (n : ℕ). f.place < size n) (eqb-true f.of of same) i, k.within);
          count = ap suc k.count;
          terms = (h, k.terms);
        }))))))

    -- the first field's type
    of_first : {A : Type 0} (Q : A → Passed → Type 0) (xs : List Set) (y : A) (go : ℕ → Rule A) (p : Passed)
        → Q y p → ((n : ℕ) → Gives m p Q (go n)) → Gives m p Q (with_type sc xs y go)
    of_first Q [] y go p z k = gives_value m Q y p z
    of_first Q (x ∷ xs) y go p z k = of_name Q x.name y (λ f. go f.of) p (λ f i. k f.of)

    fields_from_values : (n : ℕ) (v : Values) (q : Passed) → ValuesCovered n [] v q → AreFields n v.places v.terms
    fields_from_values n v q h = record { once = h.once; within = h.within; count = h.count }

    pub covers_record : (own : Span) (xs : List Set) (p : Passed) → L p → AllByRecursion CoveredSet xs → Gives m p TypedCovered (record_rule own xs sc)
    covers_record own xs p l a =
        of_first TypedCovered xs no_term _ p tt
        (λ of. gives_then m Whatever TypedCovered (unknowns (arity_at sc.signature of)) _ p (new_unknowns (arity_at sc.signature of) p)
        (λ ss q g u. gives_then m (ValuesCovered (size of) []) TypedCovered (values_rule own of ss [] xs sc) _ q (covers_values own of ss [] xs q (later p q g l) a)
        (λ v r j k. gives_after m TypedCovered (test (nat_eq (length v.places) (size of)) (fault.MissingField own.from own.to)) _ r
        (λ c. gives_value m TypedCovered (typed (build of ss (size of) v.places v.terms) (NamedSort of ss)) r (fields_from_values (size of) v r k, k.terms)))))

    pub covers_update : (own : Span) (base : Part) (xs : List Set) (p : Passed) → L p → CoveredPart base → AllByRecursion CoveredSet xs
        → Gives m p TypedCovered (update_rule own base xs sc)
    covers_update own base xs p l b a =
        gives_then m TypedCovered TypedCovered (as_term sc base) _ p (in_term base p l b)
        (λ t q g y. of_first TypedCovered xs no_term _ q tt
        (λ of. gives_then m Whatever TypedCovered (unknowns (arity_at sc.signature of)) _ q (new_unknowns (arity_at sc.signature of) q)
        (λ ss r j u. gives_after m TypedCovered (has_sort base.place (NamedSort of ss) t.sort) _ r
        (λ c. gives_then m (ValuesCovered (size of) []) TypedCovered (values_rule own of ss [] xs sc) _ r
        (covers_values own of ss [] xs r (later p r (grows_then m p q r g j) l) a)
        (λ v w z k. gives_value m TypedCovered (typed (update of ss (size of) t.tree v.places v.terms) (NamedSort of ss)) w
        (fields_from_values (size of) v w k, y, k.terms))))))
