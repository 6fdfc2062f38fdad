-- Rules of terms give trees whose numerals are in lowest terms, where what is named there is such.
use Rattle.std.specs.Prelude.{ℕ, not, nat_eq, List, [], ◌∷◌, map, length, Option, Some, None}
use Rattle.std.specs.List.{AllByRecursion, list_any}
use Rattle.ae_core.specs.Putting.{put_sort}
use Rattle.ae_core.specs.declared.terms.Sort.{Sort, Named as NamedSort}
use Rattle.ae_core.specs.declared.terms.Head.TheVariants as head
use Rattle.ae_core.specs.declared.terms.Op.{Op}
use Rattle.ae_core.specs.declared.problems.SymbolEntry.{SymbolEntry}
use Rattle.ae_syntax.specs.declared.spans.Span.{Span}
use Rattle.ae_syntax.specs.declared.types.WrittenType.{WrittenType}
use Rattle.ae_syntax.specs.declared.exprs.Number.{Number}
use Rattle.ae_syntax.specs.declared.exprs.Number.TheVariants as number
use Rattle.ae_elab.specs.declared.faults.TypeFault.TheVariants as fault
use Rattle.ae_elab.specs.declared.fields.FieldPlace.{FieldPlace}
use Rattle.ae_elab.specs.declared.numbers.Numbers.{Numbers}
use Rattle.ae_elab.specs.Conditions.{Condition, test, has_sort}
use Rattle.ae_elab.specs.Trees.{Tree, more, none, apply, build, update}
use Rattle.ae_elab.specs.Scope.{Scope, name_at, field_place}
use Rattle.ae_elab.specs.Rules.{Rule, give, ◌>>◌, ◌⇒◌, all_of, refuse, unknowns, Typed, typed, no_term, Part, Set, as_term, as_formula}
use Rattle.ae_elab.specs.Rules.{wanted, all_wanted}
use Rattle.ae_elab.specs.Terms.{numeral_rule, numbers_of, operands, operation_rule, negative_rule, ascribed_rule, choice_rule, Applied}
use Rattle.ae_elab.specs.Terms.{application_rule, function_rule, fields_at, arity_at, field_sort, with_field, field_rule, Values, no_values}
use Rattle.ae_elab.specs.Terms.{values_rule, with_type, record_rule, update_rule}
use Rattle.ae_lowest_numerals.proofs.LowestTrees.{IsLowestNumber, LowestTree, LowestTrees, LowestLocals, Gives, TypedLowest, LowestPart, LowestSet}

abbrev BothLowest : Typed × Tree → Type 0
BothLowest st = LowestTree st.0.tree × LowestTree st.1

abbrev AppliedLowest : Applied → Type 0
AppliedLowest a = LowestTrees a.args

abbrev ValuesLowest : Values → Type 0
ValuesLowest v = LowestTrees v.terms

-- conditions before a rule leave its value
pub after_all : {A : Type 0} (Q : A → Type 0) (cs : List Condition) (r : Rule A) → Gives Q r → Gives Q (all_of cs r)
after_all Q [] r h = h
after_all Q (c ∷ cs) r h = after_all Q cs r h

pub numeral_lowest : (n : Number) → IsLowestNumber n → Gives TypedLowest (numeral_rule n)
numeral_lowest (number.Whole n) h p = h
numeral_lowest (number.Decimal a b) h p = h

module _ (sc : Scope) (l : LowestLocals sc) where
  all_lowest : (ss : List Sort) (es : List Part) → AllByRecursion LowestPart es → Gives LowestTrees (all_wanted sc ss es)
  all_lowest [] es a p = tt
  all_lowest (s ∷ ss) [] a p = tt
  all_lowest (s ∷ ss) (e ∷ es) a p = (a.0.term sc l e.place p, all_lowest ss es a.1 (wanted sc s e p).passed)

  -- ---- arithmetic
  pub operands_lowest : (n : Numbers) (a b : Part) → LowestPart a → LowestPart b → Gives BothLowest (operands sc n a b)
  operands_lowest n a b h k p = (h.term sc l a.place p, k.term sc l b.place (as_term sc a p).passed)

  pub operation_lowest : (o : Op) (a b : Part) → LowestPart a → LowestPart b → Gives TypedLowest (operation_rule o a b sc)
  operation_lowest o a b h k p = let x = operands_lowest (numbers_of o) a b h k p in (x.0, (x.1, tt))

  pub negative_lowest : (a : Part) → LowestPart a → Gives TypedLowest (negative_rule a sc)
  negative_lowest a h p = (h.term sc l a.place p, tt)

  pub ascribed_lowest : (e : Part) (w : WrittenType) → LowestPart e → Gives TypedLowest (ascribed_rule e w sc)
  ascribed_lowest e w h p = h.term sc l e.place p

  pub choice_lowest : (c a b : Part) → LowestPart c → LowestPart a → LowestPart b → Gives TypedLowest (choice_rule c a b sc)
  choice_lowest c a b h i j p =
      let f = as_formula sc c p in
      (h.formula sc l None c.place p, i.term sc l a.place f.passed, j.term sc l b.place (as_term sc a f.passed).passed)

  -- ---- applications
  pub application_lowest : (name : Span) (e : SymbolEntry) (args : List Part) → AllByRecursion LowestPart args → Gives AppliedLowest (application_rule name e args sc)
  application_lowest name e args a p = let u = unknowns e.vars p in all_lowest (map (put_sort u.value) e.args) args a u.passed

  pub function_lowest : (name : Span) (k : ℕ) (e : SymbolEntry) (s : Sort) (args : List Part) → AllByRecursion LowestPart args
      → Gives TypedLowest (function_rule name k e s args sc)
  function_lowest name k e s args a p = application_lowest name e args a p

  -- ---- fields and records
  found_field : {A : Type 0} (Q : A → Type 0) (x : Span) (o : Option FieldPlace) (y : A) (go : FieldPlace → Rule A) → Q y → ((f : FieldPlace) → Gives Q (go f))
      → Gives Q (elim o [ Some f ↦ go f | None ↦ refuse (fault.UnknownName (name_at sc x) x.from x.to) y ])
  found_field Q x (Some f) y go z k = k f
  found_field Q x None y go z k = λ p. z

  of_name : {A : Type 0} (Q : A → Type 0) (x : Span) (y : A) (go : FieldPlace → Rule A) → Q y → ((f : FieldPlace) → Gives Q (go f)) → Gives Q (with_field sc x y go)
  of_name Q x y go z k = found_field Q x (field_place sc.signature (name_at sc x)) y go z k

  pub field_lowest : (e : Part) (x : Span) → LowestPart e → Gives TypedLowest (field_rule e x sc)
  field_lowest e x h p =
      let t = (as_term sc e p).value in
      of_name TypedLowest x no_term
      (λ f. unknowns (arity_at sc.signature f.of) >> λ ss. has_sort e.place (NamedSort f.of ss) t.sort
      ⇒ give (typed (apply (head.Field f.of f.place) ss (more t.tree none)) (field_sort sc.signature f ss)))
      tt (λ f q. (h.term sc l e.place p, tt)) (as_term sc e p).passed

  values_lowest : (own : Span) (of : ℕ) (ss : List Sort) (got : List ℕ) (xs : List Set) → AllByRecursion LowestSet xs → Gives ValuesLowest (values_rule own of ss got xs sc)
  values_lowest own of ss got [] a p = tt
  values_lowest own of ss got (x ∷ xs) a p =
      of_name ValuesLowest x.name no_values
      (λ f. test (nat_eq f.of of) (fault.MissingField own.from own.to)
      ⇒ test (not (list_any (nat_eq f.place) got)) (fault.Twice (name_at sc x.name) x.name.from x.name.to)
      ⇒ wanted sc (field_sort sc.signature f ss) x.value >> λ t. values_rule own of ss (f.place ∷ got) xs sc >> λ v.
      give (record { places = f.place ∷ v.places; terms = more t v.terms }))
      tt
      (λ f q. (a.0.term sc l x.value.place q, values_lowest own of ss (f.place ∷ got) xs a.1 (wanted sc (field_sort sc.signature f ss) x.value q).passed)) p

  -- the first field's type
  of_first : {A : Type 0} (Q : A → Type 0) (xs : List Set) (y : A) (go : ℕ → Rule A) → Q y → ((n : ℕ) → Gives Q (go n)) → Gives Q (with_type sc xs y go)
  of_first Q [] y go z k = λ p. z
  of_first Q (x ∷ xs) y go z k = of_name Q x.name y (λ f. go f.of) z (λ f. k f.of)

  pub record_lowest : (own : Span) (xs : List Set) → AllByRecursion LowestSet xs → Gives TypedLowest (record_rule own xs sc)
  record_lowest own xs a p =
      of_first TypedLowest xs no_term
      (λ of. unknowns (arity_at sc.signature of) >> λ ss. values_rule own of ss [] xs sc >> λ v.
      test (nat_eq (length v.places) (length (fields_at sc.signature of))) (fault.MissingField own.from own.to)
      ⇒ give (typed (build of ss (length (fields_at sc.signature of)) v.places v.terms) (NamedSort of ss)))
      tt (λ of q. let u = unknowns (arity_at sc.signature of) q in values_lowest own of u.value [] xs a u.passed) p

  pub update_lowest : (own : Span) (base : Part) (xs : List Set) → LowestPart base → AllByRecursion LowestSet xs → Gives TypedLowest (update_rule own base xs sc)
  update_lowest own base xs b a p =
      let t = (as_term sc base p).value in
      of_first TypedLowest xs no_term
      (λ of. unknowns (arity_at sc.signature of) >> λ ss. has_sort base.place (NamedSort of ss) t.sort
      ⇒ values_rule own of ss [] xs sc >> λ v. give (typed (update of ss (length (fields_at sc.signature of)) t.tree v.places v.terms) (NamedSort of ss)))
      tt
      (λ of q. let u = unknowns (arity_at sc.signature of) q in (b.term sc l base.place p, values_lowest own of u.value [] xs a u.passed))
      (as_term sc base p).passed
