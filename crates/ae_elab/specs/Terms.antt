-- The typing rules of terms, one for each production.
use Rattle.std.specs.Prelude.{ℕ, pos, true, false, not, nat_eq, List, [], ◌∷◌, map, length, slice_get, Some, None}
use Rattle.std.specs.List.{list_any}
use Rattle.ae_core.specs.declared.terms.Sort.{Sort, Int, Real, Unit as UnitSort, Named}
use Rattle.ae_core.specs.declared.terms.Head.TheVariants as head
use Rattle.ae_core.specs.declared.terms.Op.{Op}
use Rattle.ae_core.specs.declared.terms.Op.TheVariants as op
use Rattle.ae_core.specs.declared.problems.SymbolEntry.{SymbolEntry}
use Rattle.ae_core.specs.declared.problems.FieldEntry.{FieldEntry}
use Rattle.ae_core.specs.declared.problems.Signature.{Signature}
use Rattle.ae_core.specs.Putting.{put_sort}
use Rattle.ae_core.specs.Signatures.{fields_of}
use Rattle.ae_syntax.specs.declared.spans.Span.{Span}
use Rattle.ae_syntax.specs.declared.types.WrittenType.{WrittenType}
use Rattle.ae_syntax.specs.declared.exprs.Number.{Number}
use Rattle.ae_syntax.specs.declared.exprs.Number.TheVariants as number
use Rattle.ae_elab.specs.declared.numbers.Numbers.{Numbers}
use Rattle.ae_elab.specs.declared.numbers.Numbers.TheVariants.{IntAlone, IntOrReal}
use Rattle.ae_elab.specs.declared.faults.TypeFault.TheVariants as fault
use Rattle.ae_elab.specs.Conditions.{test, has_sort, has_operand_sort, may_be, becomes}
use Rattle.ae_elab.specs.Trees.{Tree, Trees, none, more, numeral, apply, operation, build, update, choice}
use Rattle.ae_elab.specs.declared.fields.FieldPlace.{FieldPlace}
use Rattle.ae_elab.specs.Scope.{Scope, name_at, field_place}
use Rattle.ae_elab.specs.Rules.{Rule, give, ◌>>◌, ◌⇒◌, refuse, unknowns, Typed, typed, no_term, Part, Set, as_term, wanted, all_wanted, as_formula}
use Rattle.ae_elab.specs.declared.grounds.Ground.TheVariants.{Free}
use Rattle.ae_elab.specs.WrittenTypes.{type_rule}

-- ---- numerals
abbrev pub numeral_rule : Number → Rule Typed
numeral_rule (number.Whole n) = give (typed (numeral n (pos 1) false) Int)
numeral_rule (number.Decimal top bottom) = give (typed (numeral top bottom true) Real)

-- ---- arithmetic
-- there is no remainder on `real`
abbrev pub numbers_of : Op → Numbers
numbers_of op.Mod = IntAlone
numbers_of _ = IntOrReal

-- two operands of one numeric sort: the first of these sorts that is possible once the second one is typed. It is looked
-- at where the first operand is typed, and again where the second one is: an operand of another sort is the fault.
abbrev pub operands : Scope → Numbers → Part → Part → Rule (Typed × Tree)
operands sc n a b =
    as_term sc a >> λ s. may_be a.place n s.sort ⇒ as_term sc b >> λ t.
    may_be a.place n s.sort ⇒ has_operand_sort b.place s.sort t.sort ⇒ may_be b.place IntOrReal t.sort ⇒ becomes a.place n s.sort
    ⇒ give (s, t.tree)

-- `a + b` and the like
abbrev pub operation_rule : Op → Part → Part → Scope → Rule Typed
operation_rule o a b sc = operands sc (numbers_of o) a b >> λ st. give (typed (operation o st.0.sort (more st.0.tree (more st.1 none))) st.0.sort)

-- `- a`
abbrev pub negative_rule : Part → Scope → Rule Typed
negative_rule a sc =
    as_term sc a >> λ s. may_be a.place IntOrReal s.sort ⇒ becomes a.place IntOrReal s.sort
    ⇒ give (typed (operation op.Neg s.sort (more s.tree none)) s.sort)

-- ---- `(e : s)`
abbrev pub ascribed_rule : Part → WrittenType → Scope → Rule Typed
ascribed_rule e w sc = as_term sc e >> λ t. type_rule w Free sc >> λ s. has_sort e.place s t.sort ⇒ give (typed t.tree s)

-- ---- `if c then a else b` between terms: the second branch has the first one's sort
abbrev pub choice_rule : Part → Part → Part → Scope → Rule Typed
choice_rule c a b sc = as_formula sc c >> λ f. as_term sc a >> λ s. wanted sc s.sort b >> λ t. give (typed (choice f s.tree t) s.sort)

-- ---- applications: new unknowns for the symbol's type variables; its number of arguments is looked at first
pub record Applied : Type 0 where
  pub sorts : List Sort
  pub args : Trees

abbrev pub application_rule : Span → SymbolEntry → List Part → Scope → Rule Applied
application_rule name e args sc =
    test (nat_eq (length args) (length e.args)) (fault.Arity name.from name.to)
    ⇒ unknowns e.vars >> λ ss. all_wanted sc (map (put_sort ss) e.args) args >> λ us. give (record { sorts = ss; args = us })

abbrev pub function_rule : Span → ℕ → SymbolEntry → Sort → List Part → Scope → Rule Typed
function_rule name k e result args sc =
    application_rule name e args sc >> λ a. give (typed (apply (head.Symbol k) a.sorts a.args) (put_sort a.sorts result))

-- ---- fields and records
abbrev pub fields_at : Signature → ℕ → List FieldEntry
fields_at sig n = elim (slice_get sig.types n) [ Some e ↦ fields_of e | None ↦ [] ]

abbrev pub arity_at : Signature → ℕ → ℕ
arity_at sig n = elim (slice_get sig.types n) [ Some e ↦ e.arity | None ↦ 0 ]

abbrev pub field_sort : Signature → FieldPlace → List Sort → Sort
field_sort sig f ss = elim (slice_get (fields_at sig f.of) f.place) [ Some e ↦ put_sort ss e.sort | None ↦ UnitSort ]

-- a field's name is looked up
abbrev pub with_field : {A : Type 0} → Scope → Span → A → (FieldPlace → Rule A) → Rule A
with_field sc x otherwise go = elim (field_place sc.signature (name_at sc x)) [ Some f ↦ go f | None ↦ refuse (fault.UnknownName (name_at sc x) x.from x.to) otherwise ]

-- `e.x`: the term is typed before the field's name is looked up; then it is a record of the field's type
abbrev pub field_rule : Part → Span → Scope → Rule Typed
field_rule e x sc =
    as_term sc e >> λ t. with_field sc x no_term λ f. unknowns (arity_at sc.signature f.of) >> λ ss. has_sort e.place (Named f.of ss) t.sort
    ⇒ give (typed (apply (head.Field f.of f.place) ss (more t.tree none)) (field_sort sc.signature f ss))

-- the values of fields in the text's order, each with its field's place
pub record Values : Type 0 where
  pub places : List ℕ
  pub terms : Trees

abbrev pub no_values : Values
no_values = record { places = []; terms = none }

-- Values of fields of one record type, at a record of this place, after those of the places `got`. A field of another
-- type is missed at once, before its value is typed.
abbrev pub values_rule : Span → ℕ → List Sort → List ℕ → List Set → Scope → Rule Values
values_rule own of ss got [] sc = give no_values
values_rule own of ss got (x ∷ xs) sc =
    with_field sc x.name no_values λ f. test (nat_eq f.of of) (fault.MissingField own.from own.to)
    ⇒ test (not (list_any (nat_eq f.place) got)) (fault.Twice (name_at sc x.name) x.name.from x.name.to)
    ⇒ wanted sc (field_sort sc.signature f ss) x.value >> λ t. values_rule own of ss (f.place ∷ got) xs sc >> λ v.
    give (record { places = f.place ∷ v.places; terms = more t v.terms })

-- the record type of a list of fields is that of the first one
abbrev pub with_type : {A : Type 0} → Scope → List Set → A → (ℕ → Rule A) → Rule A
with_type sc [] otherwise go = give otherwise
with_type sc (x ∷ xs) otherwise go = with_field sc x.name otherwise λ f. go f.of

-- `{ x = e; .. }`: all fields of the type have a value
abbrev pub record_rule : Span → List Set → Scope → Rule Typed
record_rule own sets sc =
    with_type sc sets no_term λ of. unknowns (arity_at sc.signature of) >> λ ss. values_rule own of ss [] sets sc >> λ v.
    let count = length (fields_at sc.signature of) in
    test (nat_eq (length v.places) count) (fault.MissingField own.from own.to)
    ⇒ give (typed (build of ss count v.places v.terms) (Named of ss))

-- `{ r with x = e; .. }`: `r` is typed, then it is a record of the first field's type
abbrev pub update_rule : Span → Part → List Set → Scope → Rule Typed
update_rule own base sets sc =
    as_term sc base >> λ t. with_type sc sets no_term λ of. unknowns (arity_at sc.signature of) >> λ ss. has_sort base.place (Named of ss) t.sort
    ⇒ values_rule own of ss [] sets sc >> λ v.
    give (typed (update of ss (length (fields_at sc.signature of)) t.tree v.places v.terms) (Named of ss))
