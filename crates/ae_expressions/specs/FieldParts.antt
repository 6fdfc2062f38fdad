-- What the rules of fields and records go on with once their parts are typed.
use Rattle.std.specs.Prelude.{ℕ, false, nat_eq, not, List, [], ◌∷◌, length}
use Rattle.std.specs.List.{list_any}
use Rattle.ae_core.specs.declared.terms.Sort.{Sort, Named}
use Rattle.ae_core.specs.declared.terms.Head.TheVariants as head
use Rattle.ae_syntax.specs.declared.spans.Span.{Span}
use Rattle.ae_elab.specs.declared.faults.TypeFault.TheVariants as fault
use Rattle.ae_elab.specs.declared.fields.FieldPlace.{FieldPlace}
use Rattle.ae_elab.specs.Conditions.{Condition, test, has_sort}
use Rattle.ae_elab.specs.Rules.{Rule, give, ◌>>◌, ◌⇒◌, unknowns, Typed, typed, no_term}
use Rattle.ae_elab.specs.Scope.{Scope, name_in}
use Rattle.ae_elab.specs.Terms.{arity_at, field_sort, fields_at, with_field, Values}
use Rattle.ae_elab.specs.Trees.{Tree, none, more, apply, build, update}

-- `e.x`
abbrev pub then_field : Span → Span → Scope → Typed → Rule Typed
then_field place x sc t =
    with_field sc x no_term λ f. unknowns (arity_at sc.signature f.of) >> λ ss. has_sort place (Named f.of ss) t.sort
    ⇒ give (typed (apply (head.Field f.of f.place) ss (more t.tree none)) (field_sort sc.signature f ss))

-- the fault of a name that is no field's
abbrev pub no_field : List ℕ → Span → List Condition
no_field text x = test false (fault.UnknownName (name_in text x) x.from x.to) ∷ []

-- a field, named at the place x, is one of the record type of number `of`, and none of those of the places `got`
abbrev pub new_field : List ℕ → Span → ℕ → List ℕ → FieldPlace → Span → List Condition
new_field text own of got f x =
    test (nat_eq f.of of) (fault.MissingField own.from own.to) ∷ test (not (list_any (nat_eq f.place) got)) (fault.Twice (name_in text x) x.from x.to) ∷ []

-- `{ x = e; .. }`
abbrev pub then_built : Span → ℕ → List Sort → Scope → Values → Rule Typed
then_built own of ss sc v =
    let count = length (fields_at sc.signature of) in
    test (nat_eq (length v.places) count) (fault.MissingField own.from own.to) ⇒ give (typed (build of ss count v.places v.terms) (Named of ss))

-- `{ r with x = e; .. }`
abbrev pub then_updated : ℕ → List Sort → Scope → Tree → Values → Rule Typed
then_updated of ss sc t v = give (typed (update of ss (length (fields_at sc.signature of)) t v.places v.terms) (Named of ss))
