-- The sorts that written types are.
use Rattle.std.specs.Prelude.{ℕ, Bool, true, not, nat_eq, List, length, Option, Some, None}
use Rattle.ae_core.specs.declared.terms.Sort.{Sort, Var, Int, Real, Bool as BoolSort, Unit as UnitSort, Named}
use Rattle.ae_core.specs.Sorts.{type_fits}
use Rattle.ae_syntax.specs.declared.spans.Span.{Span}
use Rattle.ae_syntax.specs.declared.types.WrittenType.{WrittenType, fold-WrittenType}
use Rattle.ae_syntax.specs.declared.types.TypeKind.TheOpen.{TypeKind-F}
use Rattle.ae_syntax.specs.declared.types.TypeKind.TheOpen as layer
use Rattle.ae_elab.specs.declared.faults.TypeFault.TheVariants as fault
use Rattle.ae_elab.specs.declared.grounds.Ground.{Ground}
use Rattle.ae_elab.specs.declared.grounds.Ground.TheVariants.{Free, InField}
use Rattle.ae_elab.specs.Conditions.{test}
use Rattle.ae_elab.specs.Scope.{Scope, name_at, type_number, first_place}
use Rattle.ae_elab.specs.Rules.{Rule, give, ◌>>◌, ◌⇒◌, refuse, each, written_variable}
use Rattle.std.specs.Str.{bytes_eq}

-- a type variable: elsewhere it is one of the declaration, in a field it is a parameter of the type
abbrev pub parameter : Scope → Span → Option ℕ → Rule Sort
parameter sc s (Some i) = give (Var i)
parameter sc s None = refuse (fault.UnknownName (name_at sc s) s.from s.to) UnitSort

abbrev pub variable_rule : Ground → Scope → Span → Rule Sort
variable_rule Free sc s = written_variable (name_at sc s)
variable_rule (InField params own) sc s = parameter sc s (first_place (bytes_eq (name_at sc s)) params)

-- whether a type of this number may stand there: not the record type itself
abbrev pub is_other : Ground → ℕ → Bool
is_other Free h = true
is_other (InField params own) h = not (nat_eq h own)

-- a type's name, after its arguments: it is declared, it is another one, it has so many parameters
abbrev pub named_rule : Ground → Scope → Span → List Sort → Option ℕ → Rule Sort
named_rule g sc s args None = refuse (fault.UnknownName (name_at sc s) s.from s.to) UnitSort
named_rule g sc s args (Some h) =
    test (is_other g h) (fault.SelfRecord s.from s.to)
    ⇒ test (type_fits sc.signature h (length args)) (fault.Arity s.from s.to)
    ⇒ give (Named h args)

-- what a written type states, by its form and its place
abbrev pub TypeRule : Type 0
TypeRule = Ground → Scope → Rule Sort

abbrev pub type_step : TypeKind-F (Span → TypeRule) TypeRule → Span → TypeRule
type_step layer.Int s g sc = give Int
type_step layer.Real s g sc = give Real
type_step layer.Bool s g sc = give BoolSort
type_step layer.Unit s g sc = give UnitSort
type_step layer.Var s g sc = variable_rule g sc s
type_step (layer.Named n args) s g sc =
    each (λ r. r g sc) args >> λ ss. named_rule g sc n ss (type_number sc.signature (name_at sc n))

unfoldable pub type_rule : WrittenType → TypeRule
type_rule = fold-WrittenType (Span → TypeRule) TypeRule type_step (λ t. t.kind t.span)
