-- Parts of a tree, and what each production builds of its own parts.
use Rattle.std.specs.Prelude.{Bool, List, [], ◌∷◌, ◌++◌, Some, None}
use Rattle.ae_lex.specs.declared.kinds.Token.{Token}
use Rattle.ae_syntax.specs.declared.spans.Span.{Span}
use Rattle.ae_syntax.specs.declared.types.WrittenType.{WrittenType, out-WrittenType, roll-WrittenType}
use Rattle.ae_syntax.specs.declared.types.TypeKind as type_kind
use Rattle.ae_syntax.specs.declared.exprs.BinaryOp.{BinaryOp}
use Rattle.ae_syntax.specs.declared.exprs.Quantifier.{Quantifier}
use Rattle.ae_syntax.specs.declared.exprs.Number.{Number}
use Rattle.ae_syntax.specs.declared.exprs.Expr.{Expr, out-Expr, roll-Expr}
use Rattle.ae_syntax.specs.declared.exprs.ExprKind as expr_kind
use Rattle.ae_syntax.specs.declared.exprs.Group.{Group}
use Rattle.ae_syntax.specs.declared.exprs.Trigger.{Trigger, roll-Trigger}
use Rattle.ae_syntax.specs.declared.exprs.Setting.{Setting, roll-Setting}
use Rattle.ae_syntax.specs.declared.decls.TypedName.{TypedName}
use Rattle.ae_syntax.specs.declared.decls.SymbolResult.{SymbolResult}
use Rattle.ae_syntax.specs.declared.decls.Decl.{Decl}
use Rattle.ae_syntax.specs.declared.decls.DeclKind.{DeclKind}
use Rattle.ae_syntax.specs.declared.decls.DeclKind.TheVariants as decl_kind

-- ---- places
abbrev pub span : Token → Span
span t = record { from = t.from; to = t.to }

abbrev pub span_of : Expr → Span
span_of e = let r = out-Expr e in r.span

abbrev pub type_span : WrittenType → Span
type_span s = let r = out-WrittenType s in r.span

-- from the start of the first to the end of the last
abbrev pub cover : Span → Span → Span
cover a b = record { from = a.from; to = b.to }

abbrev pub last_or : Span → List Span → Span
last_or s [] = s
last_or s (n ∷ ns) = last_or n ns

abbrev pub last_term_or : Span → List Expr → Span
last_term_or s [] = s
last_term_or s (e ∷ es) = last_term_or (span_of e) es

abbrev pub terms_span : List Expr → Span
terms_span [] = record { from = 0; to = 0 }
terms_span (e ∷ es) = cover (span_of e) (last_term_or (span_of e) es)

-- ---- expressions
abbrev pub expression : Span → expr_kind.ExprKind → Expr
expression s f = roll-Expr (record { span = s; kind = f })

abbrev pub binary : BinaryOp → Expr → Expr → Expr
binary o a b = expression (cover (span_of a) (span_of b)) (expr_kind.Binary o a b)

-- a word or sign before an expression
abbrev pub negation : Token → Expr → Expr
negation t e = expression (cover (span t) (span_of e)) (expr_kind.Not e)

abbrev pub negative : Token → Expr → Expr
negative t e = expression (cover (span t) (span_of e)) (expr_kind.Negative e)

abbrev pub quantified : Token → Quantifier → List Group → List Trigger → Expr → Expr
quantified t q gs ts e = expression (cover (span t) (span_of e)) (expr_kind.Quantified q gs ts e)

abbrev pub let_in : Token → Token → Expr → Expr → Expr
let_in t n a b = expression (cover (span t) (span_of b)) (expr_kind.Let (span n) a b)

abbrev pub conditional : Token → Expr → Expr → Expr → Expr
conditional t c a b = expression (cover (span t) (span_of b)) (expr_kind.If c a b)

abbrev pub field_of : Expr → Token → Expr
field_of e n = expression (cover (span_of e) (span n)) (expr_kind.Field e (span n))

-- atoms
abbrev pub bare : Token → Expr
bare n = expression (span n) (expr_kind.Apply (span n) [])

abbrev pub applied : Token → List Expr → Token → Expr
applied n es c = expression (cover (span n) (span c)) (expr_kind.Apply (span n) es)

abbrev pub number_at : Token → Number → Expr
number_at t n = expression (span t) (expr_kind.Numeral n)

abbrev pub true_at : Token → Expr
true_at t = expression (span t) expr_kind.True

abbrev pub false_at : Token → Expr
false_at t = expression (span t) expr_kind.False

abbrev pub void_at : Token → Expr
void_at t = expression (span t) expr_kind.Void

abbrev pub bracketed : Token → Expr → Token → Expr
bracketed o e c = expression (cover (span o) (span c)) (expr_kind.Bracketed e)

abbrev pub ascribed : Token → Expr → WrittenType → Token → Expr
ascribed o e s c = expression (cover (span o) (span c)) (expr_kind.Ascribed e s)

abbrev pub distinct_of : Token → List Expr → Token → Expr
distinct_of t es c = expression (cover (span t) (span c)) (expr_kind.Distinct es)

abbrev pub record_of : Token → List Setting → Token → Expr
record_of o ss c = expression (cover (span o) (span c)) (expr_kind.Record ss)

abbrev pub update_of : Token → Expr → List Setting → Token → Expr
update_of o e ss c = expression (cover (span o) (span c)) (expr_kind.Update e ss)

abbrev pub setting_of : Token → Expr → Setting
setting_of n e = roll-Setting (record { span = cover (span n) (span_of e); name = span n; value = e })

abbrev pub trigger_of : List Expr → Trigger
trigger_of es = roll-Trigger (record { span = terms_span es; terms = es })

-- ---- types
abbrev pub written : Span → type_kind.TypeKind → WrittenType
written s f = roll-WrittenType (record { span = s; kind = f })

-- a type's name after the types in a span
abbrev pub named_after : Span → List WrittenType → Token → WrittenType
named_after s ts n = written (cover s (span n)) (type_kind.Named (span n) ts)

-- ---- declarations
abbrev pub typed_name : Token → WrittenType → TypedName
typed_name n s = record { span = cover (span n) (type_span s); name = span n; sort = s }

abbrev pub names_first : List Span → Span
names_first [] = record { from = 0; to = 0 }
names_first (n ∷ ns) = n

abbrev pub group_of : List Span → WrittenType → Group
group_of ns s = record { span = cover (names_first ns) (type_span s); names = ns; sort = s }

abbrev pub a_sort : WrittenType → SymbolResult
a_sort s = record { span = type_span s; sort = Some s }

abbrev pub prop_at : Token → SymbolResult
prop_at t = record { span = span t; sort = None }

abbrev pub declaration : Span → DeclKind → Decl
declaration s f = record { span = s; kind = f }

abbrev pub abstract_type : Token → List Span → Token → Decl
abstract_type t ps n = declaration (cover (span t) (span n)) (decl_kind.Type ps (span n) [])

abbrev pub record_type : Token → List Span → Token → List TypedName → Token → Decl
record_type t ps n fs c = declaration (cover (span t) (span c)) (decl_kind.Type ps (span n) fs)

abbrev pub enumeration : Token → Token → List Span → Decl
enumeration t n cs = declaration (cover (span t) (last_or (span t) cs)) (decl_kind.Enumeration (span n) cs)

abbrev pub logic_of : Token → Bool → List Span → List WrittenType → SymbolResult → Decl
logic_of t ac ns ss r = declaration (cover (span t) r.span) (decl_kind.Logic ac ns ss r)

abbrev pub function_of : Token → Token → List TypedName → WrittenType → Expr → Decl
function_of t n fs s e = declaration (cover (span t) (span_of e)) (decl_kind.Function (span n) fs s e)

abbrev pub predicate_of : Token → Token → List TypedName → Expr → Decl
predicate_of t n fs e = declaration (cover (span t) (span_of e)) (decl_kind.Predicate (span n) fs e)

abbrev pub axiom_of : Token → Token → Expr → Decl
axiom_of t n e = declaration (cover (span t) (span_of e)) (decl_kind.Axiom (span n) e)

abbrev pub goal_of : Token → Token → Expr → Decl
goal_of t n e = declaration (cover (span t) (span_of e)) (decl_kind.Goal (span n) e)

-- ---- parts
-- what tokens are: a token of its own, a tree, or a list of these
pub data Part : Type 0 where
  token : Token → Part
  flag : Bool → Part
  tree : Expr → Part
  sort : WrittenType → Part
  setting : Setting → Part
  trigger : Trigger → Part
  group : Group → Part
  typed : TypedName → Part
  result : SymbolResult → Part
  decl : Decl → Part
  names : List Span → Part
  trees : List Expr → Part
  sorts : List WrittenType → Part
  settings : List Setting → Part
  triggers : List Trigger → Part
  groups : List Group → Part
  typeds : List TypedName → Part
  decls : List Decl → Part

-- a part as a list, and a list with one more part at its end
abbrev pub alone : Part → Part
alone (token t) = names (span t ∷ [])
alone (tree e) = trees (e ∷ [])
alone (sort s) = sorts (s ∷ [])
alone (setting s) = settings (s ∷ [])
alone (trigger t) = triggers (t ∷ [])
alone (group g) = groups (g ∷ [])
alone (typed n) = typeds (n ∷ [])
alone (decl d) = decls (d ∷ [])
alone p = p

abbrev pub and_then : Part → Part → Part
and_then (names ns) (token t) = names (ns ++ span t ∷ [])
and_then (trees es) (tree e) = trees (es ++ e ∷ [])
and_then (sorts ss) (sort s) = sorts (ss ++ s ∷ [])
and_then (settings ss) (setting s) = settings (ss ++ s ∷ [])
and_then (triggers ts) (trigger t) = triggers (ts ++ t ∷ [])
and_then (groups gs) (group g) = groups (gs ++ g ∷ [])
and_then (typeds ns) (typed n) = typeds (ns ++ n ∷ [])
and_then (decls ds) (decl d) = decls (ds ++ d ∷ [])
and_then p q = p
