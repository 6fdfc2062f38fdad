-- The names of a tree, each with its place in the text.
use Rattle.std.specs.Prelude.{ℕ, ◌≤◌, List, [], ◌∷◌, ◌++◌, map, length, Option, Some, None}
use Rattle.std.specs.Str.{IsUtf8}
use Rattle.ae_syntax.specs.declared.spans.Span.{Span}
use Rattle.ae_syntax.specs.declared.types.WrittenType.{WrittenType, fold-WrittenType}
use Rattle.ae_syntax.specs.declared.types.TypeKind.TheOpen.{TypeKind-F}
use Rattle.ae_syntax.specs.declared.types.TypeKind.TheOpen as layer
use Rattle.ae_syntax.specs.declared.exprs.Expr.{Expr, Expr-F, fold-Expr}
use Rattle.ae_syntax.specs.declared.exprs.ExprKind.{ExprKind, fold-ExprKind}
use Rattle.ae_syntax.specs.declared.exprs.ExprKind.TheOpen.{ExprKind-F}
use Rattle.ae_syntax.specs.declared.exprs.ExprKind.TheOpen as expr
use Rattle.ae_syntax.specs.declared.exprs.Group.{Group}
use Rattle.ae_syntax.specs.declared.exprs.Setting.{Setting, Setting-F, fold-Setting}
use Rattle.ae_syntax.specs.declared.exprs.Trigger.{Trigger, Trigger-F, fold-Trigger}
use Rattle.ae_syntax.specs.declared.decls.TypedName.{TypedName}
use Rattle.ae_syntax.specs.declared.decls.DeclKind.{DeclKind}
use Rattle.ae_syntax.specs.declared.decls.DeclKind.TheVariants as decl
use Rattle.ae_syntax.specs.declared.decls.File.{File}
use Rattle.ae_elab.specs.Scope.{name_in}

-- a name stands there
pub record IsName (text : List ℕ) (s : Span) : Type 0 where
  pub ordered : s.from ≤ s.to
  pub within : s.to ≤ length text
  pub utf8 : IsUtf8 (name_in text s)

abbrev pub joined : List (List Span) → List Span
joined [] = []
joined (xs ∷ xss) = xs ++ joined xss

-- ---- types
-- the names of a written type: those of its type variables and of its types
abbrev pub names_step : TypeKind-F (Span → List Span) (List Span) → Span → List Span
names_step layer.Int s = []
names_step layer.Real s = []
names_step layer.Bool s = []
names_step layer.Unit s = []
names_step layer.Var s = s ∷ []
names_step (layer.Named n args) s = n ∷ joined args

unfoldable pub names_in_type : WrittenType → List Span
names_in_type = fold-WrittenType (Span → List Span) (List Span) names_step (λ t. t.kind t.span)

-- the names in the sort of a symbol's value, which a predicate hasn't
abbrev pub names_in_result : Option WrittenType → List Span
names_in_result None = []
names_in_result (Some w) = names_in_type w

-- the names of a field or a formal parameter, and of several of them
abbrev pub names_in_typed : TypedName → List Span
names_in_typed x = x.name ∷ names_in_type x.sort

abbrev pub names_in_all : List TypedName → List Span
names_in_all xs = joined (map names_in_typed xs)

-- ---- expressions
abbrev pub names_in_group : Group → List Span
names_in_group g = g.names ++ names_in_type g.sort

abbrev pub kind_names_step : ExprKind-F (List Span) (List Span) (List Span) (List Span) → List Span
kind_names_step (expr.Binary o a b) = a ++ b
kind_names_step (expr.Not a) = a
kind_names_step (expr.Negative a) = a
kind_names_step (expr.Quantified q groups triggers body) = joined (map names_in_group groups) ++ joined triggers ++ body
kind_names_step (expr.Let x e b) = x ∷ e ++ b
kind_names_step (expr.If c a b) = c ++ a ++ b
kind_names_step (expr.Field e x) = e ++ x ∷ []
kind_names_step (expr.Apply name args) = name ∷ joined args
kind_names_step (expr.Numeral n) = []
kind_names_step expr.True = []
kind_names_step expr.False = []
kind_names_step expr.Void = []
kind_names_step (expr.Bracketed e) = e
kind_names_step (expr.Ascribed e s) = e ++ names_in_type s
kind_names_step (expr.Distinct es) = joined es
kind_names_step (expr.Record sets) = joined sets
kind_names_step (expr.Update base sets) = base ++ joined sets

abbrev pub expr_names_step : Expr-F (List Span) (List Span) (List Span) (List Span) → List Span
expr_names_step e = e.kind

abbrev pub set_names_step : Setting-F (List Span) (List Span) (List Span) (List Span) → List Span
set_names_step s = s.name ∷ s.value

abbrev pub trigger_names_step : Trigger-F (List Span) (List Span) (List Span) (List Span) → List Span
trigger_names_step t = joined t.terms

-- the names of an expression, of what it is, of a field's value, and of a trigger
unfoldable pub names_in : Expr → List Span
names_in = fold-Expr (List Span) (List Span) (List Span) (List Span) kind_names_step expr_names_step set_names_step trigger_names_step

unfoldable pub names_in_form : ExprKind → List Span
names_in_form = fold-ExprKind (List Span) (List Span) (List Span) (List Span) kind_names_step expr_names_step set_names_step trigger_names_step

unfoldable pub names_in_set : Setting → List Span
names_in_set = fold-Setting (List Span) (List Span) (List Span) (List Span) kind_names_step expr_names_step set_names_step trigger_names_step

unfoldable pub names_in_trigger : Trigger → List Span
names_in_trigger = fold-Trigger (List Span) (List Span) (List Span) (List Span) kind_names_step expr_names_step set_names_step trigger_names_step

-- ---- declarations
abbrev pub names_in_kind : DeclKind → List Span
names_in_kind (decl.Type params n fields) = params ++ n ∷ names_in_all fields
names_in_kind (decl.Enumeration n cs) = n ∷ cs
names_in_kind (decl.Logic ac names args result) = names ++ joined (map names_in_type args) ++ names_in_result result.sort
names_in_kind (decl.Function n formals result body) = n ∷ names_in_all formals ++ names_in_type result ++ names_in body
names_in_kind (decl.Predicate n formals body) = n ∷ names_in_all formals ++ names_in body
names_in_kind (decl.Axiom n body) = n ∷ names_in body
names_in_kind (decl.Goal n body) = n ∷ names_in body

abbrev pub names_in_file : File → List Span
names_in_file f = joined (map (λ d. names_in_kind d.kind) f.decls)
