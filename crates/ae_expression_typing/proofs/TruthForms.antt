-- A term in a formula's place: what its part is as a formula, from what it is as a term.
use Rattle.std.proofs.Common.{◌≡◌, ◌∙◌, ℕ, List, map, Result, sym, ap, subst}
use Rattle.ae_core.specs.declared.terms.Head.TheVariants as head
use Rattle.ae_core.specs.declared.terms.Op.{Op}
use Rattle.ae_core.specs.declared.terms.Sort.{Unit as UnitSort}
use Rattle.ae_syntax.specs.declared.spans.Span.{Span}
use Rattle.ae_syntax.specs.declared.exprs.BinaryOp.{BinaryOp}
use Rattle.ae_syntax.specs.declared.types.WrittenType.{WrittenType}
use Rattle.ae_syntax.specs.declared.exprs.Number.{Number}
use Rattle.ae_syntax.specs.declared.exprs.Setting.{Setting}
use Rattle.ae_syntax.specs.declared.exprs.Expr.{Expr}
use Rattle.ae_syntax.specs.declared.exprs.ExprKind.{ExprKind}
use Rattle.ae_syntax.specs.declared.exprs.ExprKind as kind
use Rattle.ae_syntax.specs.declared.exprs.ExprKind.TheOpen as layer
use Rattle.ae_elab.specs.declared.faults.TypeFault.{TypeFault}
use Rattle.ae_elab.specs.declared.shapes.Shape.TheVariants as shape
use Rattle.ae_elab.specs.declared.typings.Context.{Context}
use Rattle.ae_elab.specs.declared.typings.Typing.{Typing}
use Rattle.ae_elab.specs.Expressions.{part_of, set_of, kind_part, part_step, a_term_part}
use Rattle.ae_elab.specs.Formulas.{truth_rule}
use Rattle.ae_elab.specs.Rules.{Rule, Typed, typed, give, Part, Around}
use Rattle.ae_elab.specs.Scope.{Scope}
use Rattle.ae_elab.specs.Shapes.{shape_of, part_of_shape}
use Rattle.ae_elab.specs.Terms.{numeral_rule, negative_rule, ascribed_rule, field_rule, record_rule, update_rule}
use Rattle.ae_elab.specs.Trees.{constant}
use Rattle.ae_elab.specs.Typings.{ClaimAnswer}
use Rattle.ae_elab.proofs.PartRules.{kind_binary, kind_negative, kind_numeral, kind_void, kind_ascribed, kind_field, kind_record, kind_update}
use Rattle.ae_expressions.proofs.PartForms.{part_is, by_shape}

module _ (c : Context) (place : Span) (old new : Typing) (around : Around) (e : Expr) (result : Result ℕ TypeFault) (a : ClaimAnswer c (λ sc. truth_rule place ((part_of e).term sc place)) old new result) where
  truth_of : (own : Span) (r : Scope → Rule Typed) → part_of e ≡ a_term_part own r → ClaimAnswer c (λ sc. (part_of e).formula sc around place) old new result
  truth_of own r is =
      subst (λ (p : Part). ClaimAnswer c (λ sc. p.formula sc around place) old new result) (sym is)
      (subst (λ (p : Part). ClaimAnswer c (λ sc. truth_rule place (p.term sc place)) old new result) is a)

  -- ---- of a kind that is a term
  truth_by : (k : ExprKind) (r : Span → Scope → Rule Typed) → e.kind ≡ k → kind_part k ≡ (λ own. a_term_part own (r own)) → ClaimAnswer c (λ sc. (part_of e).formula sc around place) old new result
  truth_by k r is h = truth_of e.span (r e.span) (part_is e k (λ own. a_term_part own (r own)) is h)

  pub truth_negative : (x : Expr) → e.kind ≡ kind.Negative x → ClaimAnswer c (λ sc. (part_of e).formula sc around place) old new result
  truth_negative x is = truth_by (kind.Negative x) (λ own. negative_rule (part_of x)) is (kind_negative x)

  pub truth_numeral : (n : Number) → e.kind ≡ kind.Numeral n → ClaimAnswer c (λ sc. (part_of e).formula sc around place) old new result
  truth_numeral n is = truth_by (kind.Numeral n) (λ own sc. numeral_rule n) is (kind_numeral n)

  pub truth_void : e.kind ≡ kind.Void → ClaimAnswer c (λ sc. (part_of e).formula sc around place) old new result
  truth_void is = truth_by kind.Void (λ own sc. give (typed (constant head.Void) UnitSort)) is kind_void

  pub truth_ascribed : (x : Expr) (w : WrittenType) → e.kind ≡ kind.Ascribed x w → ClaimAnswer c (λ sc. (part_of e).formula sc around place) old new result
  truth_ascribed x w is = truth_by (kind.Ascribed x w) (λ own. ascribed_rule (part_of x) w) is (kind_ascribed x w)

  pub truth_field : (x : Expr) (f : Span) → e.kind ≡ kind.Field x f → ClaimAnswer c (λ sc. (part_of e).formula sc around place) old new result
  truth_field x f is = truth_by (kind.Field x f) (λ own. field_rule (part_of x) f) is (kind_field x f)

  pub truth_record : (xs : List Setting) → e.kind ≡ kind.Record xs → ClaimAnswer c (λ sc. (part_of e).formula sc around place) old new result
  truth_record xs is = truth_by (kind.Record xs) (λ own. record_rule own (map set_of xs)) is (kind_record xs)

  pub truth_update : (x : Expr) (xs : List Setting) → e.kind ≡ kind.Update x xs → ClaimAnswer c (λ sc. (part_of e).formula sc around place) old new result
  truth_update x xs is = truth_by (kind.Update x xs) (λ own. update_rule own (part_of x) (map set_of xs)) is (kind_update x xs)

  -- an operation
  pub truth_by_shape : (o : BinaryOp) (x y : Expr) (op : Op) → e.kind ≡ kind.Binary o x y → shape_of o ≡ shape.Operation op → ClaimAnswer c (λ sc. (part_of e).formula sc around place) old new result
  truth_by_shape o x y op is shaped =
      let same : part_of e ≡ part_of_shape (shape.Operation op) e.span (part_of x) (part_of y) =
      part_is e (kind.Binary o x y) (part_step (layer.Binary o (part_of x) (part_of y))) is (kind_binary o x y)
      ∙ by_shape o e.span (part_of x) (part_of y) ∙ ap (λ z. part_of_shape z e.span (part_of x) (part_of y)) shaped in
      subst (λ (p : Part). ClaimAnswer c (λ sc. p.formula sc around place) old new result) (sym same)
      (subst (λ (p : Part). ClaimAnswer c (λ sc. truth_rule place (p.term sc place)) old new result) same a)
