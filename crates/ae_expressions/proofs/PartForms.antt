-- What an expression is for the rules, by its kind.
use Rattle.std.proofs.Common.{◌≡◌, ◌∙◌, ℕ, List, Result, refl, sym, ap, subst}
use Rattle.ae_syntax.specs.declared.spans.Span.{Span}
use Rattle.ae_syntax.specs.declared.exprs.BinaryOp.{BinaryOp}
use Rattle.ae_syntax.specs.declared.exprs.BinaryOp.TheVariants as binary
use Rattle.ae_syntax.specs.declared.exprs.Expr.{Expr}
use Rattle.ae_syntax.specs.declared.exprs.ExprKind.{ExprKind, roll-out-ExprKind, fold-roll-ExprKind, out-ExprKind}
use Rattle.ae_syntax.specs.declared.exprs.ExprKind.TheOpen.{ExprKind-F}
use Rattle.ae_syntax.specs.declared.exprs.ExprKind.TheOpen as layer
use Rattle.ae_elab.specs.declared.faults.TypeFault.{TypeFault}
use Rattle.ae_elab.specs.declared.shapes.Shape.{Shape}
use Rattle.ae_elab.specs.declared.typings.Context.{Context}
use Rattle.ae_elab.specs.declared.typings.TypedTerm.{TypedTerm}
use Rattle.ae_elab.specs.declared.typings.Typing.{Typing}
use Rattle.ae_elab.specs.Shapes.{shape_of, part_of_shape}
use Rattle.ae_elab.specs.Rules.{Part, Set, Around}
use Rattle.ae_elab.specs.Typings.{TermAnswer, ClaimAnswer}
use Rattle.ae_elab.specs.Expressions.{part_step, expr_step, set_step, trigger_step, part_of, kind_part, set_of, trigger_of, binary_part}
use Rattle.ae_elab.proofs.PartRules.{expression}

-- ---- of this kind
pub part_is : (e : Expr) (k : ExprKind) (f : Span → Part) → e.kind ≡ k → kind_part k ≡ f → part_of e ≡ f e.span
part_is e k f is h = expression e ∙ ap (λ x. kind_part x e.span) is ∙ ap (λ g. g e.span) h

-- ---- its place
binary_place : (o : BinaryOp) (own : Span) (a b : Part) → (binary_part o own a b).place ≡ own
binary_place binary.Implies own a b = refl
binary_place binary.Iff own a b = refl
binary_place binary.Xor own a b = refl
binary_place binary.Or own a b = refl
binary_place binary.And own a b = refl
binary_place binary.Equal own a b = refl
binary_place binary.NotEqual own a b = refl
binary_place binary.Less own a b = refl
binary_place binary.AtMost own a b = refl
binary_place binary.Greater own a b = refl
binary_place binary.AtLeast own a b = refl
binary_place binary.Add own a b = refl
binary_place binary.Sub own a b = refl
binary_place binary.Mul own a b = refl
binary_place binary.Div own a b = refl
binary_place binary.Rem own a b = refl

step_place : (k : ExprKind-F (Span → Part) Part Set (List Part)) (own : Span) → (part_step k own).place ≡ own
step_place (layer.Binary o a b) own = binary_place o own a b
step_place (layer.Not a) own = refl
step_place (layer.Negative a) own = refl
step_place (layer.Quantified q groups triggers body) own = refl
step_place (layer.Let x e b) own = refl
step_place (layer.If c a b) own = refl
step_place (layer.Field e x) own = refl
step_place (layer.Apply name args) own = refl
step_place (layer.Numeral n) own = refl
step_place layer.True own = refl
step_place layer.False own = refl
step_place layer.Void own = refl
step_place (layer.Bracketed e) own = refl
step_place (layer.Ascribed e s) own = refl
step_place (layer.Distinct es) own = refl
step_place (layer.Record sets) own = refl
step_place (layer.Update base sets) own = refl

kind_place : (k : ExprKind) (own : Span) → (kind_part k own).place ≡ own
unfolding part_of kind_part set_of trigger_of
kind_place k own =
    ap (λ x. (kind_part x own).place) (sym (roll-out-ExprKind k))
    ∙ ap (λ (f : Span → Part). (f own).place) (fold-roll-ExprKind (Span → Part) Part Set (List Part) part_step expr_step set_step trigger_step (out-ExprKind k))
    ∙ step_place _ own

pub place_is : (e : Expr) → (part_of e).place ≡ e.span
place_is e = ap (λ p. p.place) (expression e) ∙ kind_place e.kind e.span

-- ---- an operator by what it makes
pub by_shape : (o : BinaryOp) (own : Span) (a b : Part) → binary_part o own a b ≡ part_of_shape (shape_of o) own a b
by_shape binary.Implies own a b = refl
by_shape binary.Iff own a b = refl
by_shape binary.Xor own a b = refl
by_shape binary.Or own a b = refl
by_shape binary.And own a b = refl
by_shape binary.Equal own a b = refl
by_shape binary.NotEqual own a b = refl
by_shape binary.Less own a b = refl
by_shape binary.AtMost own a b = refl
by_shape binary.Greater own a b = refl
by_shape binary.AtLeast own a b = refl
by_shape binary.Add own a b = refl
by_shape binary.Sub own a b = refl
by_shape binary.Mul own a b = refl
by_shape binary.Div own a b = refl
by_shape binary.Rem own a b = refl

-- ---- the answer of a function that follows the rule of this kind, or of an operator by what it makes
module _ (c : Context) (place : Span) (old new : Typing) where
  pub term_by : (e : Expr) (k : ExprKind) (f : Span → Part) (result : Result TypedTerm TypeFault) → e.kind ≡ k → kind_part k ≡ f → TermAnswer c (λ sc. (f e.span).term sc place) old new result
      → TermAnswer c (λ sc. (part_of e).term sc place) old new result
  term_by e k f result is h a = subst (λ (p : Part). TermAnswer c (λ sc. p.term sc place) old new result) (sym (part_is e k f is h)) a

  pub formula_by : (around : Around) (e : Expr) (k : ExprKind) (f : Span → Part) (result : Result ℕ TypeFault) → e.kind ≡ k → kind_part k ≡ f → ClaimAnswer c (λ sc. (f e.span).formula sc around place) old new result
      → ClaimAnswer c (λ sc. (part_of e).formula sc around place) old new result
  formula_by around e k f result is h a = subst (λ (p : Part). ClaimAnswer c (λ sc. p.formula sc around place) old new result) (sym (part_is e k f is h)) a

  module _ (o : BinaryOp) (s : Shape) (is : shape_of o ≡ s) (own : Span) (a b : Part) where
    shaped : binary_part o own a b ≡ part_of_shape s own a b
    shaped = by_shape o own a b ∙ ap (λ z. part_of_shape z own a b) is

    pub term_by_shape : (result : Result TypedTerm TypeFault) → TermAnswer c (λ sc. (part_of_shape s own a b).term sc place) old new result → TermAnswer c (λ sc. (binary_part o own a b).term sc place) old new result
    term_by_shape result h = subst (λ (p : Part). TermAnswer c (λ sc. p.term sc place) old new result) (sym shaped) h

    pub formula_by_shape : (around : Around) (result : Result ℕ TypeFault) → ClaimAnswer c (λ sc. (part_of_shape s own a b).formula sc around place) old new result
        → ClaimAnswer c (λ sc. (binary_part o own a b).formula sc around place) old new result
    formula_by_shape around result h = subst (λ (p : Part). ClaimAnswer c (λ sc. p.formula sc around place) old new result) (sym shaped) h
