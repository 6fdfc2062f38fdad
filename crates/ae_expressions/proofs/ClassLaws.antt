-- What expressions are before they are typed, by their kinds.
use Rattle.std.proofs.Common.{◌≡◌, ◌∙◌, List, [], ◌∷◌, map, refl, ap}
use Rattle.ae_core.specs.declared.terms.Op.{Op}
use Rattle.ae_syntax.specs.declared.spans.Span.{Span}
use Rattle.ae_syntax.specs.declared.types.WrittenType.{WrittenType}
use Rattle.ae_syntax.specs.declared.exprs.BinaryOp.{BinaryOp}
use Rattle.ae_syntax.specs.declared.exprs.Quantifier.{Quantifier}
use Rattle.ae_syntax.specs.declared.exprs.Number.{Number}
use Rattle.ae_syntax.specs.declared.exprs.Group.{Group}
use Rattle.ae_syntax.specs.declared.exprs.Expr.{Expr}
use Rattle.ae_syntax.specs.declared.exprs.Setting.{Setting}
use Rattle.ae_syntax.specs.declared.exprs.Trigger.{Trigger}
use Rattle.ae_syntax.specs.declared.exprs.ExprKind as kind
use Rattle.ae_syntax.specs.declared.exprs.ExprKind.TheOpen as layer
use Rattle.ae_elab.specs.declared.environment.Class.{Class}
use Rattle.ae_elab.specs.declared.environment.Class.TheVariants as code
use Rattle.ae_elab.specs.declared.nodes.Relation.{Relation}
use Rattle.ae_elab.specs.declared.nodes.Connective.{Connective}
use Rattle.ae_elab.specs.declared.shapes.Shape.{Shape}
use Rattle.ae_elab.specs.declared.shapes.Shape.TheVariants.{Operation, Equation, Inequality, Joined}
use Rattle.ae_elab.specs.Environments.{class_in}
use Rattle.ae_elab.specs.Expressions.{part_of, part_step, set_of, trigger_of}
use Rattle.ae_elab.specs.Rules.{Part}
use Rattle.ae_elab.specs.Scope.{Scope, formula, either, term, join, named, name_at, of_class, with_locals, meaning_of, class_of_named, class_of_meaning}
use Rattle.ae_elab.specs.Shapes.{shape_of, part_of_shape}
use Rattle.ae_expressions.proofs.PartForms.{part_is, by_shape}
use Rattle.ae_elab.proofs.PartRules.{kind_binary, kind_not, kind_negative, kind_quantified, kind_let, kind_if, kind_field, kind_apply, kind_numeral, kind_true, kind_false, kind_void, kind_bracketed, kind_ascribed, kind_distinct, kind_record, kind_update}

pub untyped : (c : Class) → class_in c ≡ class_of_meaning (of_class (class_in c))
untyped code.Formula = refl
untyped code.Either = refl
untyped code.Term = refl

module _ (e : Expr) (sc : Scope) where
  module _ (o : BinaryOp) (a b : Expr) (is : e.kind ≡ kind.Binary o a b) where
    made : (s : Shape) → shape_of o ≡ s → (part_of e).class sc ≡ (part_of_shape s e.span (part_of a) (part_of b)).class sc
    made s h =
        ap (λ (p : Part). p.class sc) (part_is e (kind.Binary o a b) (part_step (layer.Binary o (part_of a) (part_of b))) is (kind_binary o a b) ∙ by_shape o e.span (part_of a) (part_of b))
        ∙ ap (λ z. (part_of_shape z e.span (part_of a) (part_of b)).class sc) h

    pub class_operation : (p : Op) → shape_of o ≡ Operation p → (part_of e).class sc ≡ term
    class_operation p h = made (Operation p) h

    pub class_equation : (r : Relation) → shape_of o ≡ Equation r → (part_of e).class sc ≡ formula
    class_equation r h = made (Equation r) h

    pub class_inequality : (r : Relation) → shape_of o ≡ Inequality r → (part_of e).class sc ≡ formula
    class_inequality r h = made (Inequality r) h

    pub class_joined : (j : Connective) → shape_of o ≡ Joined j → (part_of e).class sc ≡ formula
    class_joined j h = made (Joined j) h

  pub class_not : (a : Expr) → e.kind ≡ kind.Not a → (part_of e).class sc ≡ formula
  class_not a is = ap (λ (p : Part). p.class sc) (part_is e (kind.Not a) (part_step (layer.Not (part_of a))) is (kind_not a))

  pub class_negative : (a : Expr) → e.kind ≡ kind.Negative a → (part_of e).class sc ≡ term
  class_negative a is = ap (λ (p : Part). p.class sc) (part_is e (kind.Negative a) (part_step (layer.Negative (part_of a))) is (kind_negative a))

  pub class_quantified : (q : Quantifier) (gs : List Group) (ts : List Trigger) (b : Expr) → e.kind ≡ kind.Quantified q gs ts b → (part_of e).class sc ≡ formula
  class_quantified q gs ts b is = ap (λ (p : Part). p.class sc) (part_is e (kind.Quantified q gs ts b) (part_step (layer.Quantified q gs (map trigger_of ts) (part_of b))) is (kind_quantified q gs ts b))

  pub class_let : (x : Span) (v : Expr) (b : Expr) → e.kind ≡ kind.Let x v b → (part_of e).class sc ≡ (part_of b).class (with_locals (named (name_at sc x) (of_class ((part_of v).class sc)) ∷ []) sc)
  class_let x v b is = ap (λ (p : Part). p.class sc) (part_is e (kind.Let x v b) (part_step (layer.Let x (part_of v) (part_of b))) is (kind_let x v b))

  pub class_if : (k : Expr) (a : Expr) (b : Expr) → e.kind ≡ kind.If k a b → (part_of e).class sc ≡ join ((part_of a).class sc) ((part_of b).class sc)
  class_if k a b is = ap (λ (p : Part). p.class sc) (part_is e (kind.If k a b) (part_step (layer.If (part_of k) (part_of a) (part_of b))) is (kind_if k a b))

  pub class_field : (a : Expr) (x : Span) → e.kind ≡ kind.Field a x → (part_of e).class sc ≡ term
  class_field a x is = ap (λ (p : Part). p.class sc) (part_is e (kind.Field a x) (part_step (layer.Field (part_of a) x)) is (kind_field a x))

  pub class_apply : (n : Span) (es : List Expr) → e.kind ≡ kind.Apply n es → (part_of e).class sc ≡ class_of_named (meaning_of sc (name_at sc n))
  class_apply n es is = ap (λ (p : Part). p.class sc) (part_is e (kind.Apply n es) (part_step (layer.Apply n (map part_of es))) is (kind_apply n es))

  pub class_numeral : (n : Number) → e.kind ≡ kind.Numeral n → (part_of e).class sc ≡ term
  class_numeral n is = ap (λ (p : Part). p.class sc) (part_is e (kind.Numeral n) (part_step (layer.Numeral n)) is (kind_numeral n))

  pub class_true : e.kind ≡ kind.True → (part_of e).class sc ≡ either
  class_true is = ap (λ (p : Part). p.class sc) (part_is e kind.True (part_step layer.True) is kind_true)

  pub class_false : e.kind ≡ kind.False → (part_of e).class sc ≡ either
  class_false is = ap (λ (p : Part). p.class sc) (part_is e kind.False (part_step layer.False) is kind_false)

  pub class_void : e.kind ≡ kind.Void → (part_of e).class sc ≡ term
  class_void is = ap (λ (p : Part). p.class sc) (part_is e kind.Void (part_step layer.Void) is kind_void)

  pub class_bracketed : (a : Expr) → e.kind ≡ kind.Bracketed a → (part_of e).class sc ≡ (part_of a).class sc
  class_bracketed a is = ap (λ (p : Part). p.class sc) (part_is e (kind.Bracketed a) (part_step (layer.Bracketed (part_of a))) is (kind_bracketed a))

  pub class_ascribed : (a : Expr) (w : WrittenType) → e.kind ≡ kind.Ascribed a w → (part_of e).class sc ≡ term
  class_ascribed a w is = ap (λ (p : Part). p.class sc) (part_is e (kind.Ascribed a w) (part_step (layer.Ascribed (part_of a) w)) is (kind_ascribed a w))

  pub class_distinct : (es : List Expr) → e.kind ≡ kind.Distinct es → (part_of e).class sc ≡ formula
  class_distinct es is = ap (λ (p : Part). p.class sc) (part_is e (kind.Distinct es) (part_step (layer.Distinct (map part_of es))) is (kind_distinct es))

  pub class_record : (xs : List Setting) → e.kind ≡ kind.Record xs → (part_of e).class sc ≡ term
  class_record xs is = ap (λ (p : Part). p.class sc) (part_is e (kind.Record xs) (part_step (layer.Record (map set_of xs))) is (kind_record xs))

  pub class_update : (a : Expr) (xs : List Setting) → e.kind ≡ kind.Update a xs → (part_of e).class sc ≡ term
  class_update a xs is = ap (λ (p : Part). p.class sc) (part_is e (kind.Update a xs) (part_step (layer.Update (part_of a) (map set_of xs))) is (kind_update a xs))

pub ruleset classes = (class_operation, class_equation, class_inequality, class_joined, class_not, class_negative, class_quantified, class_let, class_if, class_field, class_apply, class_numeral, class_true, class_false, class_void, class_bracketed, class_ascribed, class_distinct, class_record, class_update)
