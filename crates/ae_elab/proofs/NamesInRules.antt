-- The names of an expression, for each production.
use Rattle.std.proofs.Common.{◌≡◌, List, [], ◌∷◌, ◌++◌, map, ap, sym, ◌∙◌}
use Rattle.ae_syntax.specs.declared.spans.Span.{Span}
use Rattle.ae_syntax.specs.declared.types.WrittenType.{WrittenType}
use Rattle.ae_syntax.specs.declared.exprs.BinaryOp.{BinaryOp}
use Rattle.ae_syntax.specs.declared.exprs.Quantifier.{Quantifier}
use Rattle.ae_syntax.specs.declared.exprs.Number.{Number}
use Rattle.ae_syntax.specs.declared.exprs.Group.{Group}
use Rattle.ae_syntax.specs.declared.exprs.Expr.{Expr, out-Expr, roll-out-Expr, fold-roll-Expr}
use Rattle.ae_syntax.specs.declared.exprs.Setting.{Setting, out-Setting, roll-out-Setting, fold-roll-Setting}
use Rattle.ae_syntax.specs.declared.exprs.Trigger.{Trigger, out-Trigger, roll-out-Trigger, fold-roll-Trigger}
use Rattle.ae_syntax.specs.declared.exprs.ExprKind.{ExprKind, fold-roll-ExprKind}
use Rattle.ae_syntax.specs.declared.exprs.ExprKind as kind
use Rattle.ae_syntax.specs.declared.exprs.ExprKind.TheVariants.{rolls-Binary, rolls-Not, rolls-Negative, rolls-Quantified, rolls-Let, rolls-If, rolls-Field, rolls-Apply, rolls-Numeral, rolls-True, rolls-False, rolls-Void, rolls-Bracketed, rolls-Ascribed, rolls-Distinct, rolls-Record, rolls-Update}
use Rattle.ae_syntax.specs.declared.exprs.ExprKind.TheOpen as layer
use Rattle.ae_syntax.specs.declared.types.WrittenType.{fold-roll-WrittenType}
use Rattle.ae_syntax.specs.declared.types.TypeKind.{TypeKind, fold-TypeKind, fold-roll-TypeKind}
use Rattle.ae_syntax.specs.declared.types.TypeKind as type_kind
use Rattle.ae_syntax.specs.declared.types.TypeKind.TheVariants.{rolls-Int, rolls-Real, rolls-Bool, rolls-Unit, rolls-Var, rolls-Named}
use Rattle.ae_syntax.specs.declared.types.TypeKind.TheOpen as type_layer
use Rattle.ae_syntax.specs.Parts.{expression, setting_of, trigger_of, written, span, span_of, cover, terms_span}
use Rattle.ae_lex.specs.declared.kinds.Token.{Token}
use Rattle.ae_elab.specs.Names.{joined, names_step, names_in_type, names_in_group, kind_names_step, expr_names_step, set_names_step, trigger_names_step, names_in, names_in_form, names_in_set, names_in_trigger}

pub in_expression : (e : Expr) → names_in e ≡ names_in_form e.kind
unfolding names_in names_in_form names_in_set names_in_trigger
in_expression e = ap names_in (sym (roll-out-Expr e)) ∙ fold-roll-Expr (List Span) (List Span) (List Span) (List Span) kind_names_step expr_names_step set_names_step trigger_names_step (out-Expr e)

pub in_setting : (s : Setting) → names_in_set s ≡ s.name ∷ names_in s.value
unfolding names_in names_in_form names_in_set names_in_trigger
in_setting s = ap names_in_set (sym (roll-out-Setting s)) ∙ fold-roll-Setting (List Span) (List Span) (List Span) (List Span) kind_names_step expr_names_step set_names_step trigger_names_step (out-Setting s)

pub in_trigger : (t : Trigger) → names_in_trigger t ≡ joined (map names_in (out-Trigger t).terms)
unfolding names_in names_in_form names_in_set names_in_trigger
in_trigger t = ap names_in_trigger (sym (roll-out-Trigger t)) ∙ fold-roll-Trigger (List Span) (List Span) (List Span) (List Span) kind_names_step expr_names_step set_names_step trigger_names_step (out-Trigger t)

pub in_binary : (o : BinaryOp) (a : Expr) (b : Expr) → names_in_form (kind.Binary o a b) ≡ names_in a ++ names_in b
unfolding names_in names_in_form names_in_set names_in_trigger
in_binary o a b = ap names_in_form (sym (rolls-Binary o a b)) ∙ fold-roll-ExprKind (List Span) (List Span) (List Span) (List Span) kind_names_step expr_names_step set_names_step trigger_names_step (layer.Binary o a b)

pub in_not : (a : Expr) → names_in_form (kind.Not a) ≡ names_in a
unfolding names_in names_in_form names_in_set names_in_trigger
in_not a = ap names_in_form (sym (rolls-Not a)) ∙ fold-roll-ExprKind (List Span) (List Span) (List Span) (List Span) kind_names_step expr_names_step set_names_step trigger_names_step (layer.Not a)

pub in_negative : (a : Expr) → names_in_form (kind.Negative a) ≡ names_in a
unfolding names_in names_in_form names_in_set names_in_trigger
in_negative a = ap names_in_form (sym (rolls-Negative a)) ∙ fold-roll-ExprKind (List Span) (List Span) (List Span) (List Span) kind_names_step expr_names_step set_names_step trigger_names_step (layer.Negative a)

pub in_quantified : (q : Quantifier) (gs : List Group) (ts : List Trigger) (b : Expr) → names_in_form (kind.Quantified q gs ts b) ≡ joined (map names_in_group gs) ++ joined (map names_in_trigger ts) ++ names_in b
unfolding names_in names_in_form names_in_set names_in_trigger
in_quantified q gs ts b = ap names_in_form (sym (rolls-Quantified q gs ts b)) ∙ fold-roll-ExprKind (List Span) (List Span) (List Span) (List Span) kind_names_step expr_names_step set_names_step trigger_names_step (layer.Quantified q gs ts b)

pub in_let : (x : Span) (e : Expr) (b : Expr) → names_in_form (kind.Let x e b) ≡ x ∷ names_in e ++ names_in b
unfolding names_in names_in_form names_in_set names_in_trigger
in_let x e b = ap names_in_form (sym (rolls-Let x e b)) ∙ fold-roll-ExprKind (List Span) (List Span) (List Span) (List Span) kind_names_step expr_names_step set_names_step trigger_names_step (layer.Let x e b)

pub in_if : (c : Expr) (a : Expr) (b : Expr) → names_in_form (kind.If c a b) ≡ names_in c ++ names_in a ++ names_in b
unfolding names_in names_in_form names_in_set names_in_trigger
in_if c a b = ap names_in_form (sym (rolls-If c a b)) ∙ fold-roll-ExprKind (List Span) (List Span) (List Span) (List Span) kind_names_step expr_names_step set_names_step trigger_names_step (layer.If c a b)

pub in_field : (e : Expr) (x : Span) → names_in_form (kind.Field e x) ≡ names_in e ++ x ∷ []
unfolding names_in names_in_form names_in_set names_in_trigger
in_field e x = ap names_in_form (sym (rolls-Field e x)) ∙ fold-roll-ExprKind (List Span) (List Span) (List Span) (List Span) kind_names_step expr_names_step set_names_step trigger_names_step (layer.Field e x)

pub in_apply : (name : Span) (args : List Expr) → names_in_form (kind.Apply name args) ≡ name ∷ joined (map names_in args)
unfolding names_in names_in_form names_in_set names_in_trigger
in_apply name args = ap names_in_form (sym (rolls-Apply name args)) ∙ fold-roll-ExprKind (List Span) (List Span) (List Span) (List Span) kind_names_step expr_names_step set_names_step trigger_names_step (layer.Apply name args)

pub in_numeral : (n : Number) → names_in_form (kind.Numeral n) ≡ []
unfolding names_in names_in_form names_in_set names_in_trigger
in_numeral n = ap names_in_form (sym (rolls-Numeral n)) ∙ fold-roll-ExprKind (List Span) (List Span) (List Span) (List Span) kind_names_step expr_names_step set_names_step trigger_names_step (layer.Numeral n)

pub in_true : names_in_form kind.True ≡ []
unfolding names_in names_in_form names_in_set names_in_trigger
in_true = ap names_in_form (sym rolls-True) ∙ fold-roll-ExprKind (List Span) (List Span) (List Span) (List Span) kind_names_step expr_names_step set_names_step trigger_names_step layer.True

pub in_false : names_in_form kind.False ≡ []
unfolding names_in names_in_form names_in_set names_in_trigger
in_false = ap names_in_form (sym rolls-False) ∙ fold-roll-ExprKind (List Span) (List Span) (List Span) (List Span) kind_names_step expr_names_step set_names_step trigger_names_step layer.False

pub in_void : names_in_form kind.Void ≡ []
unfolding names_in names_in_form names_in_set names_in_trigger
in_void = ap names_in_form (sym rolls-Void) ∙ fold-roll-ExprKind (List Span) (List Span) (List Span) (List Span) kind_names_step expr_names_step set_names_step trigger_names_step layer.Void

pub in_bracketed : (e : Expr) → names_in_form (kind.Bracketed e) ≡ names_in e
unfolding names_in names_in_form names_in_set names_in_trigger
in_bracketed e = ap names_in_form (sym (rolls-Bracketed e)) ∙ fold-roll-ExprKind (List Span) (List Span) (List Span) (List Span) kind_names_step expr_names_step set_names_step trigger_names_step (layer.Bracketed e)

pub in_ascribed : (e : Expr) (s : WrittenType) → names_in_form (kind.Ascribed e s) ≡ names_in e ++ names_in_type s
unfolding names_in names_in_form names_in_set names_in_trigger
in_ascribed e s = ap names_in_form (sym (rolls-Ascribed e s)) ∙ fold-roll-ExprKind (List Span) (List Span) (List Span) (List Span) kind_names_step expr_names_step set_names_step trigger_names_step (layer.Ascribed e s)

pub in_distinct : (es : List Expr) → names_in_form (kind.Distinct es) ≡ joined (map names_in es)
unfolding names_in names_in_form names_in_set names_in_trigger
in_distinct es = ap names_in_form (sym (rolls-Distinct es)) ∙ fold-roll-ExprKind (List Span) (List Span) (List Span) (List Span) kind_names_step expr_names_step set_names_step trigger_names_step (layer.Distinct es)

pub in_record : (sets : List Setting) → names_in_form (kind.Record sets) ≡ joined (map names_in_set sets)
unfolding names_in names_in_form names_in_set names_in_trigger
in_record sets = ap names_in_form (sym (rolls-Record sets)) ∙ fold-roll-ExprKind (List Span) (List Span) (List Span) (List Span) kind_names_step expr_names_step set_names_step trigger_names_step (layer.Record sets)

pub in_update : (base : Expr) (sets : List Setting) → names_in_form (kind.Update base sets) ≡ names_in base ++ joined (map names_in_set sets)
unfolding names_in names_in_form names_in_set names_in_trigger
in_update base sets = ap names_in_form (sym (rolls-Update base sets)) ∙ fold-roll-ExprKind (List Span) (List Span) (List Span) (List Span) kind_names_step expr_names_step set_names_step trigger_names_step (layer.Update base sets)

-- ---- of what the grammar builds
pub in_built : (s : Span) (k : ExprKind) → names_in (expression s k) ≡ names_in_form k
unfolding names_in names_in_form names_in_set names_in_trigger
in_built s k = fold-roll-Expr (List Span) (List Span) (List Span) (List Span) kind_names_step expr_names_step set_names_step trigger_names_step (record { span = s; kind = k })

pub in_set_built : (n : Token) (e : Expr) → names_in_set (setting_of n e) ≡ span n ∷ names_in e
unfolding names_in names_in_form names_in_set names_in_trigger
in_set_built n e = fold-roll-Setting (List Span) (List Span) (List Span) (List Span) kind_names_step expr_names_step set_names_step trigger_names_step (record { span = cover (span n) (span_of e); name = span n; value = e })

pub in_trigger_built : (es : List Expr) → names_in_trigger (trigger_of es) ≡ joined (map names_in es)
unfolding names_in names_in_form names_in_set names_in_trigger
in_trigger_built es = fold-roll-Trigger (List Span) (List Span) (List Span) (List Span) kind_names_step expr_names_step set_names_step trigger_names_step (record { span = terms_span es; terms = es })

-- ---- types
unfoldable pub names_in_type_form : TypeKind → Span → List Span
names_in_type_form = fold-TypeKind (Span → List Span) (List Span) names_step (λ t. t.kind t.span)

pub in_type_built : (s : Span) (k : TypeKind) → names_in_type (written s k) ≡ names_in_type_form k s
unfolding names_in_type names_in_type_form
in_type_built s k = fold-roll-WrittenType (Span → List Span) (List Span) names_step (λ t. t.kind t.span) (record { span = s; kind = k })

pub in_type_int : (s : Span) → names_in_type_form type_kind.Int s ≡ []
unfolding names_in_type names_in_type_form
in_type_int s =
    ap (λ (k : TypeKind). names_in_type_form k s) (sym rolls-Int) ∙ ap (λ (f : Span → List Span). f s) (fold-roll-TypeKind (Span → List Span) (List Span) names_step (λ t. t.kind t.span) type_layer.Int)

pub in_type_real : (s : Span) → names_in_type_form type_kind.Real s ≡ []
unfolding names_in_type names_in_type_form
in_type_real s =
    ap (λ (k : TypeKind). names_in_type_form k s) (sym rolls-Real) ∙ ap (λ (f : Span → List Span). f s) (fold-roll-TypeKind (Span → List Span) (List Span) names_step (λ t. t.kind t.span) type_layer.Real)

pub in_type_bool : (s : Span) → names_in_type_form type_kind.Bool s ≡ []
unfolding names_in_type names_in_type_form
in_type_bool s =
    ap (λ (k : TypeKind). names_in_type_form k s) (sym rolls-Bool) ∙ ap (λ (f : Span → List Span). f s) (fold-roll-TypeKind (Span → List Span) (List Span) names_step (λ t. t.kind t.span) type_layer.Bool)

pub in_type_unit : (s : Span) → names_in_type_form type_kind.Unit s ≡ []
unfolding names_in_type names_in_type_form
in_type_unit s =
    ap (λ (k : TypeKind). names_in_type_form k s) (sym rolls-Unit) ∙ ap (λ (f : Span → List Span). f s) (fold-roll-TypeKind (Span → List Span) (List Span) names_step (λ t. t.kind t.span) type_layer.Unit)

pub in_type_var : (s : Span) → names_in_type_form type_kind.Var s ≡ s ∷ []
unfolding names_in_type names_in_type_form
in_type_var s =
    ap (λ (k : TypeKind). names_in_type_form k s) (sym rolls-Var) ∙ ap (λ (f : Span → List Span). f s) (fold-roll-TypeKind (Span → List Span) (List Span) names_step (λ t. t.kind t.span) type_layer.Var)

pub in_type_named : (s n : Span) (ws : List WrittenType) → names_in_type_form (type_kind.Named n ws) s ≡ n ∷ joined (map names_in_type ws)
unfolding names_in_type names_in_type_form
in_type_named s n ws =
    ap (λ (k : TypeKind). names_in_type_form k s) (sym (rolls-Named n ws))
    ∙ ap (λ (f : Span → List Span). f s) (fold-roll-TypeKind (Span → List Span) (List Span) names_step (λ t. t.kind t.span) (type_layer.Named n ws))
