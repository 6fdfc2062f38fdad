-- The rule of each part that the grammar builds.
use Rattle.std.proofs.Common.{◌≡◌, ◌∙◌, List, map, ap, sym}
use Rattle.ae_syntax.specs.declared.spans.Span.{Span}
use Rattle.ae_syntax.specs.declared.types.WrittenType.{WrittenType, fold-roll-WrittenType}
use Rattle.ae_syntax.specs.declared.types.TypeKind.{TypeKind, TypeKind-F, fold-TypeKind, fold-roll-TypeKind}
use Rattle.ae_syntax.specs.declared.types.TypeKind as kind
use Rattle.ae_syntax.specs.declared.types.TypeKind.TheVariants.{rolls-Int, rolls-Real, rolls-Bool, rolls-Unit, rolls-Var, rolls-Named}
use Rattle.ae_syntax.specs.declared.types.TypeKind.TheOpen as layer
use Rattle.ae_syntax.specs.declared.exprs.Expr.{Expr, fold-roll-Expr}
use Rattle.ae_syntax.specs.declared.exprs.ExprKind.{ExprKind}
use Rattle.ae_syntax.specs.declared.exprs.Setting.{roll-Setting, fold-roll-Setting}
use Rattle.ae_syntax.specs.declared.exprs.Trigger.{roll-Trigger, fold-roll-Trigger}
use Rattle.ae_syntax.specs.Parts.{expression, written}
use Rattle.ae_elab.specs.Rules.{Part, Set}
use Rattle.ae_elab.specs.WrittenTypes.{TypeRule, type_step, type_rule}
use Rattle.ae_elab.specs.Expressions.{part_step, expr_step, set_step, trigger_step, part_of, kind_part, set_of, trigger_of}

-- ---- types
abbrev kind_type : TypeKind → Span → TypeRule
kind_type = fold-TypeKind (Span → TypeRule) TypeRule type_step (λ t. t.kind t.span)

built_type : (s : Span) (k : TypeKind) → type_rule (written s k) ≡ kind_type k s
unfolding type_rule
built_type s k = fold-roll-WrittenType (Span → TypeRule) TypeRule type_step (λ t. t.kind t.span) (record { span = s; kind = k })

by_layer : (s : Span) (k : TypeKind) (l : Span → TypeRule) → kind_type k ≡ l → type_rule (written s k) ≡ l s
by_layer s k l e = built_type s k ∙ ap (λ (f : Span → TypeRule). f s) e

pub int_rule : (s : Span) → type_rule (written s kind.Int) ≡ type_step layer.Int s
int_rule s = by_layer s kind.Int (type_step layer.Int) (ap kind_type (sym rolls-Int) ∙ fold-roll-TypeKind (Span → TypeRule) TypeRule type_step (λ t. t.kind t.span) layer.Int)

pub real_rule : (s : Span) → type_rule (written s kind.Real) ≡ type_step layer.Real s
real_rule s = by_layer s kind.Real (type_step layer.Real) (ap kind_type (sym rolls-Real) ∙ fold-roll-TypeKind (Span → TypeRule) TypeRule type_step (λ t. t.kind t.span) layer.Real)

pub bool_rule : (s : Span) → type_rule (written s kind.Bool) ≡ type_step layer.Bool s
bool_rule s = by_layer s kind.Bool (type_step layer.Bool) (ap kind_type (sym rolls-Bool) ∙ fold-roll-TypeKind (Span → TypeRule) TypeRule type_step (λ t. t.kind t.span) layer.Bool)

pub unit_rule : (s : Span) → type_rule (written s kind.Unit) ≡ type_step layer.Unit s
unit_rule s = by_layer s kind.Unit (type_step layer.Unit) (ap kind_type (sym rolls-Unit) ∙ fold-roll-TypeKind (Span → TypeRule) TypeRule type_step (λ t. t.kind t.span) layer.Unit)

pub var_rule : (s : Span) → type_rule (written s kind.Var) ≡ type_step layer.Var s
var_rule s = by_layer s kind.Var (type_step layer.Var) (ap kind_type (sym rolls-Var) ∙ fold-roll-TypeKind (Span → TypeRule) TypeRule type_step (λ t. t.kind t.span) layer.Var)

pub named_type_rule : (s n : Span) (ws : List WrittenType) → type_rule (written s (kind.Named n ws)) ≡ type_step (layer.Named n (map type_rule ws)) s
unfolding type_rule
named_type_rule s n ws =
    by_layer s (kind.Named n ws) (type_step (layer.Named n (map type_rule ws)))
    (ap kind_type (sym (rolls-Named n ws)) ∙ fold-roll-TypeKind (Span → TypeRule) TypeRule type_step (λ t. t.kind t.span) (layer.Named n ws))

-- ---- expressions
pub built_part : (s : Span) (k : ExprKind) → part_of (expression s k) ≡ kind_part k s
unfolding part_of kind_part set_of trigger_of
built_part s k = fold-roll-Expr (Span → Part) Part Set (List Part) part_step expr_step set_step trigger_step (record { span = s; kind = k })

pub built_setting : (s n : Span) (e : Expr) → set_of (roll-Setting (record { span = s; name = n; value = e })) ≡ record { name = n; value = part_of e }
unfolding part_of kind_part set_of trigger_of
built_setting s n e = fold-roll-Setting (Span → Part) Part Set (List Part) part_step expr_step set_step trigger_step (record { span = s; name = n; value = e })

pub built_trigger : (s : Span) (es : List Expr) → trigger_of (roll-Trigger (record { span = s; terms = es })) ≡ map part_of es
unfolding part_of kind_part set_of trigger_of
built_trigger s es = fold-roll-Trigger (Span → Part) Part Set (List Part) part_step expr_step set_step trigger_step (record { span = s; terms = es })
