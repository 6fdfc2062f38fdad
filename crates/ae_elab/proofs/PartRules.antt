-- What an expression is for the rules, for each production: the equations that a function on trees follows.
use Rattle.std.proofs.Common.{◌≡◌, List, map, ap, sym, ◌∙◌}
use Rattle.ae_syntax.specs.declared.spans.Span.{Span}
use Rattle.ae_syntax.specs.declared.types.WrittenType.{WrittenType}
use Rattle.ae_syntax.specs.declared.exprs.BinaryOp.{BinaryOp}
use Rattle.ae_syntax.specs.declared.exprs.Quantifier.{Quantifier}
use Rattle.ae_syntax.specs.declared.exprs.Number.{Number}
use Rattle.ae_syntax.specs.declared.exprs.Group.{Group}
use Rattle.ae_syntax.specs.declared.exprs.Expr.{Expr, out-Expr, roll-out-Expr, fold-roll-Expr}
use Rattle.ae_syntax.specs.declared.exprs.Setting.{Setting, out-Setting, roll-out-Setting, fold-roll-Setting}
use Rattle.ae_syntax.specs.declared.exprs.Trigger.{Trigger, out-Trigger, roll-out-Trigger, fold-roll-Trigger}
use Rattle.ae_syntax.specs.declared.exprs.ExprKind.{ExprKind, fold-roll-ExprKind}
use Rattle.ae_syntax.specs.declared.exprs.ExprKind as kind
use Rattle.ae_syntax.specs.declared.exprs.ExprKind.TheVariants.{rolls-Binary, rolls-Not, rolls-Negative, rolls-Quantified, rolls-Let, rolls-If, rolls-Field, rolls-Apply, rolls-Numeral, rolls-True, rolls-False, rolls-Void, rolls-Bracketed, rolls-Ascribed, rolls-Distinct, rolls-Record, rolls-Update}
use Rattle.ae_syntax.specs.declared.exprs.ExprKind.TheOpen as layer
use Rattle.ae_elab.specs.Rules.{Part, Set}
use Rattle.ae_elab.specs.Expressions.{part_step, expr_step, set_step, trigger_step, part_of, kind_part, set_of, trigger_of}

pub expression : (e : Expr) → part_of e ≡ kind_part e.kind e.span
unfolding part_of kind_part set_of trigger_of
expression e = ap part_of (sym (roll-out-Expr e)) ∙ fold-roll-Expr (Span → Part) Part Set (List Part) part_step expr_step set_step trigger_step (out-Expr e)

pub setting : (s : Setting) → set_of s ≡ record { name = s.name; value = part_of s.value }
unfolding part_of kind_part set_of trigger_of
setting s = ap set_of (sym (roll-out-Setting s)) ∙ fold-roll-Setting (Span → Part) Part Set (List Part) part_step expr_step set_step trigger_step (out-Setting s)

pub trigger : (t : Trigger) → trigger_of t ≡ map part_of (out-Trigger t).terms
unfolding part_of kind_part set_of trigger_of
trigger t = ap trigger_of (sym (roll-out-Trigger t)) ∙ fold-roll-Trigger (Span → Part) Part Set (List Part) part_step expr_step set_step trigger_step (out-Trigger t)

pub kind_binary : (o : BinaryOp) (a b : Expr) → kind_part (kind.Binary o a b) ≡ part_step (layer.Binary o (part_of a) (part_of b))
unfolding part_of kind_part set_of trigger_of
kind_binary o a b = ap kind_part (sym (rolls-Binary o a b)) ∙ fold-roll-ExprKind (Span → Part) Part Set (List Part) part_step expr_step set_step trigger_step (layer.Binary o a b)

pub kind_not : (a : Expr) → kind_part (kind.Not a) ≡ part_step (layer.Not (part_of a))
unfolding part_of kind_part set_of trigger_of
kind_not a = ap kind_part (sym (rolls-Not a)) ∙ fold-roll-ExprKind (Span → Part) Part Set (List Part) part_step expr_step set_step trigger_step (layer.Not a)

pub kind_negative : (a : Expr) → kind_part (kind.Negative a) ≡ part_step (layer.Negative (part_of a))
unfolding part_of kind_part set_of trigger_of
kind_negative a = ap kind_part (sym (rolls-Negative a)) ∙ fold-roll-ExprKind (Span → Part) Part Set (List Part) part_step expr_step set_step trigger_step (layer.Negative a)

pub kind_quantified : (q : Quantifier) (gs : List Group) (ts : List Trigger) (b : Expr) → kind_part (kind.Quantified q gs ts b) ≡ part_step (layer.Quantified q gs (map trigger_of ts) (part_of b))
unfolding part_of kind_part set_of trigger_of
kind_quantified q gs ts b = ap kind_part (sym (rolls-Quantified q gs ts b)) ∙ fold-roll-ExprKind (Span → Part) Part Set (List Part) part_step expr_step set_step trigger_step (layer.Quantified q gs ts b)

pub kind_let : (x : Span) (e b : Expr) → kind_part (kind.Let x e b) ≡ part_step (layer.Let x (part_of e) (part_of b))
unfolding part_of kind_part set_of trigger_of
kind_let x e b = ap kind_part (sym (rolls-Let x e b)) ∙ fold-roll-ExprKind (Span → Part) Part Set (List Part) part_step expr_step set_step trigger_step (layer.Let x e b)

pub kind_if : (c a b : Expr) → kind_part (kind.If c a b) ≡ part_step (layer.If (part_of c) (part_of a) (part_of b))
unfolding part_of kind_part set_of trigger_of
kind_if c a b = ap kind_part (sym (rolls-If c a b)) ∙ fold-roll-ExprKind (Span → Part) Part Set (List Part) part_step expr_step set_step trigger_step (layer.If c a b)

pub kind_field : (e : Expr) (x : Span) → kind_part (kind.Field e x) ≡ part_step (layer.Field (part_of e) x)
unfolding part_of kind_part set_of trigger_of
kind_field e x = ap kind_part (sym (rolls-Field e x)) ∙ fold-roll-ExprKind (Span → Part) Part Set (List Part) part_step expr_step set_step trigger_step (layer.Field e x)

pub kind_apply : (name : Span) (args : List Expr) → kind_part (kind.Apply name args) ≡ part_step (layer.Apply name (map part_of args))
unfolding part_of kind_part set_of trigger_of
kind_apply name args = ap kind_part (sym (rolls-Apply name args)) ∙ fold-roll-ExprKind (Span → Part) Part Set (List Part) part_step expr_step set_step trigger_step (layer.Apply name args)

pub kind_numeral : (n : Number) → kind_part (kind.Numeral n) ≡ part_step (layer.Numeral n)
unfolding part_of kind_part set_of trigger_of
kind_numeral n = ap kind_part (sym (rolls-Numeral n)) ∙ fold-roll-ExprKind (Span → Part) Part Set (List Part) part_step expr_step set_step trigger_step (layer.Numeral n)

pub kind_true : kind_part kind.True ≡ part_step layer.True
unfolding part_of kind_part set_of trigger_of
kind_true = ap kind_part (sym rolls-True) ∙ fold-roll-ExprKind (Span → Part) Part Set (List Part) part_step expr_step set_step trigger_step layer.True

pub kind_false : kind_part kind.False ≡ part_step layer.False
unfolding part_of kind_part set_of trigger_of
kind_false = ap kind_part (sym rolls-False) ∙ fold-roll-ExprKind (Span → Part) Part Set (List Part) part_step expr_step set_step trigger_step layer.False

pub kind_void : kind_part kind.Void ≡ part_step layer.Void
unfolding part_of kind_part set_of trigger_of
kind_void = ap kind_part (sym rolls-Void) ∙ fold-roll-ExprKind (Span → Part) Part Set (List Part) part_step expr_step set_step trigger_step layer.Void

pub kind_bracketed : (e : Expr) → kind_part (kind.Bracketed e) ≡ part_step (layer.Bracketed (part_of e))
unfolding part_of kind_part set_of trigger_of
kind_bracketed e = ap kind_part (sym (rolls-Bracketed e)) ∙ fold-roll-ExprKind (Span → Part) Part Set (List Part) part_step expr_step set_step trigger_step (layer.Bracketed e)

pub kind_ascribed : (e : Expr) (s : WrittenType) → kind_part (kind.Ascribed e s) ≡ part_step (layer.Ascribed (part_of e) s)
unfolding part_of kind_part set_of trigger_of
kind_ascribed e s = ap kind_part (sym (rolls-Ascribed e s)) ∙ fold-roll-ExprKind (Span → Part) Part Set (List Part) part_step expr_step set_step trigger_step (layer.Ascribed e s)

pub kind_distinct : (es : List Expr) → kind_part (kind.Distinct es) ≡ part_step (layer.Distinct (map part_of es))
unfolding part_of kind_part set_of trigger_of
kind_distinct es = ap kind_part (sym (rolls-Distinct es)) ∙ fold-roll-ExprKind (Span → Part) Part Set (List Part) part_step expr_step set_step trigger_step (layer.Distinct es)

pub kind_record : (sets : List Setting) → kind_part (kind.Record sets) ≡ part_step (layer.Record (map set_of sets))
unfolding part_of kind_part set_of trigger_of
kind_record sets = ap kind_part (sym (rolls-Record sets)) ∙ fold-roll-ExprKind (Span → Part) Part Set (List Part) part_step expr_step set_step trigger_step (layer.Record sets)

pub kind_update : (base : Expr) (sets : List Setting) → kind_part (kind.Update base sets) ≡ part_step (layer.Update (part_of base) (map set_of sets))
unfolding part_of kind_part set_of trigger_of
kind_update base sets = ap kind_part (sym (rolls-Update base sets)) ∙ fold-roll-ExprKind (Span → Part) Part Set (List Part) part_step expr_step set_step trigger_step (layer.Update base sets)
