-- A call goes down the tree, or to a helper of the same part.
use Rattle.std.proofs.Common.{◌≡◌, ◌∷◌, ◌+◌, ◌*◌, max}
use denote.Param.Weighed.{most}
use Rattle.ae_syntax.specs.declared.exprs.Expr.{Expr, size-Expr}
use Rattle.ae_syntax.specs.declared.exprs.Setting.{size-Setting}
use Rattle.ae_syntax.specs.declared.exprs.Trigger.{size-Trigger}
use Rattle.ae_expression_typing.proofs.ArgumentLaws.{Wants, Differ}
use Rattle.ae_expression_typing.proofs.TriggerLaws.{Matches, Collects}
use Rattle.ae_expression_typing.proofs.ValueLaws.{Gets}
use Rattle.ae_expression_typing.proofs.expressions.+expression.Given as goal

abbrev pub decreases-term_at : goal.decreases-term_at
decreases-term_at l = 8 * size-Expr l.expr.now + 1

abbrev pub decreases-term_of : goal.decreases-term_of
decreases-term_of l = 8 * size-Expr l.expr.now + 2

abbrev pub decreases-truth : goal.decreases-truth
decreases-truth l = 8 * size-Expr l.expr.now + 2

abbrev pub decreases-wanted_at : goal.decreases-wanted_at
decreases-wanted_at l = 8 * size-Expr l.expr.now + 3

abbrev pub decreases-formula_at : goal.decreases-formula_at
decreases-formula_at l = 8 * size-Expr l.expr.now + 3

abbrev pub decreases-formula_of : goal.decreases-formula_of
decreases-formula_of l = 8 * size-Expr l.expr.now + 4

abbrev pub decreases-negation : goal.decreases-negation
decreases-negation l = 8 * size-Expr l.inner.now + 5

abbrev pub decreases-operands : goal.decreases-operands
decreases-operands l = 8 * max (size-Expr l.left.now) (size-Expr l.right.now) + 5

abbrev pub decreases-equation : goal.decreases-equation
decreases-equation l = 8 * max (size-Expr l.left.now) (size-Expr l.right.now) + 5

abbrev pub decreases-inequality : goal.decreases-inequality
decreases-inequality l = 8 * max (size-Expr l.left.now) (size-Expr l.right.now) + 6

abbrev pub decreases-connected : goal.decreases-connected
decreases-connected l = 8 * max (size-Expr l.left.now) (size-Expr l.right.now) + 5

abbrev pub decreases-binary_term : goal.decreases-binary_term
decreases-binary_term l = 8 * max (size-Expr l.left.now) (size-Expr l.right.now) + 7

abbrev pub decreases-choice : goal.decreases-choice
decreases-choice l = 8 * max (max (size-Expr l.condition.now) (size-Expr l.positive.now)) (size-Expr l.negative.now) + 5

abbrev pub decreases-conditional : goal.decreases-conditional
decreases-conditional l = 8 * max (max (size-Expr l.condition.now) (size-Expr l.positive.now)) (size-Expr l.negative.now) + 5

abbrev pub decreases-opposite : goal.decreases-opposite
decreases-opposite l = 8 * size-Expr l.inner.now + 3

abbrev pub decreases-with_sort : goal.decreases-with_sort
decreases-with_sort l = 8 * size-Expr l.body.now + 3

abbrev pub decreases-field_of : goal.decreases-field_of
decreases-field_of l = 8 * size-Expr l.base.now + 3

abbrev pub decreases-calculated : goal.decreases-calculated
decreases-calculated l = 8 * max (size-Expr l.left.now) (size-Expr l.right.now) + 6

abbrev pub decreases-all_wanted : goal.decreases-all_wanted
decreases-all_wanted l = 8 * most size-Expr l.exprs.now + 4

abbrev pub decreases-application : goal.decreases-application
decreases-application l = 8 * most size-Expr l.args.now + 5

abbrev pub decreases-function : goal.decreases-function
decreases-function l = 8 * most size-Expr l.args.now + 6

abbrev pub decreases-predicate : goal.decreases-predicate
decreases-predicate l = 8 * most size-Expr l.args.now + 6

abbrev pub decreases-name_term : goal.decreases-name_term
decreases-name_term l = 8 * most size-Expr l.args.now + 7

abbrev pub decreases-name_formula : goal.decreases-name_formula
decreases-name_formula l = 8 * most size-Expr l.args.now + 7

abbrev pub invariant-all_wanted-loop-place : goal.invariant-all_wanted-loop-place
invariant-all_wanted-loop-place l = Wants l.context l.sorts l.exprs l.fn.typing l.typing l.trees l.place

abbrev pub decreases-different : goal.decreases-different
decreases-different l = 8 * most size-Expr l.exprs.now + 4

abbrev pub decreases-bind : goal.decreases-bind
decreases-bind l = 8 * size-Expr l.value.now + 6

abbrev pub decreases-bind_formula : goal.decreases-bind_formula
decreases-bind_formula l = 8 * size-Expr l.value.now + 5

abbrev pub decreases-bind_term : goal.decreases-bind_term
decreases-bind_term l = 8 * size-Expr l.value.now + 5

abbrev pub decreases-let_term : goal.decreases-let_term
decreases-let_term l = 8 * max (size-Expr l.value.now) (size-Expr l.body.now) + 7

abbrev pub decreases-let_formula : goal.decreases-let_formula
decreases-let_formula l = 8 * max (size-Expr l.value.now) (size-Expr l.body.now) + 7

abbrev pub invariant-different-loop-other : goal.invariant-different-loop-other
invariant-different-loop-other l =
    (first : Expr) × (l.exprs ≡ first ∷ l.others) × Differ l.context first l.others l.fn.typing l.found.sort l.typing l.trees l.other-index

abbrev pub decreases-all_values : goal.decreases-all_values
decreases-all_values l = 8 * most size-Setting l.settings.now + 4

abbrev pub decreases-record_at : goal.decreases-record_at
decreases-record_at l = 8 * most size-Setting l.settings.now + 5

abbrev pub decreases-update_at : goal.decreases-update_at
decreases-update_at l = 8 * max (size-Expr l.base.now) (most size-Setting l.settings.now) + 5

abbrev pub invariant-all_values-loop-setting : goal.invariant-all_values-loop-setting
invariant-all_values-loop-setting l = Gets l.context l.own l.of l.sorts l.settings l.fn.typing l.typing l.places l.trees l.setting-index

abbrev pub decreases-untested_at : goal.decreases-untested_at
decreases-untested_at l = 8 * size-Expr l.expr.now + 5

abbrev pub decreases-pattern_at : goal.decreases-pattern_at
decreases-pattern_at l = 8 * size-Expr l.expr.now + 6

abbrev pub decreases-trigger_terms : goal.decreases-trigger_terms
decreases-trigger_terms l = 8 * most size-Expr l.exprs.now + 7

abbrev pub decreases-all_triggers : goal.decreases-all_triggers
decreases-all_triggers l = 8 * most size-Trigger l.triggers.now + 4

abbrev pub decreases-block : goal.decreases-block
decreases-block l = 8 * max (most size-Trigger l.triggers.now) (size-Expr l.body.now) + 5

abbrev pub invariant-trigger_terms-loop-expr : goal.invariant-trigger_terms-loop-expr
invariant-trigger_terms-loop-expr l = Matches l.context l.exprs l.fn.typing l.typing l.trees l.expr-index

abbrev pub invariant-all_triggers-loop-trigger : goal.invariant-all_triggers-loop-trigger
invariant-all_triggers-loop-trigger l = Collects l.context l.variables l.triggers l.fn.typing l.typing l.patterns l.trigger-index
