use Rattle.std.proofs.Common.{arith, suc, slice_get, ◌≡◌, ◌∙◌, ℕ, ◌+◌, ◌*◌, ◌<◌, List, [], ◌∷◌, ◌++◌, length, map, max, reverse, get_or, Some, Ok, Err, refl, sym, ap, subst}
use Rattle.std.specs.List.{AllByRecursion}
use Rattle.std.proofs.lemmas.List.{length-map, nil_from_length}
use denote.Param.Weighed.{most}
use Rattle.ae_base.proofs.AllOf.{all_at, all_front, all_back}
use Rattle.ae_syntax.specs.declared.types.WrittenType.{WrittenType}
use Rattle.std.proofs.lemmas.Result.{err_from_is_err_and}
use Rattle.ae_syntax.specs.declared.spans.Span.{Span}
use Rattle.ae_syntax.specs.declared.exprs.Expr.{Expr, size-Expr}
use Rattle.ae_syntax.specs.declared.exprs.ExprKind as kind
use Rattle.ae_syntax.specs.declared.exprs.ExprKind.TheOpen as layer
use Rattle.ae_elab.specs.declared.nodes.Pattern.{Pattern}
use Rattle.ae_elab.specs.AfterParts.{negation_rule}
use Rattle.ae_elab.specs.Expressions.{part_of, set_of, trigger_of, part_step, name_part, formula_in_term, name_term as name_rule, name_formula as name_claim}
use Rattle.ae_elab.specs.Formulas.{local_of, triggers_rule, distinct_rule, equation_rule, inequality_rule, connective_rule, predicate_rule, truth_rule, untested, block_rule, merged_with, around_body}
use Rattle.ae_expressions.specs.NamedParts.{AreNamed, AreSetNamed, AreTriggerNamed, AreGroupNamed}
use Rattle.ae_elab.specs.Names.{IsName, joined, names_in, names_in_type, names_in_set, names_in_group, names_in_trigger}
use Rattle.ae_elab.specs.Nodes.{Entry, IsTree, IsClaim, AreTrees, tree_at, trees_at, relation_of, join_of}
use Rattle.ae_elab.specs.Rules.{typed, refuse, no_term, unknowns, all_wanted}
use Rattle.std.specs.Prelude.{None}
use Rattle.ae_elab.specs.Typings.{scope_at, TermAnswer, ClaimAnswer, Walks, Stops, TypesTerm, TypesTrees, TypesClaim, around_in, bound_in, nodes_of, locals_of}
use Rattle.ae_elab.specs.Terms.{operands, numeral_rule, ascribed_rule, application_rule, function_rule, field_sort, arity_at, values_rule, record_rule, update_rule}
use Rattle.ae_elab.proofs.NodeLaws.{later_tree, tree_is, claim_is, trees_are}
use Rattle.ae_expressions.proofs.ExprParts.{all_parts, all_joined, most_at, named_setting, named_trigger, value_smaller, terms_smaller, named_quantified, named_record, named_update, smaller_quantified, smaller_record, smaller_update, named_binary, named_not, named_negative, named_let, named_if, named_field, named_apply, named_bracketed, named_ascribed, named_distinct, smaller_binary, smaller_not, smaller_negative, smaller_let, smaller_if, smaller_field, smaller_apply, smaller_bracketed, smaller_ascribed, smaller_distinct}
use Rattle.ae_expressions.proofs.PartForms.{place_is, term_by, formula_by, term_by_shape, formula_by_shape}
use Rattle.ae_elab.proofs.PartRules.{kind_binary, kind_not, kind_negative, kind_let, kind_if, kind_field, kind_apply, kind_numeral, kind_true, kind_false, kind_void, kind_bracketed, kind_ascribed, kind_distinct, kind_record, kind_update, kind_quantified}
use Rattle.ae_expression_typing.proofs.OperandLaws.{operands_first, operands_no_number, operands_second, operands_unsettled, operands_done, wanted_first, wanted_other, wanted_done}
use Rattle.ae_expression_typing.proofs.ApplyLaws.{entry_is, apply_count, apply_stops, apply_done, function_stops, function_done, predicate_stops, predicate_done}
use Rattle.ae_expression_typing.proofs.ArgumentLaws.{Wants, wants_start, wants_stop, wants_next, wants_whole, differ_start, different_first, differ_stop, differ_next, differ_whole, differ_none}
use Rattle.ae_expression_typing.proofs.LetLaws.{binds_formula, binds_term, unbound_formula, unbound_term, let_first, let_second, let_term, let_claim}
use Rattle.ae_expression_typing.proofs.JoinLaws.{equation_first, equation_second, equation_done, inequality_first, inequality_done, negation_first, negation_done, joined_first, joined_second, joined_done, conditional_first, conditional_second, conditional_third, conditional_done, choice_first, choice_second, choice_third, choice_done}
use Rattle.ae_expression_typing.proofs.PartLaws.{opposite_first, opposite_done, ascribed_first, ascribed_done, field_first, field_done, truth_first, truth_done, operation_first, operation_done}
use Rattle.std.proofs.lemmas.Option.{slice_get-get_or, none-some, MatchOption-at_none}
use Rattle.ae_core.specs.declared.problems.Signature.{Signature}
use Rattle.ae_syntax.specs.declared.exprs.Setting.{Setting, size-Setting}
use Rattle.ae_syntax.specs.declared.exprs.Trigger.{Trigger, out-Trigger, size-Trigger}
use Rattle.ae_elab.specs.declared.shapes.Shape.TheVariants as shape
use Rattle.ae_elab.specs.declared.typings.Typing.{Typing}
use Rattle.ae_elab.specs.Environments.{class_in, meaning_in, locals}
use Rattle.ae_elab.specs.Scope.{formula, a_term, a_formula, meaning_of, name_in, scope_with, bound as bound_named}
use Rattle.ae_elab.specs.Steps.{AreHeld, AreFailed, IsMet, IsNotMet, IsTaken}
use Rattle.ae_elab.specs.Trees.{Tree, Trees, constant, truth, falsity}
use Rattle.ae_elab.proofs.PartRules.{trigger}
use Rattle.ae_expressions.specs.FieldParts.{new_field}
use Rattle.ae_expressions.specs.Inner.Bindings.{Enters}
use Rattle.ae_expressions.specs.Named.{IsNamed}
use Rattle.ae_typing.specs.Triggers.{trigger_term, trigger_covers}
use Rattle.ae_expressions.proofs.AnswerLaws.{term_here, claim_here, tree_here}
use Rattle.ae_expression_typing.proofs.BeforeLaws.{looked, stops_before, tree_before, binds_before, either≢formula, term≢formula}
use Rattle.ae_expression_typing.proofs.TriggerLaws.{raw_formula_stops, raw_formula, raw_term_stops, raw_term, pattern_first, pattern_bad, pattern_good, Matches, Collects, matches_start, matches_stop, matches_next, matches_whole, collects_start, collects_stop, collects_bad, collects_next, collects_whole}
use Rattle.ae_expression_typing.proofs.ValueLaws.{Gets, gets_start, gets_missing, gets_old, gets_unwanted, gets_next, gets_whole, record_missing, record_stops, record_done, update_first, update_empty, update_missing, update_other, update_stops, update_done}
use Rattle.ae_core.specs.Putting.{put_sort}
use Rattle.ae_core.specs.declared.problems.SymbolEntry.{SymbolEntry}
use Rattle.ae_core.specs.declared.terms.Head.TheVariants as head
use Rattle.ae_core.specs.declared.terms.Sort.{Sort, Named}
use Rattle.ae_types.specs.Bound.{bound}
use Rattle.ae_syntax.specs.declared.exprs.Group.{Group}
use Rattle.ae_syntax.specs.declared.exprs.Number.{Number}
use Rattle.ae_elab.specs.declared.faults.TypeFault.{TypeFault}
use Rattle.ae_elab.specs.declared.faults.TypeFault.TheVariants as fault
use Rattle.ae_elab.specs.declared.typings.Bound as code
use Rattle.ae_elab.specs.Conditions.{has_sort}
use Rattle.ae_elab.proofs.TypingLaws.{with_passing, with_bindings, puts_claim, stops_refused}
use Rattle.ae_expression_typing.specs.Inner.OperandsAnswers.{TypesApplied}
use Rattle.ae_expression_typing.specs.Inner.PatternsAnswers.{TypesPatterns}
use Rattle.ae_expression_typing.specs.Inner.ValuesAnswers.{TypesValues}
use Rattle.ae_expression_typing.proofs.QuantifiedLaws.{numbers_are, sorts_are, as_many_bound, around_triggers, block_variables, block_triggers, block_body, block_done}
use Rattle.ae_expression_typing.proofs.TruthForms.{truth_negative, truth_numeral, truth_void, truth_ascribed, truth_field, truth_record, truth_update, truth_by_shape}
use Rattle.ae_expression_typing.proofs.expressions.+expression.Goals as goal

pub equation-returns-in_err-first : goal.equation-returns-in_err-first
equation-returns-in_err-first t c =
    let p = err_from_is_err_and c.from_residual.result c.from_residual.ensures.1 in
    rw (p.1, p.2) (equation_first c.args.context.now (relation_of c.args.relation) c.args.left.now c.args.right.now c.args.typing.now c.in_err-first.field-0.0 c.in_err-first.ensures)

pub equation-returns-in_err-second : goal.equation-returns-in_err-second
equation-returns-in_err-second t c =
    let p = err_from_is_err_and c.from_residual-in_err-second.result c.from_residual-in_err-second.ensures.1 in
    rw (p.1, p.2) (equation_second c.args.context.now (relation_of c.args.relation) c.args.left.now c.args.right.now c.args.typing.now c.term_of.new.typing c.in_ok-first.ensures.tree c.in_ok-first.first.sort c.in_ok-first.ensures.walks c.in_err-second.field-0.0 c.in_err-second.ensures)

pub equation-returns : goal.equation-returns
equation-returns t c =
    equation_done c.args.context.now (relation_of c.args.relation) c.args.left.now c.args.right.now c.args.typing.now c.term_of.new.typing c.in_ok-first.ensures.tree c.in_ok-first.first.sort c.in_ok-first.ensures.walks c.wanted_at.new.typing c.push_node.new.typing c.in_ok-second.ensures.tree
    c.in_ok-first.first.tree c.in_ok-second.second c.in_ok-push_node.field-0 c.in_ok-first.ensures.stands c.in_ok-second.ensures.walks c.in_ok-second.ensures.stands c.in_ok-push_node.ensures

pub inequality-returns-in_err-found : goal.inequality-returns-in_err-found
inequality-returns-in_err-found t c =
    let p = err_from_is_err_and c.from_residual.result c.from_residual.ensures.1 in
    rw (p.1, p.2) (inequality_first c.args.context.now (relation_of c.args.relation) c.args.left.now c.args.right.now c.args.typing.now c.in_err-found.field-0.0 c.in_err-found.ensures)

pub inequality-returns : goal.inequality-returns
inequality-returns t c =
    let o = c.in_ok-found.ensures in
    inequality_done c.args.context.now (relation_of c.args.relation) c.args.left.now c.args.right.now c.args.typing.now c.operands.new.typing c.push_node.new.typing o.left o.right c.in_ok-found.found.sort c.in_ok-found.found.first c.in_ok-found.found.second c.in_ok-push_node.field-0
    o.walks o.left_stands o.right_stands c.in_ok-push_node.ensures

pub negation-returns-in_err-claim : goal.negation-returns-in_err-claim
negation-returns-in_err-claim t c =
    let p = err_from_is_err_and c.from_residual.result c.from_residual.ensures.1 in
    rw (p.1, p.2) (negation_first c.args.context.now c.args.inner.now c.args.typing.now c.in_err-claim.field-0.0 c.in_err-claim.ensures)

pub negation-returns : goal.negation-returns
negation-returns t c =
    negation_done c.args.context.now c.args.inner.now c.args.typing.now c.formula_of.new.typing c.push_node.new.typing c.in_ok-claim.ensures.claim c.in_ok-claim.claim c.in_ok-push_node.field-0
    c.in_ok-claim.ensures.walks c.in_ok-claim.ensures.stands c.in_ok-push_node.ensures

pub connected-returns-in_err-first : goal.connected-returns-in_err-first
connected-returns-in_err-first t c =
    let p = err_from_is_err_and c.from_residual.result c.from_residual.ensures.1 in
    rw (p.1, p.2) (joined_first c.args.context.now (join_of c.args.connective) c.args.left.now c.args.right.now c.args.typing.now c.in_err-first.field-0.0 c.in_err-first.ensures)

pub connected-returns-in_err-second : goal.connected-returns-in_err-second
connected-returns-in_err-second t c =
    let p = err_from_is_err_and c.from_residual-in_err-second.result c.from_residual-in_err-second.ensures.1 in
    rw (p.1, p.2) (joined_second c.args.context.now (join_of c.args.connective) c.args.left.now c.args.right.now c.args.typing.now c.formula_of.new.typing c.in_ok-first.ensures.claim c.in_ok-first.ensures.walks c.in_err-second.field-0.0 c.in_err-second.ensures)

pub connected-returns : goal.connected-returns
connected-returns t c =
    joined_done c.args.context.now (join_of c.args.connective) c.args.left.now c.args.right.now c.args.typing.now c.formula_of.new.typing c.in_ok-first.ensures.claim c.in_ok-first.ensures.walks c.formula_of-2.new.typing c.push_node.new.typing c.in_ok-second.ensures.claim
    c.in_ok-first.first c.in_ok-second.second c.in_ok-push_node.field-0 c.in_ok-first.ensures.stands c.in_ok-second.ensures.walks c.in_ok-second.ensures.stands c.in_ok-push_node.ensures

pub conditional-returns-in_err-claim : goal.conditional-returns-in_err-claim
conditional-returns-in_err-claim t c =
    let p = err_from_is_err_and c.from_residual.result c.from_residual.ensures.1 in
    rw (p.1, p.2) (conditional_first c.args.context.now c.args.condition.now c.args.positive.now c.args.negative.now c.args.typing.now c.in_err-claim.field-0.0 c.in_err-claim.ensures)

pub conditional-returns-in_err-first : goal.conditional-returns-in_err-first
conditional-returns-in_err-first t c =
    let p = err_from_is_err_and c.from_residual-in_err-first.result c.from_residual-in_err-first.ensures.1 in
    rw (p.1, p.2) (conditional_second c.args.context.now c.args.condition.now c.args.positive.now c.args.negative.now c.args.typing.now c.formula_of.new.typing c.in_ok-claim.ensures.claim c.in_ok-claim.ensures.walks c.in_err-first.field-0.0 c.in_err-first.ensures)

pub conditional-returns-in_err-second : goal.conditional-returns-in_err-second
conditional-returns-in_err-second t c =
    let p = err_from_is_err_and c.from_residual-in_err-second.result c.from_residual-in_err-second.ensures.1 in
    rw (p.1, p.2) (conditional_third c.args.context.now c.args.condition.now c.args.positive.now c.args.negative.now c.args.typing.now c.formula_of.new.typing c.in_ok-claim.ensures.claim c.in_ok-claim.ensures.walks c.formula_of-2.new.typing c.in_ok-first.ensures.claim c.in_ok-first.ensures.walks c.in_err-second.field-0.0 c.in_err-second.ensures)

pub conditional-returns : goal.conditional-returns
conditional-returns t c =
    conditional_done c.args.context.now c.args.condition.now c.args.positive.now c.args.negative.now c.args.typing.now c.formula_of.new.typing c.in_ok-claim.ensures.claim c.in_ok-claim.ensures.walks c.formula_of-2.new.typing c.in_ok-first.ensures.claim c.in_ok-first.ensures.walks c.formula_of-3.new.typing c.push_node.new.typing c.in_ok-second.ensures.claim c.in_ok-claim.claim c.in_ok-first.first c.in_ok-second.second c.in_ok-push_node.field-0
    c.in_ok-claim.ensures.stands c.in_ok-first.ensures.stands c.in_ok-second.ensures.walks c.in_ok-second.ensures.stands c.in_ok-push_node.ensures

pub choice-returns-in_err-claim : goal.choice-returns-in_err-claim
choice-returns-in_err-claim t c =
    let p = err_from_is_err_and c.from_residual.result c.from_residual.ensures.1 in
    rw (p.1, p.2) (choice_first c.args.context.now c.args.condition.now c.args.positive.now c.args.negative.now c.args.typing.now c.in_err-claim.field-0.0 c.in_err-claim.ensures)

pub choice-returns-in_err-first : goal.choice-returns-in_err-first
choice-returns-in_err-first t c =
    let p = err_from_is_err_and c.from_residual-in_err-first.result c.from_residual-in_err-first.ensures.1 in
    rw (p.1, p.2) (choice_second c.args.context.now c.args.condition.now c.args.positive.now c.args.negative.now c.args.typing.now c.formula_of.new.typing c.in_ok-claim.ensures.claim c.in_ok-claim.ensures.walks c.in_err-first.field-0.0 c.in_err-first.ensures)

pub choice-returns-in_err-second : goal.choice-returns-in_err-second
choice-returns-in_err-second t c =
    let p = err_from_is_err_and c.from_residual-in_err-second.result c.from_residual-in_err-second.ensures.1 in
    rw (p.1, p.2) (choice_third c.args.context.now c.args.condition.now c.args.positive.now c.args.negative.now c.args.typing.now c.formula_of.new.typing c.in_ok-claim.ensures.claim c.in_ok-claim.ensures.walks c.term_of.new.typing c.in_ok-first.ensures.tree c.in_ok-first.first.sort c.in_ok-first.ensures.walks c.in_err-second.field-0.0 c.in_err-second.ensures)

pub choice-returns : goal.choice-returns
choice-returns t c =
    choice_done c.args.context.now c.args.condition.now c.args.positive.now c.args.negative.now c.args.typing.now c.formula_of.new.typing c.in_ok-claim.ensures.claim c.in_ok-claim.ensures.walks c.term_of.new.typing c.in_ok-first.ensures.tree c.in_ok-first.first.sort c.in_ok-first.ensures.walks c.wanted_at.new.typing c.push_node.new.typing c.in_ok-second.ensures.tree c.in_ok-claim.claim c.in_ok-first.first.tree c.in_ok-second.second c.in_ok-tree.tree
    c.in_ok-claim.ensures.stands c.in_ok-first.ensures.stands c.in_ok-second.ensures.walks c.in_ok-second.ensures.stands c.in_ok-tree.ensures

pub wanted_at-returns-in_err-found : goal.wanted_at-returns-in_err-found
wanted_at-returns-in_err-found t c =
    let p = err_from_is_err_and c.from_residual.result c.from_residual.ensures.1 in
    rw (p.1, p.2) (wanted_first c.args.context.now c.args.sort.now c.args.expr.now c.args.typing.now c.in_err-found.field-0.0 c.in_err-found.ensures)

pub wanted_at-returns-in_err-has_sort : goal.wanted_at-returns-in_err-has_sort
wanted_at-returns-in_err-has_sort t c =
    let p = err_from_is_err_and c.from_residual-in_err-has_sort.result c.from_residual-in_err-has_sort.ensures.1 in
    rw (p.1, p.2) (wanted_other c.args.context.now c.args.sort.now c.args.expr.now c.args.typing.now c.term_of.new.typing (typed c.in_ok-found.ensures.tree c.in_ok-found.found.sort) c.in_ok-found.ensures.walks c.in_err-has_sort.field-0.0 c.in_err-has_sort.ensures.fault)

pub wanted_at-returns : goal.wanted_at-returns
wanted_at-returns t c =
    record { tree = c.in_ok-found.ensures.tree; stands = c.in_ok-found.ensures.stands; walks = wanted_done c.args.context.now c.args.sort.now c.args.expr.now c.args.typing.now c.term_of.new.typing (typed c.in_ok-found.ensures.tree c.in_ok-found.found.sort) c.in_ok-found.ensures.walks c.has_sort.new.bindings c.in_ok-has_sort.ensures.met }

pub operands-returns-in_err-first : goal.operands-returns-in_err-first
operands-returns-in_err-first t c =
    let p = err_from_is_err_and c.from_residual.result c.from_residual.ensures.1 in
    rw (p.1, p.2) (operands_first c.args.context.now c.args.numbers c.args.left.now c.args.right.now c.args.typing.now c.in_err-first.field-0.0 c.in_err-first.ensures)

pub operands-returns-in_err-may_be : goal.operands-returns-in_err-may_be
operands-returns-in_err-may_be t c =
    let p = err_from_is_err_and c.from_residual-in_err-may_be.result c.from_residual-in_err-may_be.ensures.1 in
    rw (p.1, p.2) (operands_no_number c.args.context.now c.args.numbers c.args.left.now c.args.right.now c.args.typing.now c.term_of.new.typing (typed c.in_ok-first.ensures.tree c.in_ok-first.first.sort) c.in_ok-first.ensures.walks c.in_err-may_be.field-0.0 c.in_err-may_be.ensures.fault)

pub operands-returns-in_err-second : goal.operands-returns-in_err-second
operands-returns-in_err-second t c =
    let p = err_from_is_err_and c.from_residual-in_err-second.result c.from_residual-in_err-second.ensures.1 in
    rw (p.1, p.2) (operands_second c.args.context.now c.args.numbers c.args.left.now c.args.right.now c.args.typing.now c.term_of.new.typing (typed c.in_ok-first.ensures.tree c.in_ok-first.first.sort) c.in_ok-first.ensures.walks c.in_ok-may_be.ensures.met c.in_err-second.field-0.0 c.in_err-second.ensures)

pub operands-returns-in_err-settle : goal.operands-returns-in_err-settle
operands-returns-in_err-settle t c =
    let p = err_from_is_err_and c.from_residual-in_err-settle.result c.from_residual-in_err-settle.ensures.1 in
    rw (p.1, p.2) (operands_unsettled c.args.context.now c.args.numbers c.args.left.now c.args.right.now c.args.typing.now c.term_of.new.typing (typed c.in_ok-first.ensures.tree c.in_ok-first.first.sort) c.in_ok-first.ensures.walks c.in_ok-may_be.ensures.met c.term_of-2.new.typing (typed c.in_ok-second.ensures.tree c.in_ok-second.second.sort) c.in_ok-second.ensures.walks c.in_err-settle.field-0.0 c.in_err-settle.ensures.fault)

pub operands-returns : goal.operands-returns
operands-returns t c =
    record {
      left = c.in_ok-first.ensures.tree;
      right = c.in_ok-second.ensures.tree;
      left_stands = later_tree (nodes_of c.term_of.new.typing) (nodes_of c.term_of-2.new.typing) c.in_ok-second.ensures.walks.kept c.in_ok-first.first.tree c.in_ok-first.ensures.tree c.in_ok-first.ensures.stands;
      right_stands = c.in_ok-second.ensures.stands;
      walks = operands_done c.args.context.now c.args.numbers c.args.left.now c.args.right.now c.args.typing.now c.term_of.new.typing (typed c.in_ok-first.ensures.tree c.in_ok-first.first.sort) c.in_ok-first.ensures.walks c.in_ok-may_be.ensures.met c.term_of-2.new.typing (typed c.in_ok-second.ensures.tree c.in_ok-second.second.sort) c.in_ok-second.ensures.walks c.settle.new.bindings c.in_ok-settle.ensures.met;
    }

pub term_of-returns : goal.term_of-returns
term_of-returns t c =
    subst (λ p. TermAnswer c.args.context.now (λ sc. (part_of c.args.expr.now).term sc p) c.args.typing.now c.term_at.new.typing c.term_at.result) (sym (place_is c.args.expr.now)) c.term_at.ensures

pub formula_of-returns : goal.formula_of-returns
formula_of-returns t c =
    subst (λ p. ClaimAnswer c.args.context.now (λ sc. (part_of c.args.expr.now).formula sc None p) c.args.typing.now c.formula_at.new.typing c.formula_at.result) (sym (place_is c.args.expr.now)) c.formula_at.ensures

pub opposite-returns-in_err-found : goal.opposite-returns-in_err-found
opposite-returns-in_err-found t c =
    let p = err_from_is_err_and c.from_residual.result c.from_residual.ensures.1 in
    rw (p.1, p.2) (opposite_first c.args.context.now c.args.inner.now c.args.typing.now c.in_err-found.field-0.0 c.in_err-found.ensures)

pub opposite-returns : goal.opposite-returns
opposite-returns t c =
    opposite_done c.args.context.now c.args.inner.now c.args.typing.now c.term_of.new.typing c.negated.new.typing c.in_ok-found.ensures.tree c.in_ok-found.found.sort c.in_ok-found.ensures.walks c.negated.result
    (c.negated.ensures c.args.context.now c.in_ok-found.ensures.tree c.in_ok-found.ensures.stands)

pub with_sort-returns-in_err-found : goal.with_sort-returns-in_err-found
with_sort-returns-in_err-found t c =
    let p = err_from_is_err_and c.from_residual.result c.from_residual.ensures.1 in
    rw (p.1, p.2) (ascribed_first c.args.context.now c.args.body.now c.args.typing.now c.args.sort.now c.in_err-found.field-0.0 c.in_err-found.ensures)

pub with_sort-returns : goal.with_sort-returns
with_sort-returns t c =
    ascribed_done c.args.context.now c.args.body.now c.args.typing.now c.args.sort.now c.term_of.new.typing c.ascribed.new.typing c.in_ok-found.ensures.tree c.in_ok-found.found.sort c.in_ok-found.ensures.walks c.ascribed.result
    (c.ascribed.ensures c.in_ok-found.ensures.tree c.in_ok-found.ensures.stands)

pub field_of-returns-in_err-found : goal.field_of-returns-in_err-found
field_of-returns-in_err-found t c =
    let p = err_from_is_err_and c.from_residual.result c.from_residual.ensures.1 in
    rw (p.1, p.2) (field_first c.args.context.now c.args.base.now c.args.typing.now c.args.field c.in_err-found.field-0.0 c.in_err-found.ensures)

pub field_of-returns : goal.field_of-returns
field_of-returns t c =
    field_done c.args.context.now c.args.base.now c.args.typing.now c.args.field c.term_of.new.typing c.selected.new.typing c.in_ok-found.ensures.tree c.in_ok-found.found.sort c.in_ok-found.ensures.walks c.selected.result
    (c.selected.ensures c.in_ok-found.ensures.tree c.in_ok-found.ensures.stands)

pub truth-returns-in_err-found : goal.truth-returns-in_err-found
truth-returns-in_err-found t c =
    let p = err_from_is_err_and c.from_residual.result c.from_residual.ensures.1 in
    rw (p.1, p.2) (truth_first c.args.context.now (λ sc. (part_of c.args.expr.now).term sc c.args.place) c.args.place c.args.typing.now c.in_err-found.field-0.0 c.in_err-found.ensures)

pub truth-returns : goal.truth-returns
truth-returns t c =
    truth_done c.args.context.now (λ sc. (part_of c.args.expr.now).term sc c.args.place) c.args.place c.args.typing.now c.term_at.new.typing c.holds.new.typing c.in_ok-found.ensures.tree c.in_ok-found.found.sort c.in_ok-found.ensures.walks c.holds.result
    (c.holds.ensures c.args.context.now c.in_ok-found.ensures.tree c.in_ok-found.ensures.stands)

pub calculated-returns-in_err-found : goal.calculated-returns-in_err-found
calculated-returns-in_err-found t c =
    let p = err_from_is_err_and c.from_residual.result c.from_residual.ensures.1 in
    rw (p.1, p.2) (operation_first c.args.context.now c.args.op c.args.left.now c.args.right.now c.args.typing.now c.in_err-found.field-0.0
    (subst (λ n. Stops c.args.context.now (λ sc. operands sc n (part_of c.args.left.now) (part_of c.args.right.now)) c.args.typing.now c.in_err-found.field-0.0) c.numbers_of.ensures c.in_err-found.ensures))

pub calculated-returns : goal.calculated-returns
calculated-returns t c =
    let o = c.in_ok-found.ensures in
    operation_done c.args.context.now c.args.op c.args.left.now c.args.right.now c.args.typing.now c.operands.new.typing c.operation.new.typing o.left o.right c.in_ok-found.found.sort
    (subst (λ n. Walks c.args.context.now (λ sc. operands sc n (part_of c.args.left.now) (part_of c.args.right.now)) c.args.typing.now c.operands.new.typing (typed o.left c.in_ok-found.found.sort, o.right)) c.numbers_of.ensures o.walks)
    c.in_ok-operation.field-0 (c.in_ok-operation.ensures c.args.context.now o.left o.right o.left_stands o.right_stands)

-- ---- the arms
pub term_at-negation-requires : goal.term_at-negation-requires
term_at-negation-requires t c =
    let e = c.args.expr.now in
    let P = IsName c.args.context.now.text.now in
    let is = sym c.get.ensures ∙ c.in-Not.is in
    (subst (λ n. 8 * size-Expr c.in-Not.inner + 5 < n) c.decreases (omega (arith, smaller_not e c.in-Not.inner is)), named_not P e c.requires.names c.in-Not.inner is)

pub term_at-choice-requires : goal.term_at-choice-requires
term_at-choice-requires t c =
    let e = c.args.expr.now in
    let P = IsName c.args.context.now.text.now in
    let is = sym c.get.ensures ∙ c.in-If.is in
    (subst (λ n. 8 * max (max (size-Expr c.in-If.condition) (size-Expr c.in-If.positive)) (size-Expr c.in-If.negative) + 5 < n) c.decreases (omega (arith, smaller_if e c.in-If.condition c.in-If.positive c.in-If.negative is)), (all_front P (names_in c.in-If.condition) (names_in c.in-If.positive) (all_front P (names_in c.in-If.condition ++ names_in c.in-If.positive) (names_in c.in-If.negative) (named_if P e c.requires.names c.in-If.condition c.in-If.positive c.in-If.negative is)), (all_back P (names_in c.in-If.condition) (names_in c.in-If.positive) (all_front P (names_in c.in-If.condition ++ names_in c.in-If.positive) (names_in c.in-If.negative) (named_if P e c.requires.names c.in-If.condition c.in-If.positive c.in-If.negative is)), all_back P (names_in c.in-If.condition ++ names_in c.in-If.positive) (names_in c.in-If.negative) (named_if P e c.requires.names c.in-If.condition c.in-If.positive c.in-If.negative is))))

pub term_at-term_at-requires : goal.term_at-term_at-requires
term_at-term_at-requires t c =
    let e = c.args.expr.now in
    let P = IsName c.args.context.now.text.now in
    let is = sym c.get.ensures ∙ c.in-Bracketed.is in
    (subst (λ n. 8 * size-Expr c.in-Bracketed.inner + 1 < n) c.decreases (omega (arith, smaller_bracketed e c.in-Bracketed.inner is)), named_bracketed P e c.requires.names c.in-Bracketed.inner is)

pub term_at-name_term-requires : goal.term_at-name_term-requires
term_at-name_term-requires t c =
    let e = c.args.expr.now in
    let P = IsName c.args.context.now.text.now in
    let is = sym c.get.ensures ∙ c.in-Apply.is in
    let us = c.as_slice.result.now in
    (subst (λ n. 8 * most size-Expr us + 7 < n) c.decreases (omega (arith, subst (λ (es : List Expr). most size-Expr es + 1 < size-Expr e) (sym c.as_slice.ensures) (smaller_apply e c.in-Apply.name c.in-Apply.args is))), ((named_apply P e c.requires.names c.in-Apply.name c.in-Apply.args is).0, subst (AllByRecursion (AreNamed c.args.context.now.text.now)) (sym c.as_slice.ensures) (all_parts P c.in-Apply.args (named_apply P e c.requires.names c.in-Apply.name c.in-Apply.args is).1)))

pub term_at-different-requires : goal.term_at-different-requires
term_at-different-requires t c =
    let e = c.args.expr.now in
    let P = IsName c.args.context.now.text.now in
    let is = sym c.get.ensures ∙ c.in-Distinct.is in
    let us = c.as_slice-in-Distinct.result.now in
    (subst (λ n. 8 * most size-Expr us + 4 < n) c.decreases (omega (arith, subst (λ (es : List Expr). most size-Expr es + 1 < size-Expr e) (sym c.as_slice-in-Distinct.ensures) (smaller_distinct e c.in-Distinct.exprs is))), subst (AllByRecursion (AreNamed c.args.context.now.text.now)) (sym c.as_slice-in-Distinct.ensures) (all_parts P c.in-Distinct.exprs (named_distinct P e c.requires.names c.in-Distinct.exprs is)))

pub term_at-let_term-requires : goal.term_at-let_term-requires
term_at-let_term-requires t c =
    let e = c.args.expr.now in
    let P = IsName c.args.context.now.text.now in
    let is = sym c.get.ensures ∙ c.in-Let.is in
    (subst (λ n. 8 * max (size-Expr c.in-Let.value) (size-Expr c.in-Let.body) + 7 < n) c.decreases (omega (arith, smaller_let e c.in-Let.name c.in-Let.value c.in-Let.body is)), ((named_let P e c.requires.names c.in-Let.name c.in-Let.value c.in-Let.body is).0, (all_front P (names_in c.in-Let.value) (names_in c.in-Let.body) (named_let P e c.requires.names c.in-Let.name c.in-Let.value c.in-Let.body is).1, all_back P (names_in c.in-Let.value) (names_in c.in-Let.body) (named_let P e c.requires.names c.in-Let.name c.in-Let.value c.in-Let.body is).1)))

pub formula_at-negation-requires : goal.formula_at-negation-requires
formula_at-negation-requires t c =
    let e = c.args.expr.now in
    let P = IsName c.args.context.now.text.now in
    let is = sym c.get.ensures ∙ c.in-Not.is in
    (subst (λ n. 8 * size-Expr c.in-Not.inner + 5 < n) c.decreases (omega (arith, smaller_not e c.in-Not.inner is)), named_not P e c.requires.names c.in-Not.inner is)

pub formula_at-conditional-requires : goal.formula_at-conditional-requires
formula_at-conditional-requires t c =
    let e = c.args.expr.now in
    let P = IsName c.args.context.now.text.now in
    let is = sym c.get.ensures ∙ c.in-If.is in
    (subst (λ n. 8 * max (max (size-Expr c.in-If.condition) (size-Expr c.in-If.positive)) (size-Expr c.in-If.negative) + 5 < n) c.decreases (omega (arith, smaller_if e c.in-If.condition c.in-If.positive c.in-If.negative is)), (all_front P (names_in c.in-If.condition) (names_in c.in-If.positive) (all_front P (names_in c.in-If.condition ++ names_in c.in-If.positive) (names_in c.in-If.negative) (named_if P e c.requires.names c.in-If.condition c.in-If.positive c.in-If.negative is)), (all_back P (names_in c.in-If.condition) (names_in c.in-If.positive) (all_front P (names_in c.in-If.condition ++ names_in c.in-If.positive) (names_in c.in-If.negative) (named_if P e c.requires.names c.in-If.condition c.in-If.positive c.in-If.negative is)), all_back P (names_in c.in-If.condition ++ names_in c.in-If.positive) (names_in c.in-If.negative) (named_if P e c.requires.names c.in-If.condition c.in-If.positive c.in-If.negative is))))

pub formula_at-formula_at-requires : goal.formula_at-formula_at-requires
formula_at-formula_at-requires t c =
    let e = c.args.expr.now in
    let P = IsName c.args.context.now.text.now in
    let is = sym c.get.ensures ∙ c.in-Bracketed.is in
    (subst (λ n. 8 * size-Expr c.in-Bracketed.inner + 3 < n) c.decreases (omega (arith, smaller_bracketed e c.in-Bracketed.inner is)), named_bracketed P e c.requires.names c.in-Bracketed.inner is)

pub formula_at-name_formula-requires : goal.formula_at-name_formula-requires
formula_at-name_formula-requires t c =
    let e = c.args.expr.now in
    let P = IsName c.args.context.now.text.now in
    let is = sym c.get.ensures ∙ c.in-Apply.is in
    let us = c.as_slice-in-Apply.result.now in
    (subst (λ n. 8 * most size-Expr us + 7 < n) c.decreases (omega (arith, subst (λ (es : List Expr). most size-Expr es + 1 < size-Expr e) (sym c.as_slice-in-Apply.ensures) (smaller_apply e c.in-Apply.name c.in-Apply.args is))), ((named_apply P e c.requires.names c.in-Apply.name c.in-Apply.args is).0, subst (AllByRecursion (AreNamed c.args.context.now.text.now)) (sym c.as_slice-in-Apply.ensures) (all_parts P c.in-Apply.args (named_apply P e c.requires.names c.in-Apply.name c.in-Apply.args is).1)))

pub formula_at-different-requires : goal.formula_at-different-requires
formula_at-different-requires t c =
    let e = c.args.expr.now in
    let P = IsName c.args.context.now.text.now in
    let is = sym c.get.ensures ∙ c.in-Distinct.is in
    let us = c.as_slice.result.now in
    (subst (λ n. 8 * most size-Expr us + 4 < n) c.decreases (omega (arith, subst (λ (es : List Expr). most size-Expr es + 1 < size-Expr e) (sym c.as_slice.ensures) (smaller_distinct e c.in-Distinct.exprs is))), subst (AllByRecursion (AreNamed c.args.context.now.text.now)) (sym c.as_slice.ensures) (all_parts P c.in-Distinct.exprs (named_distinct P e c.requires.names c.in-Distinct.exprs is)))

pub formula_at-let_formula-requires : goal.formula_at-let_formula-requires
formula_at-let_formula-requires t c =
    let e = c.args.expr.now in
    let P = IsName c.args.context.now.text.now in
    let is = sym c.get.ensures ∙ c.in-Let.is in
    (subst (λ n. 8 * max (size-Expr c.in-Let.value) (size-Expr c.in-Let.body) + 7 < n) c.decreases (omega (arith, smaller_let e c.in-Let.name c.in-Let.value c.in-Let.body is)), ((named_let P e c.requires.names c.in-Let.name c.in-Let.value c.in-Let.body is).0, (all_front P (names_in c.in-Let.value) (names_in c.in-Let.body) (named_let P e c.requires.names c.in-Let.name c.in-Let.value c.in-Let.body is).1, all_back P (names_in c.in-Let.value) (names_in c.in-Let.body) (named_let P e c.requires.names c.in-Let.name c.in-Let.value c.in-Let.body is).1)))

pub term_at-opposite-requires : goal.term_at-opposite-requires
term_at-opposite-requires t c =
    let e = c.args.expr.now in
    let P = IsName c.args.context.now.text.now in
    let is = sym c.get.ensures ∙ c.in-Negative.is in
    (subst (λ n. 8 * size-Expr c.in-Negative.inner + 3 < n) c.decreases (omega (arith, smaller_negative e c.in-Negative.inner is)), named_negative P e c.requires.names c.in-Negative.inner is)

pub term_at-binary_term-requires : goal.term_at-binary_term-requires
term_at-binary_term-requires t c =
    let e = c.args.expr.now in
    let P = IsName c.args.context.now.text.now in
    let is = sym c.get.ensures ∙ c.in-Binary.is in
    (subst (λ n. 8 * max (size-Expr c.in-Binary.left) (size-Expr c.in-Binary.right) + 7 < n) c.decreases (omega (arith, smaller_binary e c.in-Binary.op c.in-Binary.left c.in-Binary.right is)), (all_front P (names_in c.in-Binary.left) (names_in c.in-Binary.right) (named_binary P e c.requires.names c.in-Binary.op c.in-Binary.left c.in-Binary.right is), all_back P (names_in c.in-Binary.left) (names_in c.in-Binary.right) (named_binary P e c.requires.names c.in-Binary.op c.in-Binary.left c.in-Binary.right is)))

pub term_at-with_sort-requires : goal.term_at-with_sort-requires
term_at-with_sort-requires t c =
    let e = c.args.expr.now in
    let P = IsName c.args.context.now.text.now in
    let is = sym c.get.ensures ∙ c.in-Ascribed.is in
    (subst (λ n. 8 * size-Expr c.in-Ascribed.body + 3 < n) c.decreases (omega (arith, smaller_ascribed e c.in-Ascribed.body c.in-Ascribed.sort is)), (all_front P (names_in c.in-Ascribed.body) (names_in_type c.in-Ascribed.sort) (named_ascribed P e c.requires.names c.in-Ascribed.body c.in-Ascribed.sort is), subst (λ (s : WrittenType). AllByRecursion P (names_in_type s)) (sym c.get-in-Ascribed.ensures) (all_back P (names_in c.in-Ascribed.body) (names_in_type c.in-Ascribed.sort) (named_ascribed P e c.requires.names c.in-Ascribed.body c.in-Ascribed.sort is))))

pub term_at-field_of-requires : goal.term_at-field_of-requires
term_at-field_of-requires t c =
    let e = c.args.expr.now in
    let P = IsName c.args.context.now.text.now in
    let is = sym c.get.ensures ∙ c.in-Field.is in
    (subst (λ n. 8 * size-Expr c.in-Field.base + 3 < n) c.decreases (omega (arith, smaller_field e c.in-Field.base c.in-Field.field is)), (all_front P (names_in c.in-Field.base) (c.in-Field.field ∷ []) (named_field P e c.requires.names c.in-Field.base c.in-Field.field is), (all_back P (names_in c.in-Field.base) (c.in-Field.field ∷ []) (named_field P e c.requires.names c.in-Field.base c.in-Field.field is)).0))

pub formula_at-equation-requires : goal.formula_at-equation-requires
formula_at-equation-requires t c =
    let e = c.args.expr.now in
    let P = IsName c.args.context.now.text.now in
    let is = sym c.get.ensures ∙ c.in-Binary.is in
    (subst (λ n. 8 * max (size-Expr c.in-Binary.left) (size-Expr c.in-Binary.right) + 5 < n) c.decreases (omega (arith, smaller_binary e c.in-Binary.op c.in-Binary.left c.in-Binary.right is)), (all_front P (names_in c.in-Binary.left) (names_in c.in-Binary.right) (named_binary P e c.requires.names c.in-Binary.op c.in-Binary.left c.in-Binary.right is), all_back P (names_in c.in-Binary.left) (names_in c.in-Binary.right) (named_binary P e c.requires.names c.in-Binary.op c.in-Binary.left c.in-Binary.right is)))

pub formula_at-inequality-requires : goal.formula_at-inequality-requires
formula_at-inequality-requires t c =
    let e = c.args.expr.now in
    let P = IsName c.args.context.now.text.now in
    let is = sym c.get.ensures ∙ c.in-Binary.is in
    (subst (λ n. 8 * max (size-Expr c.in-Binary.left) (size-Expr c.in-Binary.right) + 6 < n) c.decreases (omega (arith, smaller_binary e c.in-Binary.op c.in-Binary.left c.in-Binary.right is)), (all_front P (names_in c.in-Binary.left) (names_in c.in-Binary.right) (named_binary P e c.requires.names c.in-Binary.op c.in-Binary.left c.in-Binary.right is), all_back P (names_in c.in-Binary.left) (names_in c.in-Binary.right) (named_binary P e c.requires.names c.in-Binary.op c.in-Binary.left c.in-Binary.right is)))

pub formula_at-connected-requires : goal.formula_at-connected-requires
formula_at-connected-requires t c =
    let e = c.args.expr.now in
    let P = IsName c.args.context.now.text.now in
    let is = sym c.get.ensures ∙ c.in-Binary.is in
    (subst (λ n. 8 * max (size-Expr c.in-Binary.left) (size-Expr c.in-Binary.right) + 5 < n) c.decreases (omega (arith, smaller_binary e c.in-Binary.op c.in-Binary.left c.in-Binary.right is)), (all_front P (names_in c.in-Binary.left) (names_in c.in-Binary.right) (named_binary P e c.requires.names c.in-Binary.op c.in-Binary.left c.in-Binary.right is), all_back P (names_in c.in-Binary.left) (names_in c.in-Binary.right) (named_binary P e c.requires.names c.in-Binary.op c.in-Binary.left c.in-Binary.right is)))

pub term_at-returns-in-Not : goal.term_at-returns-in-Not
term_at-returns-in-Not t c =
    term_by c.args.context.now c.args.place c.args.typing.now c.negation.new.typing c.args.expr.now (kind.Not c.in-Not.inner) (part_step (layer.Not (part_of c.in-Not.inner))) c.in_term.result
    (sym c.get.ensures ∙ c.in-Not.is) (kind_not c.in-Not.inner) (c.in_term.ensures c.args.context.now (λ sc. negation_rule (part_of c.in-Not.inner) sc) c.args.typing.now c.negation.new.typing c.negation.ensures)

pub term_at-returns-in-Negative : goal.term_at-returns-in-Negative
term_at-returns-in-Negative t c =
    term_by c.args.context.now c.args.place c.args.typing.now c.opposite.new.typing c.args.expr.now (kind.Negative c.in-Negative.inner) (part_step (layer.Negative (part_of c.in-Negative.inner))) c.opposite.result
    (sym c.get.ensures ∙ c.in-Negative.is) (kind_negative c.in-Negative.inner) c.opposite.ensures

pub term_at-returns-in-If : goal.term_at-returns-in-If
term_at-returns-in-If t c =
    term_by c.args.context.now c.args.place c.args.typing.now c.choice.new.typing c.args.expr.now (kind.If c.in-If.condition c.in-If.positive c.in-If.negative) (part_step (layer.If (part_of c.in-If.condition) (part_of c.in-If.positive) (part_of c.in-If.negative))) c.choice.result
    (sym c.get.ensures ∙ c.in-If.is) (kind_if c.in-If.condition c.in-If.positive c.in-If.negative) c.choice.ensures

pub term_at-returns-in-Bracketed : goal.term_at-returns-in-Bracketed
term_at-returns-in-Bracketed t c =
    term_by c.args.context.now c.args.place c.args.typing.now c.term_at.new.typing c.args.expr.now (kind.Bracketed c.in-Bracketed.inner) (part_step (layer.Bracketed (part_of c.in-Bracketed.inner))) c.term_at.result
    (sym c.get.ensures ∙ c.in-Bracketed.is) (kind_bracketed c.in-Bracketed.inner) c.term_at.ensures

pub term_at-returns-in-Ascribed : goal.term_at-returns-in-Ascribed
term_at-returns-in-Ascribed t c =
    term_by c.args.context.now c.args.place c.args.typing.now c.with_sort.new.typing c.args.expr.now (kind.Ascribed c.in-Ascribed.body c.in-Ascribed.sort) (part_step (layer.Ascribed (part_of c.in-Ascribed.body) c.in-Ascribed.sort)) c.with_sort.result
    (sym c.get.ensures ∙ c.in-Ascribed.is) (kind_ascribed c.in-Ascribed.body c.in-Ascribed.sort)
    (subst (λ (s : WrittenType). TermAnswer c.args.context.now (λ sc. ascribed_rule (part_of c.in-Ascribed.body) s sc) c.args.typing.now c.with_sort.new.typing c.with_sort.result) c.get-in-Ascribed.ensures c.with_sort.ensures)

pub term_at-returns-in-Field : goal.term_at-returns-in-Field
term_at-returns-in-Field t c =
    term_by c.args.context.now c.args.place c.args.typing.now c.field_of.new.typing c.args.expr.now (kind.Field c.in-Field.base c.in-Field.field) (part_step (layer.Field (part_of c.in-Field.base) c.in-Field.field)) c.field_of.result
    (sym c.get.ensures ∙ c.in-Field.is) (kind_field c.in-Field.base c.in-Field.field) c.field_of.ensures

pub term_at-returns-in-Binary : goal.term_at-returns-in-Binary
term_at-returns-in-Binary t c =
    term_by c.args.context.now c.args.place c.args.typing.now c.binary_term.new.typing c.args.expr.now (kind.Binary c.in-Binary.op c.in-Binary.left c.in-Binary.right) (part_step (layer.Binary c.in-Binary.op (part_of c.in-Binary.left) (part_of c.in-Binary.right))) c.binary_term.result
    (sym c.get.ensures ∙ c.in-Binary.is) (kind_binary c.in-Binary.op c.in-Binary.left c.in-Binary.right) (c.binary_term.ensures c.args.expr.now.span)

pub term_at-returns-in-Apply : goal.term_at-returns-in-Apply
term_at-returns-in-Apply t c =
    term_by c.args.context.now c.args.place c.args.typing.now c.name_term.new.typing c.args.expr.now (kind.Apply c.in-Apply.name c.in-Apply.args) (part_step (layer.Apply c.in-Apply.name (map part_of c.in-Apply.args))) c.name_term.result
    (sym c.get.ensures ∙ c.in-Apply.is) (kind_apply c.in-Apply.name c.in-Apply.args)
    (subst (λ (es : List Expr). TermAnswer c.args.context.now (λ sc. (name_part c.args.expr.now.span c.in-Apply.name (map part_of es)).term sc c.args.place) c.args.typing.now c.name_term.new.typing c.name_term.result) c.as_slice.ensures (c.name_term.ensures c.args.expr.now.span))

pub term_at-returns-in-Distinct : goal.term_at-returns-in-Distinct
term_at-returns-in-Distinct t c =
    term_by c.args.context.now c.args.place c.args.typing.now c.different.new.typing c.args.expr.now (kind.Distinct c.in-Distinct.exprs) (part_step (layer.Distinct (map part_of c.in-Distinct.exprs))) c.in_term-in-Distinct.result
    (sym c.get.ensures ∙ c.in-Distinct.is) (kind_distinct c.in-Distinct.exprs)
    (c.in_term-in-Distinct.ensures c.args.context.now (λ sc. distinct_rule (map part_of c.in-Distinct.exprs) sc) c.args.typing.now c.different.new.typing
    (subst (λ (es : List Expr). ClaimAnswer c.args.context.now (λ sc. distinct_rule (map part_of es) sc) c.args.typing.now c.different.new.typing c.different.result) c.as_slice-in-Distinct.ensures c.different.ensures))

pub term_at-returns-in-Let : goal.term_at-returns-in-Let
term_at-returns-in-Let t c =
    term_by c.args.context.now c.args.place c.args.typing.now c.let_term.new.typing c.args.expr.now (kind.Let c.in-Let.name c.in-Let.value c.in-Let.body) (part_step (layer.Let c.in-Let.name (part_of c.in-Let.value) (part_of c.in-Let.body))) c.let_term.result
    (sym c.get.ensures ∙ c.in-Let.is) (kind_let c.in-Let.name c.in-Let.value c.in-Let.body) (c.let_term.ensures c.args.expr.now.span c.args.place)

pub formula_at-returns-in-Not : goal.formula_at-returns-in-Not
formula_at-returns-in-Not t c =
    formula_by c.args.context.now c.args.place c.args.typing.now c.negation.new.typing (around_in c.args.around.now) c.args.expr.now (kind.Not c.in-Not.inner) (part_step (layer.Not (part_of c.in-Not.inner))) c.negation.result
    (sym c.get.ensures ∙ c.in-Not.is) (kind_not c.in-Not.inner) c.negation.ensures

pub formula_at-returns-in-If : goal.formula_at-returns-in-If
formula_at-returns-in-If t c =
    formula_by c.args.context.now c.args.place c.args.typing.now c.conditional.new.typing (around_in c.args.around.now) c.args.expr.now (kind.If c.in-If.condition c.in-If.positive c.in-If.negative) (part_step (layer.If (part_of c.in-If.condition) (part_of c.in-If.positive) (part_of c.in-If.negative))) c.conditional.result
    (sym c.get.ensures ∙ c.in-If.is) (kind_if c.in-If.condition c.in-If.positive c.in-If.negative) c.conditional.ensures

pub formula_at-returns-in-Bracketed : goal.formula_at-returns-in-Bracketed
formula_at-returns-in-Bracketed t c =
    formula_by c.args.context.now c.args.place c.args.typing.now c.formula_at.new.typing (around_in c.args.around.now) c.args.expr.now (kind.Bracketed c.in-Bracketed.inner) (part_step (layer.Bracketed (part_of c.in-Bracketed.inner))) c.formula_at.result
    (sym c.get.ensures ∙ c.in-Bracketed.is) (kind_bracketed c.in-Bracketed.inner) c.formula_at.ensures

pub formula_at-returns-in-Apply : goal.formula_at-returns-in-Apply
formula_at-returns-in-Apply t c =
    formula_by c.args.context.now c.args.place c.args.typing.now c.name_formula.new.typing (around_in c.args.around.now) c.args.expr.now (kind.Apply c.in-Apply.name c.in-Apply.args) (part_step (layer.Apply c.in-Apply.name (map part_of c.in-Apply.args))) c.name_formula.result
    (sym c.get.ensures ∙ c.in-Apply.is) (kind_apply c.in-Apply.name c.in-Apply.args)
    (subst (λ (es : List Expr). ClaimAnswer c.args.context.now (λ sc. (name_part c.args.expr.now.span c.in-Apply.name (map part_of es)).formula sc (around_in c.args.around.now) c.args.place) c.args.typing.now c.name_formula.new.typing c.name_formula.result) c.as_slice-in-Apply.ensures (c.name_formula.ensures c.args.expr.now.span))

pub formula_at-returns-in-Distinct : goal.formula_at-returns-in-Distinct
formula_at-returns-in-Distinct t c =
    formula_by c.args.context.now c.args.place c.args.typing.now c.different.new.typing (around_in c.args.around.now) c.args.expr.now (kind.Distinct c.in-Distinct.exprs) (part_step (layer.Distinct (map part_of c.in-Distinct.exprs))) c.different.result
    (sym c.get.ensures ∙ c.in-Distinct.is) (kind_distinct c.in-Distinct.exprs)
    (subst (λ (es : List Expr). ClaimAnswer c.args.context.now (λ sc. distinct_rule (map part_of es) sc) c.args.typing.now c.different.new.typing c.different.result) c.as_slice.ensures c.different.ensures)

pub formula_at-returns-in-Let : goal.formula_at-returns-in-Let
formula_at-returns-in-Let t c =
    formula_by c.args.context.now c.args.place c.args.typing.now c.let_formula.new.typing (around_in c.args.around.now) c.args.expr.now (kind.Let c.in-Let.name c.in-Let.value c.in-Let.body) (part_step (layer.Let c.in-Let.name (part_of c.in-Let.value) (part_of c.in-Let.body))) c.let_formula.result
    (sym c.get.ensures ∙ c.in-Let.is) (kind_let c.in-Let.name c.in-Let.value c.in-Let.body) (c.let_formula.ensures c.args.expr.now.span c.args.place)

pub all_wanted-loop-place-init : goal.all_wanted-loop-place-init
all_wanted-loop-place-init t c = subst (λ (ns : List ℕ). Wants c.args.context.now c.args.sorts.now c.args.exprs.now c.args.typing.now c.args.typing.now ns 0) (sym c.new-trees.ensures) (wants_start c.args.context.now c.args.sorts.now c.args.exprs.now c.args.typing.now)

pub all_wanted-returns : goal.all_wanted-returns
all_wanted-returns t c =
    let i = c.loop-place.place in
    wants_whole c.args.context.now c.args.sorts.now c.args.exprs.now c.args.typing.now c.loop-place.typing c.loop-place.trees i (omega (arith, c.loop-place-test.false, c.requires.count)) (omega (arith, c.loop-place-test.false)) c.loop-place.invariant

pub function-returns-in_err-applied : goal.function-returns-in_err-applied
function-returns-in_err-applied t c e s is value =
    let p = err_from_is_err_and c.from_residual.result c.from_residual.ensures.1 in
    rw (p.1, p.2) (function_stops c.args.context.now c.args.name c.args.number e (map part_of c.args.args.now) c.args.typing.now s c.in_err-applied.field-0.0 (c.in_err-applied.ensures e is))

pub function-returns : goal.function-returns
function-returns t c e s is value =
    let a = c.in_ok-applied.ensures e is in
    function_done c.args.context.now c.args.name c.args.number e (map part_of c.args.args.now) c.args.typing.now c.application.new.typing c.in_ok-applied.applied a s c.function_term.new.typing c.in_ok-function_term.field-0
    (c.in_ok-function_term.ensures e s a.terms is value a.stand)

pub predicate-returns-in_err-applied : goal.predicate-returns-in_err-applied
predicate-returns-in_err-applied t c e is =
    let p = err_from_is_err_and c.from_residual.result c.from_residual.ensures.1 in
    rw (p.1, p.2) (predicate_stops c.args.context.now c.args.name c.args.number e (map part_of c.args.args.now) c.args.typing.now c.in_err-applied.field-0.0 (c.in_err-applied.ensures e is))

pub predicate-returns : goal.predicate-returns
predicate-returns t c e is =
    predicate_done c.args.context.now c.args.name c.args.number e (map part_of c.args.args.now) c.args.typing.now c.application.new.typing c.in_ok-applied.applied (c.in_ok-applied.ensures e is) c.push_node.new.typing c.in_ok-push_node.field-0 c.in_ok-push_node.ensures

-- ---- an operator in a term's place
pub binary_term-returns-in-Operation : goal.binary_term-returns-in-Operation
binary_term-returns-in-Operation t c own =
    term_by_shape c.args.context.now c.args.place c.args.typing.now c.calculated.new.typing c.args.op (shape.Operation c.in-Operation.op) (sym c.shape_of.ensures ∙ c.in-Operation.is) own (part_of c.args.left.now) (part_of c.args.right.now)
    c.calculated.result c.calculated.ensures

pub binary_term-returns-in-Equation : goal.binary_term-returns-in-Equation
binary_term-returns-in-Equation t c own =
    term_by_shape c.args.context.now c.args.place c.args.typing.now c.equation.new.typing c.args.op (shape.Equation c.in-Equation.relation) (sym c.shape_of.ensures ∙ c.in-Equation.is) own (part_of c.args.left.now) (part_of c.args.right.now)
    c.in_term.result (c.in_term.ensures c.args.context.now (λ sc. equation_rule (relation_of c.in-Equation.relation) (part_of c.args.left.now) (part_of c.args.right.now) sc) c.args.typing.now c.equation.new.typing c.equation.ensures)

pub binary_term-returns-in-Inequality : goal.binary_term-returns-in-Inequality
binary_term-returns-in-Inequality t c own =
    term_by_shape c.args.context.now c.args.place c.args.typing.now c.inequality.new.typing c.args.op (shape.Inequality c.in-Inequality.relation) (sym c.shape_of.ensures ∙ c.in-Inequality.is) own (part_of c.args.left.now) (part_of c.args.right.now)
    c.in_term-in-Inequality.result (c.in_term-in-Inequality.ensures c.args.context.now (λ sc. inequality_rule (relation_of c.in-Inequality.relation) (part_of c.args.left.now) (part_of c.args.right.now) sc) c.args.typing.now c.inequality.new.typing c.inequality.ensures)

pub binary_term-returns-in-Joined : goal.binary_term-returns-in-Joined
binary_term-returns-in-Joined t c own =
    term_by_shape c.args.context.now c.args.place c.args.typing.now c.connected.new.typing c.args.op (shape.Joined c.in-Joined.connective) (sym c.shape_of.ensures ∙ c.in-Joined.is) own (part_of c.args.left.now) (part_of c.args.right.now)
    c.in_term-in-Joined.result (c.in_term-in-Joined.ensures c.args.context.now (λ sc. connective_rule (join_of c.in-Joined.connective) (part_of c.args.left.now) (part_of c.args.right.now) sc) c.args.typing.now c.connected.new.typing c.connected.ensures)

-- ---- `let`
pub let_term-returns-in_err-bind : goal.let_term-returns-in_err-bind
let_term-returns-in_err-bind t c own place =
    let B = part_of c.args.body.now in
    let p = err_from_is_err_and c.from_residual.result c.from_residual.ensures.1 in
    rw (p.1, p.2) (let_first c.args.context.now c.args.name (part_of c.args.value.now) c.args.typing.now (λ inner. B.term inner B.place) c.in_err-bind.field-0.0 c.in_err-bind.ensures)

pub let_term-returns-in_err-found : goal.let_term-returns-in_err-found
let_term-returns-in_err-found t c own place =
    let B = part_of c.args.body.now in
    let p = err_from_is_err_and c.from_residual-in_err-found.result c.from_residual-in_err-found.ensures.1 in
    rw (p.1, p.2) (let_second c.args.context.now c.args.name (part_of c.args.value.now) c.args.typing.now (λ inner. B.term inner B.place) c.bind.new.typing c.in_ok-bind.ensures c.in_err-found.field-0.0 c.in_err-found.ensures)

pub let_term-returns : goal.let_term-returns
let_term-returns t c own place =
    let B = part_of c.args.body.now in
    let_term c.args.context.now c.args.name (part_of c.args.value.now) c.args.typing.now c.bind.new.typing c.term_of.new.typing c.leave.new.typing c.in_ok-bind.ensures c.leave.ensures (λ inner. B.term inner B.place) c.in_ok-found.found c.in_ok-found.ensures

pub let_formula-returns-in_err-bind : goal.let_formula-returns-in_err-bind
let_formula-returns-in_err-bind t c own place =
    let B = part_of c.args.body.now in
    let p = err_from_is_err_and c.from_residual.result c.from_residual.ensures.1 in
    rw (p.1, p.2) (let_first c.args.context.now c.args.name (part_of c.args.value.now) c.args.typing.now (λ inner. B.formula inner (around_in c.args.around.now) B.place) c.in_err-bind.field-0.0 c.in_err-bind.ensures)

pub let_formula-returns-in_err-claim : goal.let_formula-returns-in_err-claim
let_formula-returns-in_err-claim t c own place =
    let B = part_of c.args.body.now in
    let e = c.in_err-claim.field-0.0 in
    let p = err_from_is_err_and c.from_residual-in_err-claim.result c.from_residual-in_err-claim.ensures.1 in
    rw (p.1, p.2) (let_second c.args.context.now c.args.name (part_of c.args.value.now) c.args.typing.now (λ inner. B.formula inner (around_in c.args.around.now) B.place) c.bind.new.typing c.in_ok-bind.ensures e
    (subst (λ (z : Span). Stops c.args.context.now (λ sc. B.formula sc (around_in c.args.around.now) z) c.bind.new.typing e) (sym (place_is c.args.body.now)) c.in_err-claim.ensures))

pub let_formula-returns : goal.let_formula-returns
let_formula-returns t c own place =
    let B = part_of c.args.body.now in
    let_claim c.args.context.now c.args.name (part_of c.args.value.now) c.args.typing.now c.bind.new.typing c.formula_at.new.typing c.leave.new.typing c.in_ok-bind.ensures c.leave.ensures (λ inner. B.formula inner (around_in c.args.around.now) B.place) c.in_ok-claim.claim
    (subst (λ (z : Span). TypesClaim c.args.context.now (λ sc. B.formula sc (around_in c.args.around.now) z) c.bind.new.typing c.formula_at.new.typing c.in_ok-claim.claim) (sym (place_is c.args.body.now)) c.in_ok-claim.ensures)

-- ---- the value of a `let`
pub bind_formula-enter-requires : goal.bind_formula-enter-requires
bind_formula-enter-requires t c =
    let es = nodes_of c.formula_of.new.typing in
    let n = c.in_ok-claim.claim in
    let a = c.in_ok-claim.ensures in
    record { name = c.requires.name; stands = subst (IsClaim es n) (sym (claim_is es n a.claim a.stands)) a.stands }

pub bind_formula-returns-in_err-claim : goal.bind_formula-returns-in_err-claim
bind_formula-returns-in_err-claim t c is =
    let p = err_from_is_err_and c.from_residual.result c.from_residual.ensures.1 in
    rw (p.1, p.2) (unbound_formula c.args.context.now c.args.name (part_of c.args.value.now) c.args.typing.now formula is c.in_err-claim.field-0.0 refl c.in_err-claim.ensures)

pub bind_formula-returns : goal.bind_formula-returns
bind_formula-returns t c is =
    let mid = c.formula_of.new.typing in
    let a = c.in_ok-claim.ensures in
    let n = c.in_ok-claim.claim in
    binds_formula c.args.context.now c.args.name (part_of c.args.value.now) c.args.typing.now formula is mid c.enter.new.typing a.claim refl a.walks
    (subst (λ z. Enters c.args.context.now c.args.name (a_formula z) mid c.enter.new.typing) (claim_is (nodes_of mid) n a.claim a.stands) c.in_ok-enter.ensures)

pub bind_term-enter-requires : goal.bind_term-enter-requires
bind_term-enter-requires t c =
    let es = nodes_of c.term_of.new.typing in
    let n = c.in_ok-found.found.tree in
    let a = c.in_ok-found.ensures in
    record { name = c.requires.name; stands = subst (IsTree es n) (sym (tree_is es n a.tree a.stands)) a.stands }

pub bind_term-returns-in_err-found : goal.bind_term-returns-in_err-found
bind_term-returns-in_err-found t c is other =
    let p = err_from_is_err_and c.from_residual.result c.from_residual.ensures.1 in
    rw (p.1, p.2) (unbound_term c.args.context.now c.args.name (part_of c.args.value.now) c.args.typing.now (class_in c.args.class) is c.in_err-found.field-0.0 other c.in_err-found.ensures)

pub bind_term-returns : goal.bind_term-returns
bind_term-returns t c is other =
    let mid = c.term_of.new.typing in
    let a = c.in_ok-found.ensures in
    let u = c.in_ok-found.found in
    binds_term c.args.context.now c.args.name (part_of c.args.value.now) c.args.typing.now (class_in c.args.class) is mid c.enter.new.typing a.tree u.sort other a.walks
    (subst (λ z. Enters c.args.context.now c.args.name (a_term (class_in c.args.class) z u.sort) mid c.enter.new.typing) (tree_is (nodes_of mid) u.tree a.tree a.stands) c.in_ok-enter.ensures)

pub bind-returns-in-Formula : goal.bind-returns-in-Formula
bind-returns-in-Formula t c =
    let d = c.args.context.now in
    let V = part_of c.args.value.now in
    let env = c.class_of.new.environment in
    let looked_at = c.in_ok-class_of.ensures in
    let is = ap (λ ls. V.class (scope_with d.text.now d.known ls)) looked_at.locals ∙ sym looked_at.class ∙ ap class_in c.in-Formula.is in
    binds_before d c.args.typing.now env c.class_of.ensures.nodes looked_at.locals c.args.name V c.bind_formula.new.typing c.bind_formula.result (c.bind_formula.ensures is)

pub bind-returns-in-Either : goal.bind-returns-in-Either
bind-returns-in-Either t c =
    let d = c.args.context.now in
    let V = part_of c.args.value.now in
    let env = c.class_of.new.environment in
    let looked_at = c.in_ok-class_of.ensures in
    let is = ap (λ ls. V.class (scope_with d.text.now d.known ls)) looked_at.locals ∙ sym looked_at.class ∙ ap class_in c.in-Either.is in
    binds_before d c.args.typing.now env c.class_of.ensures.nodes looked_at.locals c.args.name V c.bind_term.new.typing c.bind_term.result (c.bind_term.ensures is (λ e. either≢formula e))

pub bind-returns-in-Term : goal.bind-returns-in-Term
bind-returns-in-Term t c =
    let d = c.args.context.now in
    let V = part_of c.args.value.now in
    let env = c.class_of.new.environment in
    let looked_at = c.in_ok-class_of.ensures in
    let is = ap (λ ls. V.class (scope_with d.text.now d.known ls)) looked_at.locals ∙ sym looked_at.class ∙ ap class_in c.in-Term.is in
    binds_before d c.args.typing.now env c.class_of.ensures.nodes looked_at.locals c.args.name V c.bind_term-in-Term.new.typing c.bind_term-in-Term.result (c.bind_term-in-Term.ensures is (λ e. term≢formula e))

-- ---- names
pub name_term-returns-in-Bound : goal.name_term-returns-in-Bound
name_term-returns-in-Bound t c own =
    let d = c.args.context.now in
    let args = map part_of c.args.args.now in
    let old = c.args.typing.now in
    let h = subst (IsNamed (nodes_of old) d.known (meaning_of (scope_at d old) (name_in d.text.now c.args.name))) c.in-Bound.is c.in_ok-meaning.ensures in
    term_here d old c.bound_term.new.typing (λ sc. name_rule c.args.name args sc c.args.place (bound_named (meaning_in (nodes_of old) c.in-Bound.meaning))) (λ sc. (name_part own c.args.name args).term sc c.args.place)
    (ap (name_rule c.args.name args (scope_at d old) c.args.place) (sym h.1)) c.bound_term.result
    (c.bound_term.ensures d args (length-map c.args.args.now part_of))

pub name_term-returns-in-Function : goal.name_term-returns-in-Function
name_term-returns-in-Function t c own =
    let d = c.args.context.now in
    let args = map part_of c.args.args.now in
    let old = c.args.typing.now in
    let k = c.in-Function.number in
    let h = subst (IsNamed (nodes_of old) d.known (meaning_of (scope_at d old) (name_in d.text.now c.args.name))) c.in-Function.is c.in_ok-meaning.ensures in
    term_here d old c.function.new.typing (λ sc. function_rule c.args.name k h.0 h.1 args sc) (λ sc. (name_part own c.args.name args).term sc c.args.place)
    (ap (name_rule c.args.name args (scope_at d old) c.args.place) (sym h.4)) c.function.result
    (c.function.ensures h.0 h.1 h.2 h.3)

pub name_term-returns-in-Predicate : goal.name_term-returns-in-Predicate
name_term-returns-in-Predicate t c own =
    let d = c.args.context.now in
    let args = map part_of c.args.args.now in
    let old = c.args.typing.now in
    let k = c.in-Predicate.number in
    let h = subst (IsNamed (nodes_of old) d.known (meaning_of (scope_at d old) (name_in d.text.now c.args.name))) c.in-Predicate.is c.in_ok-meaning.ensures in
    term_here d old c.predicate.new.typing (λ sc. formula_in_term c.args.place (predicate_rule c.args.name k h.0 args sc)) (λ sc. (name_part own c.args.name args).term sc c.args.place)
    (ap (name_rule c.args.name args (scope_at d old) c.args.place) (sym h.2)) c.in_term.result
    (c.in_term.ensures d (λ sc. predicate_rule c.args.name k h.0 args sc) old c.predicate.new.typing (c.predicate.ensures h.0 h.1))

pub name_formula-returns-in-Bound : goal.name_formula-returns-in-Bound
name_formula-returns-in-Bound t c own =
    let d = c.args.context.now in
    let args = map part_of c.args.args.now in
    let old = c.args.typing.now in
    let o = around_in c.args.around.now in
    let h = subst (IsNamed (nodes_of old) d.known (meaning_of (scope_at d old) (name_in d.text.now c.args.name))) c.in-Bound.is c.in_ok-meaning.ensures in
    claim_here d old c.bound_formula.new.typing (λ sc. name_claim c.args.name args sc o c.args.place (bound_named (meaning_in (nodes_of old) c.in-Bound.meaning))) (λ sc. (name_part own c.args.name args).formula sc o c.args.place)
    (ap (name_claim c.args.name args (scope_at d old) o c.args.place) (sym h.1)) c.bound_formula.result
    (c.bound_formula.ensures d args (length-map c.args.args.now part_of))

pub name_formula-returns-in-Predicate : goal.name_formula-returns-in-Predicate
name_formula-returns-in-Predicate t c own =
    let d = c.args.context.now in
    let args = map part_of c.args.args.now in
    let old = c.args.typing.now in
    let o = around_in c.args.around.now in
    let k = c.in-Predicate.number in
    let h = subst (IsNamed (nodes_of old) d.known (meaning_of (scope_at d old) (name_in d.text.now c.args.name))) c.in-Predicate.is c.in_ok-meaning.ensures in
    claim_here d old c.predicate.new.typing (λ sc. predicate_rule c.args.name k h.0 args sc) (λ sc. (name_part own c.args.name args).formula sc o c.args.place)
    (ap (name_claim c.args.name args (scope_at d old) o c.args.place) (sym h.2)) c.predicate.result (c.predicate.ensures h.0 h.1)

pub name_formula-returns-in_ok-found-in-Function : goal.name_formula-returns-in_ok-found-in-Function
name_formula-returns-in_ok-found-in-Function t c own =
    let d = c.args.context.now in
    let args = map part_of c.args.args.now in
    let old = c.args.typing.now in
    let o = around_in c.args.around.now in
    let k = c.in-Function.number in
    let h = subst (IsNamed (nodes_of old) d.known (meaning_of (scope_at d old) (name_in d.text.now c.args.name))) c.in-Function.is c.in_ok-meaning.ensures in
    let a = c.in_ok-found-in-Function.ensures h.0 h.1 h.2 h.3 in
    claim_here d old c.holds.new.typing (λ sc. truth_rule c.args.place (function_rule c.args.name k h.0 h.1 args sc)) (λ sc. (name_part own c.args.name args).formula sc o c.args.place)
    (ap (name_claim c.args.name args (scope_at d old) o c.args.place) (sym h.4)) c.holds.result
    (truth_done d (λ sc. function_rule c.args.name k h.0 h.1 args sc) c.args.place old c.function.new.typing c.holds.new.typing a.tree c.in_ok-found-in-Function.found.sort a.walks c.holds.result (c.holds.ensures d a.tree a.stands))

-- ---- values of fields
pub all_values-loop-setting-init : goal.all_values-loop-setting-init
all_values-loop-setting-init t c =
    let d = c.args.context.now in
    let old = c.args.typing.now in
    subst (λ (ps : List ℕ). Gets d c.args.own c.args.of c.args.sorts.now c.args.settings.now old old ps c.new-trees.result 0) (sym c.new-places.ensures)
    (subst (λ (ns : List ℕ). Gets d c.args.own c.args.of c.args.sorts.now c.args.settings.now old old [] ns 0) (sym c.new-trees.ensures)
    (gets_start d c.args.own c.args.of c.args.sorts.now c.args.settings.now old))

abbrev its_names : (text : List ℕ) (sets : List Setting) (i : ℕ) (s : Setting) → i < length sets → s ≡ get_or sets i s → AllByRecursion (AreSetNamed text) sets → IsName text s.name × AreNamed text s.value
its_names text sets i s l is h = named_setting (IsName text) s (all_at (AreSetNamed text) sets i s h (slice_get-get_or sets i s l ∙ ap Some (sym is)))

pub all_values-field_at-requires : goal.all_values-field_at-requires
all_values-field_at-requires t c =
    record { name = (its_names c.args.context.now.text.now c.args.settings.now c.loop-setting.setting-index c.setting-item.result c.loop-setting-test.true c.setting-item.is c.requires.names).0 }

pub all_values-is_new-requires : goal.all_values-is_new-requires
all_values-is_new-requires t c =
    record { name = (its_names c.args.context.now.text.now c.args.settings.now c.loop-setting.setting-index c.setting-item.result c.loop-setting-test.true c.setting-item.is c.requires.names).0 }

pub all_values-wanted_at-requires : goal.all_values-wanted_at-requires
all_values-wanted_at-requires t c =
    let sets = c.args.settings.now in
    let s = c.setting-item.result in
    let i = c.loop-setting.setting-index in
    let falls : 8 * size-Expr s.value + 3 < 8 * most size-Setting sets + 4 = omega (arith, value_smaller s, most_at size-Setting sets i s c.loop-setting-test.true c.setting-item.is) in
    (subst (λ n. 8 * size-Expr s.value + 3 < n) c.decreases falls, (its_names c.args.context.now.text.now sets i s c.loop-setting-test.true c.setting-item.is c.requires.names).1)

pub all_values-returns-in_err-found : goal.all_values-returns-in_err-found
all_values-returns-in_err-found t c =
    let p = err_from_is_err_and c.from_residual.result c.from_residual.ensures.1 in
    let l = c.loop-setting in
    rw (p.1, p.2) (gets_missing c.args.context.now c.args.own c.args.of c.args.sorts.now c.args.settings.now c.args.typing.now l.typing l.places l.trees l.setting-index c.setting-item.result c.loop-setting-test.true c.setting-item.is l.invariant
    c.in_err-found.ensures.missing c.in_err-found.field-0.0 c.in_err-found.ensures.fault)

pub all_values-returns-in_err-is_new : goal.all_values-returns-in_err-is_new
all_values-returns-in_err-is_new t c =
    let p = err_from_is_err_and c.from_residual-in_err-is_new.result c.from_residual-in_err-is_new.ensures.1 in
    let l = c.loop-setting in
    let d = c.args.context.now in
    let s = c.setting-item.result in
    let f = c.in_ok-found.found in
    rw (p.1, p.2) (gets_old d c.args.own c.args.of c.args.sorts.now c.args.settings.now c.args.typing.now l.typing l.places l.trees l.setting-index s c.loop-setting-test.true c.setting-item.is l.invariant
    f c.in_ok-found.ensures.found c.in_err-is_new.field-0.0 (subst (λ (ps : List ℕ). AreFailed (new_field d.text.now c.args.own c.args.of (reverse ps) f s.name) c.in_err-is_new.field-0.0) c.as_slice.ensures c.in_err-is_new.ensures.fault))

pub all_values-returns-in_err-tree : goal.all_values-returns-in_err-tree
all_values-returns-in_err-tree t c =
    let p = err_from_is_err_and c.from_residual-in_err-tree.result c.from_residual-in_err-tree.ensures.1 in
    let l = c.loop-setting in
    let d = c.args.context.now in
    let s = c.setting-item.result in
    let f = c.in_ok-found.found in
    let new = subst (λ (ps : List ℕ). AreHeld (new_field d.text.now c.args.own c.args.of (reverse ps) f s.name)) c.as_slice.ensures c.in_ok-is_new.ensures.met in
    let sorted : c.in_ok-sort.sort ≡ field_sort d.known f c.args.sorts.now = c.in_ok-sort.ensures ∙ ap (λ (g : Signature). field_sort g f c.args.sorts.now) c.signature.ensures in
    rw (p.1, p.2) (gets_unwanted d c.args.own c.args.of c.args.sorts.now c.args.settings.now c.args.typing.now l.typing l.places l.trees l.setting-index s c.loop-setting-test.true c.setting-item.is l.invariant
    f c.in_ok-found.ensures.found new c.in_ok-sort.sort sorted c.in_err-tree.field-0.0 c.in_err-tree.ensures)

pub all_values-loop-setting-preserved : goal.all_values-loop-setting-preserved
all_values-loop-setting-preserved t c =
    let l = c.loop-setting in
    let d = c.args.context.now in
    let s = c.setting-item.result in
    let f = c.in_ok-found.found in
    let a = c.in_ok-tree.ensures in
    let new = subst (λ (ps : List ℕ). AreHeld (new_field d.text.now c.args.own c.args.of (reverse ps) f s.name)) c.as_slice.ensures c.in_ok-is_new.ensures.met in
    let sorted : c.in_ok-sort.sort ≡ field_sort d.known f c.args.sorts.now = c.in_ok-sort.ensures ∙ ap (λ (g : Signature). field_sort g f c.args.sorts.now) c.signature.ensures in
    gets_next d c.args.own c.args.of c.args.sorts.now c.args.settings.now c.args.typing.now l.typing l.places l.trees l.setting-index s c.loop-setting-test.true c.setting-item.is l.invariant
    f c.in_ok-found.ensures.found new c.in_ok-sort.sort sorted c.wanted_at.new.typing c.in_ok-tree.tree a.tree c.push.new.self c.push-in-loop-setting.new.self a.walks a.stands c.in_ok-push.ensures.ok c.in_ok-push-2.ensures.ok

pub all_values-returns : goal.all_values-returns
all_values-returns t c =
    let l = c.loop-setting in
    gets_whole c.args.context.now c.args.own c.args.of c.args.sorts.now c.args.settings.now c.args.typing.now l.typing l.places l.trees l.setting-index (omega (arith, c.loop-setting-test.false)) l.invariant

-- ---- the terms of a trigger
pub trigger_terms-loop-expr-init : goal.trigger_terms-loop-expr-init
trigger_terms-loop-expr-init t c =
    subst (λ (ns : List ℕ). Matches c.args.context.now c.args.exprs.now c.args.typing.now c.args.typing.now ns 0) (sym c.new-trees.ensures)
    (matches_start c.args.context.now c.args.exprs.now c.args.typing.now)

pub trigger_terms-pattern_at-requires : goal.trigger_terms-pattern_at-requires
trigger_terms-pattern_at-requires t c =
    let es = c.args.exprs.now in
    let e = c.expr-item.result in
    let i = c.loop-expr.expr-index in
    let falls : 8 * size-Expr e + 6 < 8 * most size-Expr es + 7 = omega (arith, most_at size-Expr es i e c.loop-expr-test.true c.expr-item.is) in
    (subst (λ n. 8 * size-Expr e + 6 < n) c.decreases falls, all_at (AreNamed c.args.context.now.text.now) es i e c.requires.names (slice_get-get_or es i e c.loop-expr-test.true ∙ ap Some (sym c.expr-item.is)))

pub trigger_terms-returns-in_err-tree : goal.trigger_terms-returns-in_err-tree
trigger_terms-returns-in_err-tree t c =
    let p = err_from_is_err_and c.from_residual.result c.from_residual.ensures.1 in
    let l = c.loop-expr in
    rw (p.1, p.2) (matches_stop c.args.context.now c.args.exprs.now c.args.typing.now l.typing l.trees l.expr-index c.expr-item.result c.loop-expr-test.true c.expr-item.is l.invariant c.in_err-tree.field-0.0 c.in_err-tree.ensures)

pub trigger_terms-loop-expr-preserved : goal.trigger_terms-loop-expr-preserved
trigger_terms-loop-expr-preserved t c =
    let l = c.loop-expr in
    let a = c.in_ok-tree.ensures in
    matches_next c.args.context.now c.args.exprs.now c.args.typing.now l.typing l.trees l.expr-index c.expr-item.result c.loop-expr-test.true c.expr-item.is l.invariant c.pattern_at.new.typing c.in_ok-tree.tree a.tree c.push.new.self a.walks a.stands c.in_ok-push.ensures.ok

pub trigger_terms-returns : goal.trigger_terms-returns
trigger_terms-returns t c =
    let l = c.loop-expr in
    matches_whole c.args.context.now c.args.exprs.now c.args.typing.now l.typing l.trees l.expr-index (omega (arith, c.loop-expr-test.false)) l.invariant

-- ---- a term of a trigger
pub pattern_at-returns-in_err-tree : goal.pattern_at-returns-in_err-tree
pattern_at-returns-in_err-tree t c =
    let p = err_from_is_err_and c.from_residual.result c.from_residual.ensures.1 in
    rw (p.1, p.2) (pattern_first c.args.context.now c.args.expr.now c.args.typing.now c.in_err-tree.field-0.0 c.in_err-tree.ensures)

abbrev the_term : (old mid : Typing) (place : Span) (n : ℕ) (x : Tree) (es : List Entry) → es ≡ nodes_of mid → IsTree (nodes_of mid) n x → tree_at es n ≡ x
the_term old mid place n x es e h = ap (λ z. tree_at z n) e ∙ tree_is (nodes_of mid) n x h

pub pattern_at-returns-in_err-is_trigger_term : goal.pattern_at-returns-in_err-is_trigger_term
pattern_at-returns-in_err-is_trigger_term t c =
    let p = err_from_is_err_and c.from_residual-in_err-is_trigger_term.result c.from_residual-in_err-is_trigger_term.ensures.1 in
    let e = c.args.expr.now in
    let mid = c.untested_at.new.typing in
    let a = c.in_ok-tree.ensures in
    let x = c.in_err-is_trigger_term.field-0.0 in
    rw (p.1, p.2) (pattern_bad c.args.context.now e c.args.typing.now mid a.tree a.walks x
    (subst (λ z. AreFailed (trigger_term e.span z) x) (the_term c.args.typing.now mid e.span c.in_ok-tree.tree a.tree _ c.nodes.ensures a.stands) c.in_err-is_trigger_term.ensures.fault))

pub pattern_at-returns : goal.pattern_at-returns
pattern_at-returns t c =
    let e = c.args.expr.now in
    let mid = c.untested_at.new.typing in
    let a = c.in_ok-tree.ensures in
    record {
      tree = a.tree;
      stands = a.stands;
      walks = pattern_good c.args.context.now e c.args.typing.now mid a.tree a.walks
          (subst (λ z. AreHeld (trigger_term e.span z)) (the_term c.args.typing.now mid e.span c.in_ok-tree.tree a.tree _ c.nodes.ensures a.stands) c.in_ok-is_trigger_term.ensures.met);
    }

-- ---- triggers
pub all_triggers-loop-trigger-init : goal.all_triggers-loop-trigger-init
all_triggers-loop-trigger-init t c =
    subst (λ (ps : List Pattern). Collects c.args.context.now c.args.variables.now c.args.triggers.now c.args.typing.now c.args.typing.now ps 0) (sym c.new-patterns.ensures)
    (collects_start c.args.context.now c.args.variables.now c.args.triggers.now c.args.typing.now)

pub all_triggers-trigger_terms-requires : goal.all_triggers-trigger_terms-requires
all_triggers-trigger_terms-requires t c =
    let ts = c.args.triggers.now in
    let r = c.trigger-item.result in
    let i = c.loop-trigger.trigger-index in
    let P = IsName c.args.context.now.text.now in
    let es = c.as_slice-exprs.result.now in
    let its = c.as_slice-exprs.ensures in
    let falls : 8 * most size-Expr (out-Trigger r).terms + 7 < 8 * most size-Trigger ts + 4 = omega (arith, terms_smaller r, most_at size-Trigger ts i r c.loop-trigger-test.true c.trigger-item.is) in (
      subst (λ n. 8 * most size-Expr es + 7 < n) c.decreases (subst (λ (z : List Expr). 8 * most size-Expr z + 7 < 8 * most size-Trigger ts + 4) (sym its) falls),
      subst (AllByRecursion (AreNamed c.args.context.now.text.now)) (sym its) (named_trigger P r (all_at (AreTriggerNamed c.args.context.now.text.now) ts i r c.requires.names (slice_get-get_or ts i r c.loop-trigger-test.true ∙ ap Some (sym c.trigger-item.is)))),
    )

pub all_triggers-returns-in_err-terms : goal.all_triggers-returns-in_err-terms
all_triggers-returns-in_err-terms t c =
    let p = err_from_is_err_and c.from_residual.result c.from_residual.ensures.1 in
    let l = c.loop-trigger in
    let r = c.trigger-item.result in
    let its = trigger r ∙ ap (map part_of) (sym c.as_slice-exprs.ensures) in
    rw (p.1, p.2) (collects_stop c.args.context.now c.args.variables.now c.args.triggers.now c.args.typing.now l.typing l.patterns l.trigger-index r c.as_slice-exprs.result.now c.loop-trigger-test.true c.trigger-item.is its l.invariant
    c.in_err-terms.field-0.0 c.in_err-terms.ensures)

abbrev its_trees : (mid : Typing) (ns ms : List ℕ) (us : Trees) (es : List Entry) → es ≡ nodes_of mid → ms ≡ ns → AreTrees (nodes_of mid) ns us → trees_at es ms ≡ us
its_trees mid ns ms us es e same h = ap (λ z. trees_at z ms) e ∙ ap (trees_at (nodes_of mid)) same ∙ trees_are (nodes_of mid) ns us h

pub all_triggers-returns-in_err-is_covering : goal.all_triggers-returns-in_err-is_covering
all_triggers-returns-in_err-is_covering t c =
    let p = err_from_is_err_and c.from_residual-in_err-is_covering.result c.from_residual-in_err-is_covering.ensures.1 in
    let l = c.loop-trigger in
    let r = c.trigger-item.result in
    let xs = c.args.variables.now in
    let x = c.in_err-is_covering.field-0.0 in
    let a = c.in_ok-terms.ensures in
    let its = trigger r ∙ ap (map part_of) (sym c.as_slice-exprs.ensures) in
    rw (p.1, p.2) (collects_bad c.args.context.now xs c.args.triggers.now c.args.typing.now l.typing l.patterns l.trigger-index r c.as_slice-exprs.result.now c.loop-trigger-test.true c.trigger-item.is its l.invariant
    c.trigger_terms.new.typing a.terms a.walks x
    (subst (λ (z : Span). AreFailed (trigger_covers xs z a.terms) x) c.first_place-place.ensures
    (subst (λ z. AreFailed (trigger_covers xs c.first_place-place.result z) x) (its_trees c.trigger_terms.new.typing c.in_ok-terms.terms _ a.terms _ c.nodes-nodes.ensures c.as_slice.ensures a.stand) c.in_err-is_covering.ensures.fault)))

pub all_triggers-loop-trigger-preserved : goal.all_triggers-loop-trigger-preserved
all_triggers-loop-trigger-preserved t c =
    let l = c.loop-trigger in
    let r = c.trigger-item.result in
    let xs = c.args.variables.now in
    let a = c.in_ok-terms.ensures in
    let its = trigger r ∙ ap (map part_of) (sym c.as_slice-exprs.ensures) in
    collects_next c.args.context.now xs c.args.triggers.now c.args.typing.now l.typing l.patterns l.trigger-index r c.as_slice-exprs.result.now c.loop-trigger-test.true c.trigger-item.is its l.invariant
    c.trigger_terms.new.typing a.terms a.walks
    (subst (λ (z : Span). AreHeld (trigger_covers xs z a.terms)) c.first_place-place.ensures
    (subst (λ z. AreHeld (trigger_covers xs c.first_place-place.result z)) (its_trees c.trigger_terms.new.typing c.in_ok-terms.terms _ a.terms _ c.nodes-nodes.ensures c.as_slice.ensures a.stand) c.in_ok-is_covering.ensures.met))
    c.in_ok-terms.terms c.first_place-place.result c.push.new.self a.stand c.first_place-place.ensures c.in_ok-push.ensures.ok

pub all_triggers-returns : goal.all_triggers-returns
all_triggers-returns t c =
    let l = c.loop-trigger in
    collects_whole c.args.context.now c.args.variables.now c.args.triggers.now c.args.typing.now l.typing l.patterns l.trigger-index (omega (arith, c.loop-trigger-test.false)) l.invariant

-- ---- a term of a trigger, of which nothing is looked at yet
pub untested_at-returns-in_err-claim-in-Formula : goal.untested_at-returns-in_err-claim-in-Formula
untested_at-returns-in_err-claim-in-Formula t c =
    let p = err_from_is_err_and c.from_residual-in_err-claim-in-Formula.result c.from_residual-in_err-claim-in-Formula.ensures.1 in
    let d = c.args.context.now in
    let e = c.args.expr.now in
    let V = part_of e in
    let env = c.class_of.new.environment in
    let seen = c.in_ok-class_of.ensures in
    let mid = looked d c.args.typing.now env c.class_of.ensures.nodes seen.locals in
    let x = c.in_err-claim-in-Formula.field-0.0 in
    let is = ap (λ ls. V.class (scope_with d.text.now d.known ls)) seen.locals ∙ sym seen.class ∙ ap class_in c.in-Formula.is in
    rw (p.1, p.2) (stops_before d c.args.typing.now env c.class_of.ensures.nodes seen.locals (λ sc. untested (V.class sc) V sc) x
    (raw_formula_stops d e mid (V.class (scope_at d mid)) is x c.in_err-claim-in-Formula.ensures))

pub untested_at-returns-in_ok-as_pattern-in-Formula : goal.untested_at-returns-in_ok-as_pattern-in-Formula
untested_at-returns-in_ok-as_pattern-in-Formula t c =
    let d = c.args.context.now in
    let e = c.args.expr.now in
    let V = part_of e in
    let env = c.class_of.new.environment in
    let seen = c.in_ok-class_of.ensures in
    let mid = looked d c.args.typing.now env c.class_of.ensures.nodes seen.locals in
    let n = c.in_ok-as_pattern-in-Formula.field-0 in
    let new = c.as_pattern.new.typing in
    let is = ap (λ ls. V.class (scope_with d.text.now d.known ls)) seen.locals ∙ sym seen.class ∙ ap class_in c.in-Formula.is in
    tree_before d c.args.typing.now env c.class_of.ensures.nodes seen.locals (λ sc. untested (V.class sc) V sc) new (Ok n)
    (tree_here d mid new (untested (V.class (scope_at d mid)) V) (λ sc. untested (V.class sc) V sc) refl (Ok n)
    (raw_formula d e mid (V.class (scope_at d mid)) is c.formula_of.new.typing new n c.in_ok-claim-in-Formula.claim c.in_ok-claim-in-Formula.ensures c.in_ok-as_pattern-in-Formula.ensures))

pub untested_at-returns-in_err-term_of-in-Either : goal.untested_at-returns-in_err-term_of-in-Either
untested_at-returns-in_err-term_of-in-Either t c =
    let p = err_from_is_err_and c.from_residual-in_err-term_of-in-Either.result c.from_residual-in_err-term_of-in-Either.ensures.1 in
    let d = c.args.context.now in
    let e = c.args.expr.now in
    let V = part_of e in
    let env = c.class_of.new.environment in
    let seen = c.in_ok-class_of.ensures in
    let mid = looked d c.args.typing.now env c.class_of.ensures.nodes seen.locals in
    let x = c.in_err-term_of-in-Either.field-0.0 in
    let is = ap (λ ls. V.class (scope_with d.text.now d.known ls)) seen.locals ∙ sym seen.class ∙ ap class_in c.in-Either.is in
    rw (p.1, p.2) (stops_before d c.args.typing.now env c.class_of.ensures.nodes seen.locals (λ sc. untested (V.class sc) V sc) x
    (raw_term_stops d e mid (V.class (scope_at d mid)) (λ f. either≢formula (sym is ∙ f)) x c.in_err-term_of-in-Either.ensures))

pub untested_at-returns-in_ok-term_of-in-Either : goal.untested_at-returns-in_ok-term_of-in-Either
untested_at-returns-in_ok-term_of-in-Either t c =
    let d = c.args.context.now in
    let e = c.args.expr.now in
    let V = part_of e in
    let env = c.class_of.new.environment in
    let seen = c.in_ok-class_of.ensures in
    let mid = looked d c.args.typing.now env c.class_of.ensures.nodes seen.locals in
    let u = c.in_ok-term_of-in-Either.field-0 in
    let new = c.term_of.new.typing in
    let is = ap (λ ls. V.class (scope_with d.text.now d.known ls)) seen.locals ∙ sym seen.class ∙ ap class_in c.in-Either.is in
    tree_before d c.args.typing.now env c.class_of.ensures.nodes seen.locals (λ sc. untested (V.class sc) V sc) new (Ok u.tree)
    (tree_here d mid new (untested (V.class (scope_at d mid)) V) (λ sc. untested (V.class sc) V sc) refl (Ok u.tree)
    (raw_term d e mid (V.class (scope_at d mid)) (λ f. either≢formula (sym is ∙ f)) new u c.in_ok-term_of-in-Either.ensures))

pub untested_at-returns-in_err-term_of-in-Term : goal.untested_at-returns-in_err-term_of-in-Term
untested_at-returns-in_err-term_of-in-Term t c =
    let p = err_from_is_err_and c.from_residual-in_err-term_of-in-Term.result c.from_residual-in_err-term_of-in-Term.ensures.1 in
    let d = c.args.context.now in
    let e = c.args.expr.now in
    let V = part_of e in
    let env = c.class_of.new.environment in
    let seen = c.in_ok-class_of.ensures in
    let mid = looked d c.args.typing.now env c.class_of.ensures.nodes seen.locals in
    let x = c.in_err-term_of-in-Term.field-0.0 in
    let is = ap (λ ls. V.class (scope_with d.text.now d.known ls)) seen.locals ∙ sym seen.class ∙ ap class_in c.in-Term.is in
    rw (p.1, p.2) (stops_before d c.args.typing.now env c.class_of.ensures.nodes seen.locals (λ sc. untested (V.class sc) V sc) x
    (raw_term_stops d e mid (V.class (scope_at d mid)) (λ f. term≢formula (sym is ∙ f)) x c.in_err-term_of-in-Term.ensures))

pub untested_at-returns-in_ok-term_of-in-Term : goal.untested_at-returns-in_ok-term_of-in-Term
untested_at-returns-in_ok-term_of-in-Term t c =
    let d = c.args.context.now in
    let e = c.args.expr.now in
    let V = part_of e in
    let env = c.class_of.new.environment in
    let seen = c.in_ok-class_of.ensures in
    let mid = looked d c.args.typing.now env c.class_of.ensures.nodes seen.locals in
    let u = c.in_ok-term_of-in-Term.field-0 in
    let new = c.term_of-in-Term.new.typing in
    let is = ap (λ ls. V.class (scope_with d.text.now d.known ls)) seen.locals ∙ sym seen.class ∙ ap class_in c.in-Term.is in
    tree_before d c.args.typing.now env c.class_of.ensures.nodes seen.locals (λ sc. untested (V.class sc) V sc) new (Ok u.tree)
    (tree_here d mid new (untested (V.class (scope_at d mid)) V) (λ sc. untested (V.class sc) V sc) refl (Ok u.tree)
    (raw_term d e mid (V.class (scope_at d mid)) (λ f. term≢formula (sym is ∙ f)) new u c.in_ok-term_of-in-Term.ensures))

pub all_wanted-wanted_at-requires : goal.all_wanted-wanted_at-requires
all_wanted-wanted_at-requires t c =
    let es = c.args.exprs.now in
    let e = c.index-exprs-place.result in
    let i = c.loop-place.place in
    let within : i < length es = omega (arith, c.loop-place-test.true) in
    let falls : 8 * size-Expr e + 3 < 8 * most size-Expr es + 4 = omega (arith, most_at size-Expr es i e within c.index-exprs-place.is) in
    (subst (λ n. 8 * size-Expr e + 3 < n) c.decreases falls, all_at (AreNamed c.args.context.now.text.now) es i e c.requires.names (slice_get-get_or es i e within ∙ ap Some (sym c.index-exprs-place.is)))

pub all_wanted-returns-in_err-tree : goal.all_wanted-returns-in_err-tree
all_wanted-returns-in_err-tree t c =
    let p = err_from_is_err_and c.from_residual.result c.from_residual.ensures.1 in
    let l = c.loop-place in
    let within : l.place < length c.args.exprs.now = omega (arith, c.loop-place-test.true) in
    let fits : l.place < length c.args.sorts.now = omega (arith, within, c.requires.count) in
    rw (p.1, p.2) (wants_stop c.args.context.now c.args.sorts.now c.args.exprs.now c.args.typing.now l.typing l.trees l.place c.index-sorts-place.result c.index-exprs-place.result fits within c.index-sorts-place.is c.index-exprs-place.is l.invariant c.in_err-tree.field-0.0 c.in_err-tree.ensures)

pub all_wanted-loop-place-preserved : goal.all_wanted-loop-place-preserved
all_wanted-loop-place-preserved t c =
    let l = c.loop-place in
    let a = c.in_ok-tree.ensures in
    let within : l.place < length c.args.exprs.now = omega (arith, c.loop-place-test.true) in
    let fits : l.place < length c.args.sorts.now = omega (arith, within, c.requires.count) in
    wants_next c.args.context.now c.args.sorts.now c.args.exprs.now c.args.typing.now l.typing l.trees l.place c.index-sorts-place.result c.index-exprs-place.result fits within c.index-sorts-place.is c.index-exprs-place.is l.invariant c.wanted_at.new.typing c.in_ok-tree.tree a.tree c.push.new.self a.walks a.stands c.in_ok-push.ensures.ok

pub application-all_wanted-requires : goal.application-all_wanted-requires
application-all_wanted-requires t c =
    let args = c.args.args.now in
    let x = c.in-Some.entry.now in
    let ss = c.in_ok-sorts.sorts in
    let many : length args ≡ length x.args = omega (arith, c.if-args-len.false, c.len.ensures) in
    let put : c.as_slice-3.result.now ≡ map (put_sort ss) x.args = c.as_slice-3.ensures ∙ c.in_ok-wanted.ensures ∙ ap (λ (zs : List Sort). map (put_sort zs) c.as_slice.result.now) c.as_slice-2.ensures ∙ ap (λ (zs : List Sort). map (put_sort ss) zs) c.as_slice.ensures in
    (subst (λ n. 8 * most size-Expr args + 4 < n) c.decreases (omega arith), (ap length put ∙ length-map x.args (put_sort ss) ∙ sym many, c.requires.args))

-- ---- what calls require: their parts are smaller, and their names stand in the text
pub binary_term-calculated-requires : goal.binary_term-calculated-requires
binary_term-calculated-requires t c = (subst (λ n. 8 * max (size-Expr c.args.left.now) (size-Expr c.args.right.now) + 6 < n) c.decreases (omega arith), (c.requires.left, c.requires.right))

pub binary_term-equation-requires : goal.binary_term-equation-requires
binary_term-equation-requires t c = (subst (λ n. 8 * max (size-Expr c.args.left.now) (size-Expr c.args.right.now) + 5 < n) c.decreases (omega arith), (c.requires.left, c.requires.right))

pub binary_term-inequality-requires : goal.binary_term-inequality-requires
binary_term-inequality-requires t c = (subst (λ n. 8 * max (size-Expr c.args.left.now) (size-Expr c.args.right.now) + 6 < n) c.decreases (omega arith), (c.requires.left, c.requires.right))

pub binary_term-connected-requires : goal.binary_term-connected-requires
binary_term-connected-requires t c = (subst (λ n. 8 * max (size-Expr c.args.left.now) (size-Expr c.args.right.now) + 5 < n) c.decreases (omega arith), (c.requires.left, c.requires.right))

pub bind-bind_formula-requires : goal.bind-bind_formula-requires
bind-bind_formula-requires t c = (subst (λ n. 8 * size-Expr c.args.value.now + 5 < n) c.decreases (omega arith), (c.requires.name, c.requires.value))

pub bind-bind_term-requires : goal.bind-bind_term-requires
bind-bind_term-requires t c = (subst (λ n. 8 * size-Expr c.args.value.now + 5 < n) c.decreases (omega arith), (c.requires.name, c.requires.value))

pub bind-bind_term-requires-in-Term : goal.bind-bind_term-requires-in-Term
bind-bind_term-requires-in-Term t c = (subst (λ n. 8 * size-Expr c.args.value.now + 5 < n) c.decreases (omega arith), (c.requires.name, c.requires.value))

pub bind_formula-formula_of-requires : goal.bind_formula-formula_of-requires
bind_formula-formula_of-requires t c = (subst (λ n. 8 * size-Expr c.args.value.now + 4 < n) c.decreases (omega arith), c.requires.value)

pub bind_term-term_of-requires : goal.bind_term-term_of-requires
bind_term-term_of-requires t c = (subst (λ n. 8 * size-Expr c.args.value.now + 2 < n) c.decreases (omega arith), c.requires.value)

pub calculated-operands-requires : goal.calculated-operands-requires
calculated-operands-requires t c = (subst (λ n. 8 * max (size-Expr c.args.left.now) (size-Expr c.args.right.now) + 5 < n) c.decreases (omega arith), (c.requires.left, c.requires.right))

pub choice-formula_of-requires : goal.choice-formula_of-requires
choice-formula_of-requires t c = (subst (λ n. 8 * size-Expr c.args.condition.now + 4 < n) c.decreases (omega arith), c.requires.condition)

pub choice-term_of-requires : goal.choice-term_of-requires
choice-term_of-requires t c = (subst (λ n. 8 * size-Expr c.args.positive.now + 2 < n) c.decreases (omega arith), c.requires.positive)

pub choice-wanted_at-requires : goal.choice-wanted_at-requires
choice-wanted_at-requires t c = (subst (λ n. 8 * size-Expr c.args.negative.now + 3 < n) c.decreases (omega arith), c.requires.negative)

pub conditional-formula_of-requires : goal.conditional-formula_of-requires
conditional-formula_of-requires t c = (subst (λ n. 8 * size-Expr c.args.condition.now + 4 < n) c.decreases (omega arith), c.requires.condition)

pub conditional-formula_of-requires-2 : goal.conditional-formula_of-requires-2
conditional-formula_of-requires-2 t c = (subst (λ n. 8 * size-Expr c.args.positive.now + 4 < n) c.decreases (omega arith), c.requires.positive)

pub conditional-formula_of-requires-3 : goal.conditional-formula_of-requires-3
conditional-formula_of-requires-3 t c = (subst (λ n. 8 * size-Expr c.args.negative.now + 4 < n) c.decreases (omega arith), c.requires.negative)

pub connected-formula_of-requires : goal.connected-formula_of-requires
connected-formula_of-requires t c = (subst (λ n. 8 * size-Expr c.args.left.now + 4 < n) c.decreases (omega arith), c.requires.left)

pub connected-formula_of-requires-2 : goal.connected-formula_of-requires-2
connected-formula_of-requires-2 t c = (subst (λ n. 8 * size-Expr c.args.right.now + 4 < n) c.decreases (omega arith), c.requires.right)

pub equation-term_of-requires : goal.equation-term_of-requires
equation-term_of-requires t c = (subst (λ n. 8 * size-Expr c.args.left.now + 2 < n) c.decreases (omega arith), c.requires.left)

pub equation-wanted_at-requires : goal.equation-wanted_at-requires
equation-wanted_at-requires t c = (subst (λ n. 8 * size-Expr c.args.right.now + 3 < n) c.decreases (omega arith), c.requires.right)

pub field_of-term_of-requires : goal.field_of-term_of-requires
field_of-term_of-requires t c = (subst (λ n. 8 * size-Expr c.args.base.now + 2 < n) c.decreases (omega arith), c.requires.base)

pub formula_of-formula_at-requires : goal.formula_of-formula_at-requires
formula_of-formula_at-requires t c = (subst (λ n. 8 * size-Expr c.args.expr.now + 3 < n) c.decreases (omega arith), c.requires.names)

pub function-application-requires : goal.function-application-requires
function-application-requires t c = (subst (λ n. 8 * most size-Expr c.args.args.now + 5 < n) c.decreases (omega arith), c.requires.args)

pub predicate-application-requires : goal.predicate-application-requires
predicate-application-requires t c = (subst (λ n. 8 * most size-Expr c.args.args.now + 5 < n) c.decreases (omega arith), c.requires.args)

pub inequality-operands-requires : goal.inequality-operands-requires
inequality-operands-requires t c = (subst (λ n. 8 * max (size-Expr c.args.left.now) (size-Expr c.args.right.now) + 5 < n) c.decreases (omega arith), (c.requires.left, c.requires.right))

pub let_formula-bind-requires : goal.let_formula-bind-requires
let_formula-bind-requires t c = (subst (λ n. 8 * size-Expr c.args.value.now + 6 < n) c.decreases (omega arith), (c.requires.name, c.requires.value))

pub let_formula-formula_at-requires : goal.let_formula-formula_at-requires
let_formula-formula_at-requires t c = (subst (λ n. 8 * size-Expr c.args.body.now + 3 < n) c.decreases (omega arith), c.requires.body)

pub let_term-bind-requires : goal.let_term-bind-requires
let_term-bind-requires t c = (subst (λ n. 8 * size-Expr c.args.value.now + 6 < n) c.decreases (omega arith), (c.requires.name, c.requires.value))

pub let_term-term_of-requires : goal.let_term-term_of-requires
let_term-term_of-requires t c = (subst (λ n. 8 * size-Expr c.args.body.now + 2 < n) c.decreases (omega arith), c.requires.body)

pub name_formula-function-requires : goal.name_formula-function-requires
name_formula-function-requires t c = (subst (λ n. 8 * most size-Expr c.args.args.now + 6 < n) c.decreases (omega arith), c.requires.args)

pub name_formula-predicate-requires : goal.name_formula-predicate-requires
name_formula-predicate-requires t c = (subst (λ n. 8 * most size-Expr c.args.args.now + 6 < n) c.decreases (omega arith), c.requires.args)

pub name_term-function-requires : goal.name_term-function-requires
name_term-function-requires t c = (subst (λ n. 8 * most size-Expr c.args.args.now + 6 < n) c.decreases (omega arith), c.requires.args)

pub name_term-predicate-requires : goal.name_term-predicate-requires
name_term-predicate-requires t c = (subst (λ n. 8 * most size-Expr c.args.args.now + 6 < n) c.decreases (omega arith), c.requires.args)

pub negation-formula_of-requires : goal.negation-formula_of-requires
negation-formula_of-requires t c = (subst (λ n. 8 * size-Expr c.args.inner.now + 4 < n) c.decreases (omega arith), c.requires.names)

pub operands-term_of-requires : goal.operands-term_of-requires
operands-term_of-requires t c = (subst (λ n. 8 * size-Expr c.args.left.now + 2 < n) c.decreases (omega arith), c.requires.left)

pub operands-term_of-requires-2 : goal.operands-term_of-requires-2
operands-term_of-requires-2 t c = (subst (λ n. 8 * size-Expr c.args.right.now + 2 < n) c.decreases (omega arith), c.requires.right)

pub opposite-term_of-requires : goal.opposite-term_of-requires
opposite-term_of-requires t c = (subst (λ n. 8 * size-Expr c.args.inner.now + 2 < n) c.decreases (omega arith), c.requires.names)

pub pattern_at-untested_at-requires : goal.pattern_at-untested_at-requires
pattern_at-untested_at-requires t c = (subst (λ n. 8 * size-Expr c.args.expr.now + 5 < n) c.decreases (omega arith), c.requires.names)

pub record_at-all_values-requires : goal.record_at-all_values-requires
record_at-all_values-requires t c = (subst (λ n. 8 * most size-Setting c.args.settings.now + 4 < n) c.decreases (omega arith), c.requires.names)

pub term_of-term_at-requires : goal.term_of-term_at-requires
term_of-term_at-requires t c = (subst (λ n. 8 * size-Expr c.args.expr.now + 1 < n) c.decreases (omega arith), c.requires.names)

pub truth-term_at-requires : goal.truth-term_at-requires
truth-term_at-requires t c = (subst (λ n. 8 * size-Expr c.args.expr.now + 1 < n) c.decreases (omega arith), c.requires.names)

pub untested_at-formula_of-requires : goal.untested_at-formula_of-requires
untested_at-formula_of-requires t c = (subst (λ n. 8 * size-Expr c.args.expr.now + 4 < n) c.decreases (omega arith), c.requires.names)

pub untested_at-term_of-requires : goal.untested_at-term_of-requires
untested_at-term_of-requires t c = (subst (λ n. 8 * size-Expr c.args.expr.now + 2 < n) c.decreases (omega arith), c.requires.names)

pub untested_at-term_of-requires-in-Term : goal.untested_at-term_of-requires-in-Term
untested_at-term_of-requires-in-Term t c = (subst (λ n. 8 * size-Expr c.args.expr.now + 2 < n) c.decreases (omega arith), c.requires.names)

pub update_at-term_of-requires : goal.update_at-term_of-requires
update_at-term_of-requires t c = (subst (λ n. 8 * size-Expr c.args.base.now + 2 < n) c.decreases (omega arith), c.requires.base)

pub update_at-all_values-requires : goal.update_at-all_values-requires
update_at-all_values-requires t c = (subst (λ n. 8 * most size-Setting c.args.settings.now + 4 < n) c.decreases (omega arith), c.requires.names)

pub wanted_at-term_of-requires : goal.wanted_at-term_of-requires
wanted_at-term_of-requires t c = (subst (λ n. 8 * size-Expr c.args.expr.now + 2 < n) c.decreases (omega arith), c.requires.names)

pub with_sort-term_of-requires : goal.with_sort-term_of-requires
with_sort-term_of-requires t c = (subst (λ n. 8 * size-Expr c.args.body.now + 2 < n) c.decreases (omega arith), c.requires.names)

pub block-all_triggers-requires : goal.block-all_triggers-requires
block-all_triggers-requires t c = (subst (λ n. 8 * most size-Trigger c.args.triggers.now + 4 < n) c.decreases (omega arith), c.requires.triggers)

pub block-formula_at-requires : goal.block-formula_at-requires
block-formula_at-requires t c = (subst (λ n. 8 * size-Expr c.args.body.now + 3 < n) c.decreases (omega arith), c.requires.body)

pub formula_at-truth-requires : goal.formula_at-truth-requires
formula_at-truth-requires t c = (subst (λ n. 8 * size-Expr c.args.expr.now + 2 < n) c.decreases (omega arith), c.requires.names)

pub formula_at-truth-requires-in-Negative : goal.formula_at-truth-requires-in-Negative
formula_at-truth-requires-in-Negative t c = (subst (λ n. 8 * size-Expr c.args.expr.now + 2 < n) c.decreases (omega arith), c.requires.names)

pub formula_at-truth-requires-in-Numeral : goal.formula_at-truth-requires-in-Numeral
formula_at-truth-requires-in-Numeral t c = (subst (λ n. 8 * size-Expr c.args.expr.now + 2 < n) c.decreases (omega arith), c.requires.names)

pub formula_at-truth-requires-in-Void : goal.formula_at-truth-requires-in-Void
formula_at-truth-requires-in-Void t c = (subst (λ n. 8 * size-Expr c.args.expr.now + 2 < n) c.decreases (omega arith), c.requires.names)

pub formula_at-truth-requires-in-Ascribed : goal.formula_at-truth-requires-in-Ascribed
formula_at-truth-requires-in-Ascribed t c = (subst (λ n. 8 * size-Expr c.args.expr.now + 2 < n) c.decreases (omega arith), c.requires.names)

pub formula_at-truth-requires-in-Field : goal.formula_at-truth-requires-in-Field
formula_at-truth-requires-in-Field t c = (subst (λ n. 8 * size-Expr c.args.expr.now + 2 < n) c.decreases (omega arith), c.requires.names)

pub formula_at-truth-requires-in-Record : goal.formula_at-truth-requires-in-Record
formula_at-truth-requires-in-Record t c = (subst (λ n. 8 * size-Expr c.args.expr.now + 2 < n) c.decreases (omega arith), c.requires.names)

pub formula_at-truth-requires-in-Update : goal.formula_at-truth-requires-in-Update
formula_at-truth-requires-in-Update t c = (subst (λ n. 8 * size-Expr c.args.expr.now + 2 < n) c.decreases (omega arith), c.requires.names)

pub bind-class_of-requires : goal.bind-class_of-requires
bind-class_of-requires t c = record { names = c.requires.value }

pub untested_at-class_of-requires : goal.untested_at-class_of-requires
untested_at-class_of-requires t c = record { names = c.requires.names }

pub block-variables-requires : goal.block-variables-requires
block-variables-requires t c = record { names = c.requires.groups }

pub with_sort-ascribed-requires : goal.with_sort-ascribed-requires
with_sort-ascribed-requires t c = record { names = c.requires.sort }

pub field_of-selected-requires : goal.field_of-selected-requires
field_of-selected-requires t c = record { name = c.requires.field }

pub name_term-stands_for-requires : goal.name_term-stands_for-requires
name_term-stands_for-requires t c = record { name = c.requires.name }

pub name_formula-stands_for-requires : goal.name_formula-stands_for-requires
name_formula-stands_for-requires t c = record { name = c.requires.name }

pub name_term-bound_term-requires : goal.name_term-bound_term-requires
name_term-bound_term-requires t c =
    let d = c.args.context.now in
    let old = c.args.typing.now in
    record { stands = (subst (IsNamed (nodes_of old) d.known (meaning_of (scope_at d old) (name_in d.text.now c.args.name))) c.in-Bound.is c.in_ok-meaning.ensures).0 }

pub name_formula-bound_formula-requires : goal.name_formula-bound_formula-requires
name_formula-bound_formula-requires t c =
    let d = c.args.context.now in
    let old = c.args.typing.now in
    record { stands = (subst (IsNamed (nodes_of old) d.known (meaning_of (scope_at d old) (name_in d.text.now c.args.name))) c.in-Bound.is c.in_ok-meaning.ensures).0 }

-- ---- terms that differ
pub different-returns-in_default : goal.different-returns-in_default
different-returns-in_default t c =
    differ_none c.args.context.now c.args.exprs.now c.args.typing.now c.push_node.new.typing c.new-trees.result c.in_ok-push_node.field-0 (nil_from_length c.args.exprs.now (MatchOption-at_none _ _ c.in_default.is c.split_first.ensures.cases)) c.new-trees.ensures c.in_ok-push_node.ensures

pub different-term_of-requires : goal.different-term_of-requires
different-term_of-requires t c =
    let a = c.in-Some.first.now in
    let es = c.in-Some.others.now in
    let split : c.args.exprs.now ≡ a ∷ es = c.in-Some.ensures.cases.0 in
    let falls : 8 * size-Expr a + 2 < 8 * most size-Expr (a ∷ es) + 4 = omega (arith, most_at size-Expr (a ∷ es) 0 a (omega arith) refl) in
    (subst (λ n. 8 * size-Expr a + 2 < n) c.decreases (subst (λ (zs : List Expr). 8 * size-Expr a + 2 < 8 * most size-Expr zs + 4) (sym split) falls), (subst (AllByRecursion (AreNamed c.args.context.now.text.now)) split c.requires.names).0)

pub different-wanted_at-requires : goal.different-wanted_at-requires
different-wanted_at-requires t c =
    let a = c.in-Some.first.now in
    let es = c.in-Some.others.now in
    let e = c.other-item.result in
    let i = c.loop-other.other-index in
    let split : c.args.exprs.now ≡ a ∷ es = c.in-Some.ensures.cases.0 in
    let falls : 8 * size-Expr e + 3 < 8 * most size-Expr (a ∷ es) + 4 = omega (arith, most_at size-Expr (a ∷ es) (suc i) e (omega (arith, c.loop-other-test.true)) c.other-item.is) in (
      subst (λ n. 8 * size-Expr e + 3 < n) c.decreases (subst (λ (zs : List Expr). 8 * size-Expr e + 3 < 8 * most size-Expr zs + 4) (sym split) falls),
      all_at (AreNamed c.args.context.now.text.now) es i e (subst (AllByRecursion (AreNamed c.args.context.now.text.now)) split c.requires.names).1 (slice_get-get_or es i e c.loop-other-test.true ∙ ap Some (sym c.other-item.is)),
    )

pub different-returns-in_err-found : goal.different-returns-in_err-found
different-returns-in_err-found t c =
    let p = err_from_is_err_and c.from_residual-in_err-found.result c.from_residual-in_err-found.ensures.1 in
    let d = c.args.context.now in
    let a = c.in-Some.first.now in
    let es = c.in-Some.others.now in
    let split : c.args.exprs.now ≡ a ∷ es = c.in-Some.ensures.cases.0 in
    let x = c.in_err-found.field-0.0 in
    rw (p.1, p.2) (subst (λ (zs : List Expr). Stops d (λ sc. distinct_rule (map part_of zs) sc) c.args.typing.now x) (sym split) (different_first d a es c.args.typing.now x c.in_err-found.ensures))

pub different-loop-other-init : goal.different-loop-other-init
different-loop-other-init t c =
    let a = c.in-Some.first.now in
    let es = c.in-Some.others.now in
    let f = c.in_ok-found.ensures in
    let n = c.in_ok-found.found.tree in
    (a, c.in-Some.ensures.cases.0, differ_start c.args.context.now a es c.args.typing.now c.in_ok-found.found.sort c.term_of.new.typing f.tree n c.push.new.self f.walks f.stands (c.in_ok-push.ensures.ok ∙ ap (λ (ns : List ℕ). ns ++ n ∷ []) c.new-trees.ensures))

pub different-returns-in_err-tree : goal.different-returns-in_err-tree
different-returns-in_err-tree t c =
    let p = err_from_is_err_and c.from_residual-in_err-tree.result c.from_residual-in_err-tree.ensures.1 in
    let d = c.args.context.now in
    let l = c.loop-other in
    let a = l.invariant.0 in
    let es = c.in-Some.others.now in
    let split : c.args.exprs.now ≡ a ∷ es = l.invariant.1 in
    let x = c.in_err-tree.field-0.0 in
    rw (p.1, p.2) (subst (λ (zs : List Expr). Stops d (λ sc. distinct_rule (map part_of zs) sc) c.args.typing.now x) (sym split)
    (differ_stop d a es c.args.typing.now c.in_ok-found.found.sort l.typing l.trees l.other-index c.other-item.result c.loop-other-test.true c.other-item.is l.invariant.2 x c.in_err-tree.ensures))

pub different-loop-other-preserved : goal.different-loop-other-preserved
different-loop-other-preserved t c =
    let l = c.loop-other in
    let a = l.invariant.0 in
    let es = c.in-Some.others.now in
    let b = c.in_ok-tree.ensures in
    (a, l.invariant.1, differ_next c.args.context.now a es c.args.typing.now c.in_ok-found.found.sort l.typing l.trees l.other-index c.other-item.result c.loop-other-test.true c.other-item.is l.invariant.2 c.wanted_at.new.typing c.in_ok-tree.tree b.tree c.push-in-loop-other.new.self b.walks b.stands c.in_ok-push-2.ensures.ok)

pub different-returns : goal.different-returns
different-returns t c =
    let d = c.args.context.now in
    let l = c.loop-other in
    let a = l.invariant.0 in
    let es = c.in-Some.others.now in
    let n = c.in_ok-push_node-2.field-0 in
    let new = c.push_node-2.new.typing in
    let split : c.args.exprs.now ≡ a ∷ es = l.invariant.1 in
    subst (λ (zs : List Expr). TypesClaim d (λ sc. distinct_rule (map part_of zs) sc) c.args.typing.now new n) (sym split)
    (differ_whole d a es c.args.typing.now c.in_ok-found.found.sort l.typing new l.trees l.other-index n (omega (arith, c.loop-other-test.false)) l.invariant.2 c.in_ok-push_node-2.ensures)

-- ---- applications
pub application-returns-in_default : goal.application-returns-in_default
application-returns-in_default t c e is =
    absurd (none-some e (c.in_default.ensures.value ∙ ap (λ (g : Signature). slice_get g.symbols c.args.number) c.signature.ensures ∙ is))

pub application-returns-then-args-len : goal.application-returns-then-args-len
application-returns-then-args-len t c e is =
    let d = c.args.context.now in
    let x = c.in-Some.entry.now in
    let old = c.args.typing.now in
    let name = c.args.name in
    let args = c.args.args.now in
    let same = entry_is c.signature.result.now d.known c.args.number x e c.in-Some.ensures.value c.signature.ensures is in
    subst (λ (y : TypeFault). Stops d (λ sc. application_rule name e (map part_of args) sc) old y) (sym c.wrong_count-then-args-len.ensures) (subst (λ (z : SymbolEntry). Stops d (λ sc. application_rule name z (map part_of args) sc) old (fault.Arity name.from name.to)) same (apply_count d name x args old (λ l. absurd (omega (arith, l, c.if-args-len.true, c.len.ensures)))))

pub application-returns-in_err-trees : goal.application-returns-in_err-trees
application-returns-in_err-trees t c e is =
    let p = err_from_is_err_and c.from_residual-in_err-trees.result c.from_residual-in_err-trees.ensures.1 in
    let d = c.args.context.now in
    let x = c.in-Some.entry.now in
    let old = c.args.typing.now in
    let name = c.args.name in
    let args = c.args.args.now in
    let q = c.unknowns.new.passing in
    let ss = c.in_ok-sorts.sorts in
    let y = c.in_err-trees.field-0.0 in
    let same = entry_is c.signature.result.now d.known c.args.number x e c.in-Some.ensures.value c.signature.ensures is in
    let many : length args ≡ length x.args = omega (arith, c.if-args-len.false, c.len.ensures) in
    let put : c.as_slice-3.result.now ≡ map (put_sort ss) x.args = c.as_slice-3.ensures ∙ c.in_ok-wanted.ensures ∙ ap (λ (zs : List Sort). map (put_sort zs) c.as_slice.result.now) c.as_slice-2.ensures ∙ ap (λ (zs : List Sort). map (put_sort ss) zs) c.as_slice.ensures in
    rw (p.1, p.2) (subst (λ (z : SymbolEntry). Stops d (λ sc. application_rule name z (map part_of args) sc) old y) same
    (apply_stops d name x args old many q ss c.in_ok-sorts.ensures y
    (subst (λ (zs : List Sort). Stops d (λ sc. all_wanted sc zs (map part_of args)) (with_passing q old) y) put c.in_err-trees.ensures)))

pub application-returns : goal.application-returns
application-returns t c e is =
    let d = c.args.context.now in
    let x = c.in-Some.entry.now in
    let old = c.args.typing.now in
    let name = c.args.name in
    let args = c.args.args.now in
    let q = c.unknowns.new.passing in
    let ss = c.in_ok-sorts.sorts in
    let new = c.all_wanted.new.typing in
    let ns = c.in_ok-trees.trees in
    let same = entry_is c.signature.result.now d.known c.args.number x e c.in-Some.ensures.value c.signature.ensures is in
    let many : length args ≡ length x.args = omega (arith, c.if-args-len.false, c.len.ensures) in
    let put : c.as_slice-3.result.now ≡ map (put_sort ss) x.args = c.as_slice-3.ensures ∙ c.in_ok-wanted.ensures ∙ ap (λ (zs : List Sort). map (put_sort zs) c.as_slice.result.now) c.as_slice-2.ensures ∙ ap (λ (zs : List Sort). map (put_sort ss) zs) c.as_slice.ensures in
    subst (λ (z : SymbolEntry). TypesApplied d (λ sc. application_rule name z (map part_of args) sc) old new (record { sorts = ss; args = ns })) same
    (apply_done d name x args old many q ss c.in_ok-sorts.ensures new ns
    (subst (λ (zs : List Sort). TypesTrees d (λ sc. all_wanted sc zs (map part_of args)) (with_passing q old) new ns) put c.in_ok-trees.ensures))

-- ---- records
pub record_at-returns-in_default : goal.record_at-returns-in_default
record_at-returns-in_default t c =
    let d = c.args.context.now in
    let none : c.args.settings.now ≡ [] = nil_from_length c.args.settings.now (MatchOption-at_none _ _ c.in_default.is c.split_first.ensures.cases) in
    subst (λ (zs : List Setting). TypesTerm d (λ sc. record_rule c.args.own (map set_of zs) sc) c.args.typing.now c.constant.new.typing c.in_ok-constant.field-0) (sym none) (c.in_ok-constant.ensures d)

pub record_at-field_at-requires : goal.record_at-field_at-requires
record_at-field_at-requires t c =
    let text = c.args.context.now.text.now in
    let s = c.in-Some.first.now in
    let split : c.args.settings.now ≡ s ∷ c.in-Some._others.now = c.in-Some.ensures.cases.0 in
    record { name = (named_setting (IsName text) s (subst (AllByRecursion (AreSetNamed text)) split c.requires.names).0).0 }

pub record_at-returns-in_err-of : goal.record_at-returns-in_err-of
record_at-returns-in_err-of t c =
    let p = err_from_is_err_and c.from_residual-in_err-of.result c.from_residual-in_err-of.ensures.1 in
    let d = c.args.context.now in
    let s = c.in-Some.first.now in
    let others = c.in-Some._others.now in
    let split : c.args.settings.now ≡ s ∷ others = c.in-Some.ensures.cases.0 in
    let x = c.in_err-of.field-0.0 in
    rw (p.1, p.2) (subst (λ (zs : List Setting). Stops d (λ sc. record_rule c.args.own (map set_of zs) sc) c.args.typing.now x) (sym split)
    (record_missing d c.args.own s others c.args.typing.now c.in_err-of.ensures.missing x c.in_err-of.ensures.fault))

pub record_at-returns-in_err-values : goal.record_at-returns-in_err-values
record_at-returns-in_err-values t c =
    let p = err_from_is_err_and c.from_residual-in_err-values.result c.from_residual-in_err-values.ensures.1 in
    let d = c.args.context.now in
    let own = c.args.own in
    let s = c.in-Some.first.now in
    let others = c.in-Some._others.now in
    let old = c.args.typing.now in
    let split : c.args.settings.now ≡ s ∷ others = c.in-Some.ensures.cases.0 in
    let f = c.in_ok-of.field-0 in
    let q = c.unknowns.new.passing in
    let ss = c.in_ok-sorts.sorts in
    let x = c.in_err-values.field-0.0 in
    let taken = subst (λ (n : ℕ). IsTaken (unknowns n) old.passing q ss) (c.arity_at-count.ensures ∙ ap (λ (g : Signature). arity_at g f.of) c.signature.ensures) c.in_ok-sorts.ensures in
    rw (p.1, p.2) (subst (λ (zs : List Setting). Stops d (λ sc. record_rule own (map set_of zs) sc) old x) (sym split)
    (record_stops d own s others old f c.in_ok-of.ensures.found q ss taken x
    (subst (λ (zs : List Setting). Stops d (λ sc. values_rule own f.of ss [] (map set_of zs) sc) (with_passing q old) x) split
    (subst (λ (ks : List Sort). Stops d (λ sc. values_rule own f.of ks [] (map set_of c.args.settings.now) sc) (with_passing q old) x) c.as_slice.ensures c.in_err-values.ensures))))

pub record_at-returns : goal.record_at-returns
record_at-returns t c =
    let d = c.args.context.now in
    let own = c.args.own in
    let s = c.in-Some.first.now in
    let others = c.in-Some._others.now in
    let old = c.args.typing.now in
    let split : c.args.settings.now ≡ s ∷ others = c.in-Some.ensures.cases.0 in
    let f = c.in_ok-of.field-0 in
    let q = c.unknowns.new.passing in
    let ss = c.in_ok-sorts.sorts in
    let mid = c.all_values.new.typing in
    let new = c.built.new.typing in
    let vs = c.in_ok-values.values in
    let taken = subst (λ (n : ℕ). IsTaken (unknowns n) old.passing q ss) (c.arity_at-count.ensures ∙ ap (λ (g : Signature). arity_at g f.of) c.signature.ensures) c.in_ok-sorts.ensures in
    let v = subst (λ (zs : List Setting). TypesValues d (λ sc. values_rule own f.of ss [] (map set_of zs) sc) (with_passing q old) mid vs) split
    (subst (λ (ks : List Sort). TypesValues d (λ sc. values_rule own f.of ks [] (map set_of c.args.settings.now) sc) (with_passing q old) mid vs) c.as_slice.ensures c.in_ok-values.ensures) in
    subst (λ (zs : List Setting). TermAnswer d (λ sc. record_rule own (map set_of zs) sc) old new c.built.result) (sym split)
    (record_done d own s others old f c.in_ok-of.ensures.found q ss taken mid new vs v c.built.result (c.built.ensures v.terms v.stand))

-- ---- records of which some fields are changed
pub update_at-returns-in_err-old : goal.update_at-returns-in_err-old
update_at-returns-in_err-old t c =
    let p = err_from_is_err_and c.from_residual.result c.from_residual.ensures.1 in
    rw (p.1, p.2) (update_first c.args.context.now c.args.own c.args.base.now c.args.typing.now c.args.settings.now c.in_err-old.field-0.0 c.in_err-old.ensures)

pub update_at-returns-in_default : goal.update_at-returns-in_default
update_at-returns-in_default t c =
    let d = c.args.context.now in
    let u = c.in_ok-old.ensures in
    let new = c.constant.new.typing in
    let r = c.in_ok-constant.field-0 in
    let none : c.args.settings.now ≡ [] = nil_from_length c.args.settings.now (MatchOption-at_none _ _ c.in_default.is c.split_first.ensures.cases) in
    subst (λ (zs : List Setting). TypesTerm d (λ sc. update_rule c.args.own (part_of c.args.base.now) (map set_of zs) sc) c.args.typing.now new r) (sym none)
    (update_empty d c.args.own c.args.base.now c.args.typing.now c.term_of.new.typing u.tree c.in_ok-old.old.sort u.walks new (Ok r) (c.in_ok-constant.ensures d))

pub update_at-field_at-requires : goal.update_at-field_at-requires
update_at-field_at-requires t c =
    let text = c.args.context.now.text.now in
    let s = c.in-Some.first.now in
    let split : c.args.settings.now ≡ s ∷ c.in-Some._others.now = c.in-Some.ensures.cases.0 in
    record { name = (named_setting (IsName text) s (subst (AllByRecursion (AreSetNamed text)) split c.requires.names).0).0 }

pub update_at-returns-in_err-of : goal.update_at-returns-in_err-of
update_at-returns-in_err-of t c =
    let p = err_from_is_err_and c.from_residual-in_err-of.result c.from_residual-in_err-of.ensures.1 in
    let d = c.args.context.now in
    let s = c.in-Some.first.now in
    let others = c.in-Some._others.now in
    let u = c.in_ok-old.ensures in
    let split : c.args.settings.now ≡ s ∷ others = c.in-Some.ensures.cases.0 in
    let x = c.in_err-of.field-0.0 in
    rw (p.1, p.2) (subst (λ (zs : List Setting). Stops d (λ sc. update_rule c.args.own (part_of c.args.base.now) (map set_of zs) sc) c.args.typing.now x) (sym split)
    (update_missing d c.args.own c.args.base.now c.args.typing.now c.term_of.new.typing u.tree c.in_ok-old.old.sort u.walks s others c.in_err-of.ensures.missing x c.in_err-of.ensures.fault))

pub update_at-returns-in_err-is_record : goal.update_at-returns-in_err-is_record
update_at-returns-in_err-is_record t c =
    let p = err_from_is_err_and c.from_residual-in_err-is_record.result c.from_residual-in_err-is_record.ensures.1 in
    let d = c.args.context.now in
    let s = c.in-Some.first.now in
    let others = c.in-Some._others.now in
    let u = c.in_ok-old.ensures in
    let k = c.in_ok-old.old.sort in
    let mid = c.term_of.new.typing in
    let split : c.args.settings.now ≡ s ∷ others = c.in-Some.ensures.cases.0 in
    let f = c.in_ok-of.field-0 in
    let q = c.unknowns.new.passing in
    let ss = c.in_ok-sorts.sorts in
    let x = c.in_err-is_record.field-0.0 in
    let taken = subst (λ (n : ℕ). IsTaken (unknowns n) mid.passing q ss) (c.arity_at-count.ensures ∙ ap (λ (g : Signature). arity_at g f.of) c.signature.ensures) c.in_ok-sorts.ensures in
    rw (p.1, p.2) (subst (λ (zs : List Setting). Stops d (λ sc. update_rule c.args.own (part_of c.args.base.now) (map set_of zs) sc) c.args.typing.now x) (sym split)
    (update_other d c.args.own c.args.base.now c.args.typing.now mid u.tree k u.walks s others f c.in_ok-of.ensures.found q ss taken x
    (subst (λ (ks : List Sort). IsNotMet (has_sort c.args.base.now.span (Named f.of ks) k) (bound mid.bindings) x) c.as_slice.ensures c.in_err-is_record.ensures.fault)))

pub update_at-returns-in_err-values : goal.update_at-returns-in_err-values
update_at-returns-in_err-values t c =
    let p = err_from_is_err_and c.from_residual-in_err-values.result c.from_residual-in_err-values.ensures.1 in
    let d = c.args.context.now in
    let own = c.args.own in
    let s = c.in-Some.first.now in
    let others = c.in-Some._others.now in
    let u = c.in_ok-old.ensures in
    let k = c.in_ok-old.old.sort in
    let mid = c.term_of.new.typing in
    let split : c.args.settings.now ≡ s ∷ others = c.in-Some.ensures.cases.0 in
    let f = c.in_ok-of.field-0 in
    let q = c.unknowns.new.passing in
    let ss = c.in_ok-sorts.sorts in
    let w = c.is_record.new.bindings in
    let begun = with_bindings w (with_passing q mid) in
    let x = c.in_err-values.field-0.0 in
    let taken = subst (λ (n : ℕ). IsTaken (unknowns n) mid.passing q ss) (c.arity_at-count.ensures ∙ ap (λ (g : Signature). arity_at g f.of) c.signature.ensures) c.in_ok-sorts.ensures in
    let fits = subst (λ (ks : List Sort). IsMet (has_sort c.args.base.now.span (Named f.of ks) k) (bound mid.bindings) (bound w)) c.as_slice.ensures c.in_ok-is_record.ensures.met in
    rw (p.1, p.2) (subst (λ (zs : List Setting). Stops d (λ sc. update_rule own (part_of c.args.base.now) (map set_of zs) sc) c.args.typing.now x) (sym split)
    (update_stops d own c.args.base.now c.args.typing.now mid u.tree k u.walks s others f c.in_ok-of.ensures.found q ss taken w fits x
    (subst (λ (zs : List Setting). Stops d (λ sc. values_rule own f.of ss [] (map set_of zs) sc) begun x) split
    (subst (λ (ks : List Sort). Stops d (λ sc. values_rule own f.of ks [] (map set_of c.args.settings.now) sc) begun x) c.as_slice-2.ensures c.in_err-values.ensures))))

pub update_at-returns : goal.update_at-returns
update_at-returns t c =
    let d = c.args.context.now in
    let own = c.args.own in
    let s = c.in-Some.first.now in
    let others = c.in-Some._others.now in
    let u = c.in_ok-old.ensures in
    let k = c.in_ok-old.old.sort in
    let mid = c.term_of.new.typing in
    let split : c.args.settings.now ≡ s ∷ others = c.in-Some.ensures.cases.0 in
    let f = c.in_ok-of.field-0 in
    let q = c.unknowns.new.passing in
    let ss = c.in_ok-sorts.sorts in
    let w = c.is_record.new.bindings in
    let begun = with_bindings w (with_passing q mid) in
    let end = c.all_values.new.typing in
    let new = c.updated.new.typing in
    let vs = c.in_ok-values.values in
    let r = c.in_ok-updated.field-0 in
    let taken = subst (λ (n : ℕ). IsTaken (unknowns n) mid.passing q ss) (c.arity_at-count.ensures ∙ ap (λ (g : Signature). arity_at g f.of) c.signature.ensures) c.in_ok-sorts.ensures in
    let fits = subst (λ (ks : List Sort). IsMet (has_sort c.args.base.now.span (Named f.of ks) k) (bound mid.bindings) (bound w)) c.as_slice.ensures c.in_ok-is_record.ensures.met in
    let v = subst (λ (zs : List Setting). TypesValues d (λ sc. values_rule own f.of ss [] (map set_of zs) sc) begun end vs) split
    (subst (λ (ks : List Sort). TypesValues d (λ sc. values_rule own f.of ks [] (map set_of c.args.settings.now) sc) begun end vs) c.as_slice-2.ensures c.in_ok-values.ensures) in
    subst (λ (zs : List Setting). TypesTerm d (λ sc. update_rule own (part_of c.args.base.now) (map set_of zs) sc) c.args.typing.now new r) (sym split)
    (update_done d own c.args.base.now c.args.typing.now mid u.tree k u.walks s others f c.in_ok-of.ensures.found q ss taken w fits end new vs v (Ok r)
    (c.in_ok-updated.ensures u.tree v.terms (later_tree (nodes_of mid) (nodes_of end) v.walks.kept c.in_ok-old.old.tree u.tree u.stands) v.stand))

-- ---- blocks
pub block-returns-in_err-bounds : goal.block-returns-in_err-bounds
block-returns-in_err-bounds t c =
    let p = err_from_is_err_and c.from_residual.result c.from_residual.ensures.1 in
    let old = c.args.typing.now in
    rw (p.1, p.2) (block_variables c.args.context.now c.args.quantifier c.args.groups.now c.args.triggers.now c.args.body.now (around_in c.args.around.now) old c.in_err-bounds.field-0.0 (c.in_err-bounds.ensures.fault (locals_of old)))

pub block-enter_block-requires : goal.block-enter_block-requires
block-enter_block-requires t c =
    record { names = subst (AllByRecursion (λ (b : code.Bound). IsName c.args.context.now.text.now b.name)) (sym c.as_slice.ensures) c.in_ok-bounds.ensures.names }

pub block-returns-in_err-patterns : goal.block-returns-in_err-patterns
block-returns-in_err-patterns t c =
    let r = err_from_is_err_and c.from_residual-in_err-patterns.result c.from_residual-in_err-patterns.ensures.1 in
    let d = c.args.context.now in
    let text = d.text.now in
    let q = c.args.quantifier in
    let gs = c.args.groups.now in
    let ts = c.args.triggers.now in
    let b = c.args.body.now in
    let o = around_in c.args.around.now in
    let old = c.args.typing.now in
    let bounds = c.in_ok-bounds.bounds in
    let bs = map (bound_in text) bounds in
    let p = c.variables.new.passing in
    let env = c.enter_block.new.environment in
    let mid : Typing = record { passing = p; bindings = old.bindings; environment = env } in
    let taken = c.in_ok-bounds.ensures.bounds (locals_of old) in
    let nodes = c.enter_block.ensures.nodes in
    let names = subst (λ (zs : List code.Bound). locals env ≡ reverse (map local_of (map (bound_in text) zs)) ++ locals_of old) c.as_slice.ensures c.in_ok-enter_block.ensures.locals in
    let own : c.in_ok-own.own ≡ map (λ z. z.number) bs = c.in_ok-own.ensures ∙ ap (λ (zs : List code.Bound). map (λ z. z.number) zs) c.as_slice-2.ensures ∙ sym (numbers_are text bounds) in
    let merged : c.in_ok-merged.merged ≡ merged_with q o ++ map (λ z. z.number) bs = c.in_ok-merged.ensures ∙ ap (λ (zs : List ℕ). merged_with q o ++ zs) (c.as_slice-3.ensures ∙ own) in
    let x = c.in_err-patterns.field-0.0 in
    rw (r.1, r.2) (block_triggers d q gs ts b o old p bs taken env nodes names x
    (subst (λ (zs : List ℕ). Stops d (λ sc. triggers_rule zs (map trigger_of ts) sc) mid x) (c.as_slice-4.ensures ∙ merged) c.in_err-patterns.ensures))

pub block-returns-in_err-claim : goal.block-returns-in_err-claim
block-returns-in_err-claim t c =
    let r = err_from_is_err_and c.from_residual-in_err-claim.result c.from_residual-in_err-claim.ensures.1 in
    let d = c.args.context.now in
    let text = d.text.now in
    let q = c.args.quantifier in
    let gs = c.args.groups.now in
    let ts = c.args.triggers.now in
    let b = c.args.body.now in
    let o = around_in c.args.around.now in
    let old = c.args.typing.now in
    let bounds = c.in_ok-bounds.bounds in
    let bs = map (bound_in text) bounds in
    let p = c.variables.new.passing in
    let env = c.enter_block.new.environment in
    let mid : Typing = record { passing = p; bindings = old.bindings; environment = env } in
    let taken = c.in_ok-bounds.ensures.bounds (locals_of old) in
    let nodes = c.enter_block.ensures.nodes in
    let names = subst (λ (zs : List code.Bound). locals env ≡ reverse (map local_of (map (bound_in text) zs)) ++ locals_of old) c.as_slice.ensures c.in_ok-enter_block.ensures.locals in
    let own : c.in_ok-own.own ≡ map (λ z. z.number) bs = c.in_ok-own.ensures ∙ ap (λ (zs : List code.Bound). map (λ z. z.number) zs) c.as_slice-2.ensures ∙ sym (numbers_are text bounds) in
    let merged : c.in_ok-merged.merged ≡ merged_with q o ++ map (λ z. z.number) bs = c.in_ok-merged.ensures ∙ ap (λ (zs : List ℕ). merged_with q o ++ zs) (c.as_slice-3.ensures ∙ own) in
    let second = c.all_triggers.new.typing in
    let patterns = subst (λ (zs : List ℕ). TypesPatterns d (λ sc. triggers_rule zs (map trigger_of ts) sc) mid second c.in_ok-patterns.patterns) (c.as_slice-4.ensures ∙ merged) c.in_ok-patterns.ensures in
    let inner : around_in c.around_body-inner.result ≡ around_body q (merged_with q o ++ map (λ z. z.number) bs) (map trigger_of ts) =
    around_triggers q (merged_with q o ++ map (λ z. z.number) bs) ts (around_in c.around_body-inner.result) (λ l. c.around_body-inner.ensures.none l)
    (λ l. c.around_body-inner.ensures.this l ∙ ap (λ (zs : List ℕ). Some (q, zs)) merged) in
    let x = c.in_err-claim.field-0.0 in
    rw (r.1, r.2) (block_body d q gs ts b o old p bs taken env nodes names second c.in_ok-patterns.patterns patterns x
    (subst (λ (z : Span). Stops d (λ sc. (part_of b).formula sc (around_body q (merged_with q o ++ map (λ z. z.number) bs) (map trigger_of ts)) z) second x) (sym (place_is b))
    (subst (λ z. Stops d (λ sc. (part_of b).formula sc z b.span) second x) inner c.in_err-claim.ensures)))

pub block-returns : goal.block-returns
block-returns t c =
    let d = c.args.context.now in
    let text = d.text.now in
    let q = c.args.quantifier in
    let gs = c.args.groups.now in
    let ts = c.args.triggers.now in
    let b = c.args.body.now in
    let o = around_in c.args.around.now in
    let old = c.args.typing.now in
    let bounds = c.in_ok-bounds.bounds in
    let bs = map (bound_in text) bounds in
    let p = c.variables.new.passing in
    let env = c.enter_block.new.environment in
    let mid : Typing = record { passing = p; bindings = old.bindings; environment = env } in
    let taken = c.in_ok-bounds.ensures.bounds (locals_of old) in
    let nodes = c.enter_block.ensures.nodes in
    let names = subst (λ (zs : List code.Bound). locals env ≡ reverse (map local_of (map (bound_in text) zs)) ++ locals_of old) c.as_slice.ensures c.in_ok-enter_block.ensures.locals in
    let own : c.in_ok-own.own ≡ map (λ z. z.number) bs = c.in_ok-own.ensures ∙ ap (λ (zs : List code.Bound). map (λ z. z.number) zs) c.as_slice-2.ensures ∙ sym (numbers_are text bounds) in
    let merged : c.in_ok-merged.merged ≡ merged_with q o ++ map (λ z. z.number) bs = c.in_ok-merged.ensures ∙ ap (λ (zs : List ℕ). merged_with q o ++ zs) (c.as_slice-3.ensures ∙ own) in
    let second = c.all_triggers.new.typing in
    let patterns = subst (λ (zs : List ℕ). TypesPatterns d (λ sc. triggers_rule zs (map trigger_of ts) sc) mid second c.in_ok-patterns.patterns) (c.as_slice-4.ensures ∙ merged) c.in_ok-patterns.ensures in
    let inner : around_in c.around_body-inner.result ≡ around_body q (merged_with q o ++ map (λ z. z.number) bs) (map trigger_of ts) =
    around_triggers q (merged_with q o ++ map (λ z. z.number) bs) ts (around_in c.around_body-inner.result) (λ l. c.around_body-inner.ensures.none l)
    (λ l. c.around_body-inner.ensures.this l ∙ ap (λ (zs : List ℕ). Some (q, zs)) merged) in
    let third = c.formula_at.new.typing in
    let i = c.in_ok-claim.claim in
    let body = subst (λ (z : Span). TypesClaim d (λ sc. (part_of b).formula sc (around_body q (merged_with q o ++ map (λ z. z.number) bs) (map trigger_of ts)) z) second third i) (sym (place_is b))
    (subst (λ z. TypesClaim d (λ sc. (part_of b).formula sc z b.span) second third i) inner c.in_ok-claim.ensures) in
    let left = c.leave_block.new.environment in
    let inside = body.walks.locals ∙ patterns.walks.locals ∙ names in
    let outer = c.leave_block.ensures.locals (reverse (map local_of bs)) (locals_of old) inside (as_many_bound text bounds ∙ sym c.len.ensures) in
    let sorts = c.in_ok-variable_sorts.ensures ∙ ap (λ (zs : List code.Bound). map (λ z. z.sort) zs) c.as_slice-5.ensures ∙ sym (sorts_are text bounds) in
    block_done d q gs ts b o old p bs taken env nodes names second c.in_ok-patterns.patterns patterns third i body left c.leave_block.ensures.nodes outer c.push_node.new.typing c.in_ok-push_node.field-0 c.own.inside.items.items c.in_ok-variable_sorts.field-0 (c.own.view_is ∙ own) sorts c.in_ok-push_node.ensures

-- ---- terms in formulas' places

pub formula_at-returns-in-Negative : goal.formula_at-returns-in-Negative
formula_at-returns-in-Negative t c =
    truth_negative c.args.context.now c.args.place c.args.typing.now c.truth-in-Negative.new.typing (around_in c.args.around.now) c.args.expr.now c.truth-in-Negative.result c.truth-in-Negative.ensures _ (sym c.get.ensures ∙ c.in-Negative.is)

pub formula_at-returns-in-Numeral : goal.formula_at-returns-in-Numeral
formula_at-returns-in-Numeral t c =
    truth_numeral c.args.context.now c.args.place c.args.typing.now c.truth-in-Numeral.new.typing (around_in c.args.around.now) c.args.expr.now c.truth-in-Numeral.result c.truth-in-Numeral.ensures _ (sym c.get.ensures ∙ c.in-Numeral.is)

pub formula_at-returns-in-Void : goal.formula_at-returns-in-Void
formula_at-returns-in-Void t c =
    truth_void c.args.context.now c.args.place c.args.typing.now c.truth-in-Void.new.typing (around_in c.args.around.now) c.args.expr.now c.truth-in-Void.result c.truth-in-Void.ensures (sym c.get.ensures ∙ c.in-Void.is)

pub formula_at-returns-in-Ascribed : goal.formula_at-returns-in-Ascribed
formula_at-returns-in-Ascribed t c =
    truth_ascribed c.args.context.now c.args.place c.args.typing.now c.truth-in-Ascribed.new.typing (around_in c.args.around.now) c.args.expr.now c.truth-in-Ascribed.result c.truth-in-Ascribed.ensures _ _ (sym c.get.ensures ∙ c.in-Ascribed.is)

pub formula_at-returns-in-Field : goal.formula_at-returns-in-Field
formula_at-returns-in-Field t c =
    truth_field c.args.context.now c.args.place c.args.typing.now c.truth-in-Field.new.typing (around_in c.args.around.now) c.args.expr.now c.truth-in-Field.result c.truth-in-Field.ensures _ _ (sym c.get.ensures ∙ c.in-Field.is)

pub formula_at-returns-in-Record : goal.formula_at-returns-in-Record
formula_at-returns-in-Record t c =
    truth_record c.args.context.now c.args.place c.args.typing.now c.truth-in-Record.new.typing (around_in c.args.around.now) c.args.expr.now c.truth-in-Record.result c.truth-in-Record.ensures _ (sym c.get.ensures ∙ c.in-Record.is)

pub formula_at-returns-in-Update : goal.formula_at-returns-in-Update
formula_at-returns-in-Update t c =
    truth_update c.args.context.now c.args.place c.args.typing.now c.truth-in-Update.new.typing (around_in c.args.around.now) c.args.expr.now c.truth-in-Update.result c.truth-in-Update.ensures _ _ (sym c.get.ensures ∙ c.in-Update.is)

pub formula_at-returns-in-Equation : goal.formula_at-returns-in-Equation
formula_at-returns-in-Equation t c =
    let e = c.args.expr.now in
    let a = part_of c.in-Binary.left in
    let b = part_of c.in-Binary.right in
    formula_by c.args.context.now c.args.place c.args.typing.now c.equation.new.typing (around_in c.args.around.now) e (kind.Binary c.in-Binary.op c.in-Binary.left c.in-Binary.right) (part_step (layer.Binary c.in-Binary.op a b)) c.equation.result
    (sym c.get.ensures ∙ c.in-Binary.is) (kind_binary c.in-Binary.op c.in-Binary.left c.in-Binary.right)
    (formula_by_shape c.args.context.now c.args.place c.args.typing.now c.equation.new.typing c.in-Binary.op (shape.Equation c.in-Equation.relation) (sym c.shape_of.ensures ∙ c.in-Equation.is) e.span a b (around_in c.args.around.now) c.equation.result c.equation.ensures)

pub formula_at-returns-in-Inequality : goal.formula_at-returns-in-Inequality
formula_at-returns-in-Inequality t c =
    let e = c.args.expr.now in
    let a = part_of c.in-Binary.left in
    let b = part_of c.in-Binary.right in
    formula_by c.args.context.now c.args.place c.args.typing.now c.inequality.new.typing (around_in c.args.around.now) e (kind.Binary c.in-Binary.op c.in-Binary.left c.in-Binary.right) (part_step (layer.Binary c.in-Binary.op a b)) c.inequality.result
    (sym c.get.ensures ∙ c.in-Binary.is) (kind_binary c.in-Binary.op c.in-Binary.left c.in-Binary.right)
    (formula_by_shape c.args.context.now c.args.place c.args.typing.now c.inequality.new.typing c.in-Binary.op (shape.Inequality c.in-Inequality.relation) (sym c.shape_of.ensures ∙ c.in-Inequality.is) e.span a b (around_in c.args.around.now) c.inequality.result c.inequality.ensures)

pub formula_at-returns-in-Joined : goal.formula_at-returns-in-Joined
formula_at-returns-in-Joined t c =
    let e = c.args.expr.now in
    let a = part_of c.in-Binary.left in
    let b = part_of c.in-Binary.right in
    formula_by c.args.context.now c.args.place c.args.typing.now c.connected.new.typing (around_in c.args.around.now) e (kind.Binary c.in-Binary.op c.in-Binary.left c.in-Binary.right) (part_step (layer.Binary c.in-Binary.op a b)) c.connected.result
    (sym c.get.ensures ∙ c.in-Binary.is) (kind_binary c.in-Binary.op c.in-Binary.left c.in-Binary.right)
    (formula_by_shape c.args.context.now c.args.place c.args.typing.now c.connected.new.typing c.in-Binary.op (shape.Joined c.in-Joined.connective) (sym c.shape_of.ensures ∙ c.in-Joined.is) e.span a b (around_in c.args.around.now) c.connected.result c.connected.ensures)

pub formula_at-returns-in-Operation : goal.formula_at-returns-in-Operation
formula_at-returns-in-Operation t c =
    truth_by_shape c.args.context.now c.args.place c.args.typing.now c.truth.new.typing (around_in c.args.around.now) c.args.expr.now c.truth.result c.truth.ensures
    c.in-Binary.op c.in-Binary.left c.in-Binary.right _ (sym c.get.ensures ∙ c.in-Binary.is) (sym c.shape_of.ensures ∙ c.in-Operation.is)

pub formula_at-returns-in_ok-push_node-in-True : goal.formula_at-returns-in_ok-push_node-in-True
formula_at-returns-in_ok-push_node-in-True t c =
    let new = c.push_node.new.typing in
    let n = c.in_ok-push_node-in-True.field-0 in
    formula_by c.args.context.now c.args.place c.args.typing.now new (around_in c.args.around.now) c.args.expr.now kind.True (part_step layer.True) (Ok n) (sym c.get.ensures ∙ c.in-True.is) kind_true
    (puts_claim c.args.context.now c.args.typing.now new truth n c.in_ok-push_node-in-True.ensures)

pub formula_at-returns-in_ok-push_node-in-False : goal.formula_at-returns-in_ok-push_node-in-False
formula_at-returns-in_ok-push_node-in-False t c =
    let new = c.push_node-in-False.new.typing in
    let n = c.in_ok-push_node-in-False.field-0 in
    formula_by c.args.context.now c.args.place c.args.typing.now new (around_in c.args.around.now) c.args.expr.now kind.False (part_step layer.False) (Ok n) (sym c.get.ensures ∙ c.in-False.is) kind_false
    (puts_claim c.args.context.now c.args.typing.now new falsity n c.in_ok-push_node-in-False.ensures)

-- ---- constants and records in terms' places
pub term_at-returns-in_ok-numeral-in-Numeral : goal.term_at-returns-in_ok-numeral-in-Numeral
term_at-returns-in_ok-numeral-in-Numeral t c =
    let d = c.args.context.now in
    let old = c.args.typing.now in
    let new = c.numeral.new.typing in
    let u = c.in_ok-numeral-in-Numeral.field-0 in
    term_by d c.args.place old new c.args.expr.now (kind.Numeral c.in-Numeral.number) (part_step (layer.Numeral c.in-Numeral.number)) (Ok u) (sym c.get.ensures ∙ c.in-Numeral.is) (kind_numeral c.in-Numeral.number)
    (subst (λ (n : Number). TypesTerm d (λ sc. numeral_rule n) old new u) c.get-in-Numeral.ensures (c.in_ok-numeral-in-Numeral.ensures d))

pub term_at-returns-in_ok-constant-in-True : goal.term_at-returns-in_ok-constant-in-True
term_at-returns-in_ok-constant-in-True t c =
    let u = c.in_ok-constant-in-True.field-0 in
    term_by c.args.context.now c.args.place c.args.typing.now c.constant.new.typing c.args.expr.now kind.True (part_step layer.True) (Ok u) (sym c.get.ensures ∙ c.in-True.is) kind_true (c.in_ok-constant-in-True.ensures c.args.context.now)

pub term_at-returns-in_ok-constant-in-False : goal.term_at-returns-in_ok-constant-in-False
term_at-returns-in_ok-constant-in-False t c =
    let u = c.in_ok-constant-in-False.field-0 in
    term_by c.args.context.now c.args.place c.args.typing.now c.constant-in-False.new.typing c.args.expr.now kind.False (part_step layer.False) (Ok u) (sym c.get.ensures ∙ c.in-False.is) kind_false (c.in_ok-constant-in-False.ensures c.args.context.now)

pub term_at-returns-in_ok-constant-in-Void : goal.term_at-returns-in_ok-constant-in-Void
term_at-returns-in_ok-constant-in-Void t c =
    let u = c.in_ok-constant-in-Void.field-0 in
    term_by c.args.context.now c.args.place c.args.typing.now c.constant-in-Void.new.typing c.args.expr.now kind.Void (part_step layer.Void) (Ok u) (sym c.get.ensures ∙ c.in-Void.is) kind_void (c.in_ok-constant-in-Void.ensures c.args.context.now)

pub term_at-returns-in-Record : goal.term_at-returns-in-Record
term_at-returns-in-Record t c =
    let d = c.args.context.now in
    let e = c.args.expr.now in
    let ss = c.in-Record.settings in
    term_by d c.args.place c.args.typing.now c.record_at.new.typing e (kind.Record ss) (part_step (layer.Record (map set_of ss))) c.record_at.result (sym c.get.ensures ∙ c.in-Record.is) (kind_record ss)
    (subst (λ (zs : List Setting). TermAnswer d (λ sc. record_rule e.span (map set_of zs) sc) c.args.typing.now c.record_at.new.typing c.record_at.result) c.as_slice-in-Record.ensures c.record_at.ensures)

pub term_at-returns-in-Update : goal.term_at-returns-in-Update
term_at-returns-in-Update t c =
    let d = c.args.context.now in
    let e = c.args.expr.now in
    let b = c.in-Update.base in
    let ss = c.in-Update.settings in
    term_by d c.args.place c.args.typing.now c.update_at.new.typing e (kind.Update b ss) (part_step (layer.Update (part_of b) (map set_of ss))) c.update_at.result (sym c.get.ensures ∙ c.in-Update.is) (kind_update b ss)
    (subst (λ (zs : List Setting). TermAnswer d (λ sc. update_rule e.span (part_of b) (map set_of zs) sc) c.args.typing.now c.update_at.new.typing c.update_at.result) c.as_slice-in-Update.ensures c.update_at.ensures)

pub term_at-returns-in-Quantified : goal.term_at-returns-in-Quantified
term_at-returns-in-Quantified t c =
    let d = c.args.context.now in
    let e = c.args.expr.now in
    let old = c.args.typing.now in
    let new = c.block.new.typing in
    let q = c.in-Quantified.quantifier in
    let gs = c.in-Quantified.groups in
    let ts = c.in-Quantified.triggers in
    let b = c.in-Quantified.body in
    term_by d c.args.place old new e (kind.Quantified q gs ts b) (part_step (layer.Quantified q gs (map trigger_of ts) (part_of b))) c.in_term-in-Quantified.result (sym c.get.ensures ∙ c.in-Quantified.is) (kind_quantified q gs ts b)
    (c.in_term-in-Quantified.ensures d (λ sc. block_rule q gs (map trigger_of ts) (part_of b) sc None) old new
    (subst (λ (zs : List Group). ClaimAnswer d (λ sc. block_rule q zs (map trigger_of ts) (part_of b) sc None) old new c.block.result) (c.as_slice-groups.ensures ∙ c.get-in-Quantified.ensures)
    (subst (λ (zs : List Trigger). ClaimAnswer d (λ sc. block_rule q c.as_slice-groups.result.now (map trigger_of zs) (part_of b) sc None) old new c.block.result) (c.as_slice-triggers.ensures ∙ c.get-in-Quantified-2.ensures) c.block.ensures)))

pub formula_at-returns-in-Quantified : goal.formula_at-returns-in-Quantified
formula_at-returns-in-Quantified t c =
    let d = c.args.context.now in
    let e = c.args.expr.now in
    let old = c.args.typing.now in
    let new = c.block.new.typing in
    let o = around_in c.args.around.now in
    let q = c.in-Quantified.quantifier in
    let gs = c.in-Quantified.groups in
    let ts = c.in-Quantified.triggers in
    let b = c.in-Quantified.body in
    formula_by d c.args.place old new o e (kind.Quantified q gs ts b) (part_step (layer.Quantified q gs (map trigger_of ts) (part_of b))) c.block.result (sym c.get.ensures ∙ c.in-Quantified.is) (kind_quantified q gs ts b)
    (subst (λ (zs : List Group). ClaimAnswer d (λ sc. block_rule q zs (map trigger_of ts) (part_of b) sc o) old new c.block.result) (c.as_slice-groups.ensures ∙ c.get-in-Quantified.ensures)
    (subst (λ (zs : List Trigger). ClaimAnswer d (λ sc. block_rule q c.as_slice-groups.result.now (map trigger_of zs) (part_of b) sc o) old new c.block.result) (c.as_slice-triggers.ensures ∙ c.get-in-Quantified-2.ensures) c.block.ensures))

-- ---- names that stand for nothing
pub name_term-returns-in_ok-unknown_name-in-Unknown : goal.name_term-returns-in_ok-unknown_name-in-Unknown
name_term-returns-in_ok-unknown_name-in-Unknown t c own =
    let d = c.args.context.now in
    let name = c.args.name in
    let args = map part_of c.args.args.now in
    let old = c.args.typing.now in
    let h = subst (IsNamed (nodes_of old) d.known (meaning_of (scope_at d old) (name_in d.text.now name))) c.in-Unknown.is c.in_ok-meaning.ensures in
    let x : TypeFault = fault.UnknownName (name_in d.text.now name) name.from name.to in
    let its = c.in_ok-unknown_name-in-Unknown.ensures ∙ ap (λ (n : List ℕ). fault.UnknownName n name.from name.to) c.name_at.ensures in
    subst (λ z. Stops d (λ sc. (name_part own name args).term sc c.args.place) old z) (sym its)
    (term_here d old old (λ sc. refuse x no_term) (λ sc. (name_part own name args).term sc c.args.place) (ap (name_rule name args (scope_at d old) c.args.place) (sym h)) (Err x) (stops_refused d x no_term old))

pub name_formula-returns-in_ok-unknown_name-in-Unknown : goal.name_formula-returns-in_ok-unknown_name-in-Unknown
name_formula-returns-in_ok-unknown_name-in-Unknown t c own =
    let d = c.args.context.now in
    let name = c.args.name in
    let args = map part_of c.args.args.now in
    let old = c.args.typing.now in
    let o = around_in c.args.around.now in
    let h = subst (IsNamed (nodes_of old) d.known (meaning_of (scope_at d old) (name_in d.text.now name))) c.in-Unknown.is c.in_ok-meaning.ensures in
    let x : TypeFault = fault.UnknownName (name_in d.text.now name) name.from name.to in
    let its = c.in_ok-unknown_name-in-Unknown.ensures ∙ ap (λ (n : List ℕ). fault.UnknownName n name.from name.to) c.name_at.ensures in
    subst (λ z. Stops d (λ sc. (name_part own name args).formula sc o c.args.place) old z) (sym its)
    (claim_here d old old (λ sc. truth_rule c.args.place (refuse x no_term)) (λ sc. (name_part own name args).formula sc o c.args.place) (ap (name_claim name args (scope_at d old) o c.args.place) (sym h)) (Err x)
    (truth_first d (λ sc. refuse x no_term) c.args.place old x (stops_refused d x no_term old)))

pub name_formula-returns-in_err-found-in-Function : goal.name_formula-returns-in_err-found-in-Function
name_formula-returns-in_err-found-in-Function t c own =
    let p = err_from_is_err_and c.from_residual-in_err-found-in-Function.result c.from_residual-in_err-found-in-Function.ensures.1 in
    let d = c.args.context.now in
    let name = c.args.name in
    let args = map part_of c.args.args.now in
    let old = c.args.typing.now in
    let o = around_in c.args.around.now in
    let k = c.in-Function.number in
    let x = c.in_err-found-in-Function.field-0.0 in
    let h = subst (IsNamed (nodes_of old) d.known (meaning_of (scope_at d old) (name_in d.text.now name))) c.in-Function.is c.in_ok-meaning.ensures in
    rw (p.1, p.2) (claim_here d old old (λ sc. truth_rule c.args.place (function_rule name k h.0 h.1 args sc)) (λ sc. (name_part own name args).formula sc o c.args.place) (ap (name_claim name args (scope_at d old) o c.args.place) (sym h.4)) (Err x)
    (truth_first d (λ sc. function_rule name k h.0 h.1 args sc) c.args.place old x (c.in_err-found-in-Function.ensures h.0 h.1 h.2 h.3)))

-- ---- what the arms' calls require
pub term_at-record_at-requires : goal.term_at-record_at-requires
term_at-record_at-requires t c =
    let e = c.args.expr.now in
    let P = IsName c.args.context.now.text.now in
    let is = sym c.get.ensures ∙ c.in-Record.is in
    let ss = c.in-Record.settings in
    let us = c.as_slice-in-Record.result.now in (
      subst (λ n. 8 * most size-Setting us + 5 < n) c.decreases (omega (arith, subst (λ (zs : List Setting). most size-Setting zs + 1 < size-Expr e) (sym c.as_slice-in-Record.ensures) (smaller_record e ss is))),
      subst (AllByRecursion (AreSetNamed c.args.context.now.text.now)) (sym c.as_slice-in-Record.ensures) (all_joined P names_in_set ss (named_record P e c.requires.names ss is)),
    )

pub term_at-update_at-requires : goal.term_at-update_at-requires
term_at-update_at-requires t c =
    let e = c.args.expr.now in
    let P = IsName c.args.context.now.text.now in
    let is = sym c.get.ensures ∙ c.in-Update.is in
    let b = c.in-Update.base in
    let ss = c.in-Update.settings in
    let us = c.as_slice-in-Update.result.now in
    let all = named_update P e c.requires.names b ss is in (
      subst (λ n. 8 * max (size-Expr b) (most size-Setting us) + 5 < n) c.decreases (omega (arith, subst (λ (zs : List Setting). max (size-Expr b) (most size-Setting zs) + 1 < size-Expr e) (sym c.as_slice-in-Update.ensures) (smaller_update e b ss is))),
      (
        all_front P (names_in b) (joined (map names_in_set ss)) all,
        subst (AllByRecursion (AreSetNamed c.args.context.now.text.now)) (sym c.as_slice-in-Update.ensures) (all_joined P names_in_set ss (all_back P (names_in b) (joined (map names_in_set ss)) all)),
      ),
    )

pub term_at-block-requires : goal.term_at-block-requires
term_at-block-requires t c =
    let e = c.args.expr.now in
    let text = c.args.context.now.text.now in
    let P = IsName text in
    let is = sym c.get.ensures ∙ c.in-Quantified.is in
    let q = c.in-Quantified.quantifier in
    let gs = c.in-Quantified.groups in
    let ts = c.in-Quantified.triggers in
    let b = c.in-Quantified.body in
    let us = c.as_slice-triggers.result.now in
    let all = named_quantified P e c.requires.names q gs ts b is in
    let groups = joined (map names_in_group gs) in
    let triggers = joined (map names_in_trigger ts) in
    let front = all_front P (groups ++ triggers) (names_in b) all in
    let same_groups = c.as_slice-groups.ensures ∙ c.get-in-Quantified.ensures in
    let same_triggers = c.as_slice-triggers.ensures ∙ c.get-in-Quantified-2.ensures in (
      subst (λ n. 8 * max (most size-Trigger us) (size-Expr b) + 5 < n) c.decreases (omega (arith, subst (λ (zs : List Trigger). max (most size-Trigger zs) (size-Expr b) + 1 < size-Expr e) (sym same_triggers) (smaller_quantified e q gs ts b is))),
      (
        subst (AllByRecursion (AreGroupNamed text)) (sym same_groups) (all_joined P names_in_group gs (all_front P groups triggers front)),
        (
          subst (AllByRecursion (AreTriggerNamed text)) (sym same_triggers) (all_joined P names_in_trigger ts (all_back P groups triggers front)),
          all_back P (groups ++ triggers) (names_in b) all,
        ),
      ),
    )

pub formula_at-block-requires : goal.formula_at-block-requires
formula_at-block-requires t c =
    let e = c.args.expr.now in
    let text = c.args.context.now.text.now in
    let P = IsName text in
    let is = sym c.get.ensures ∙ c.in-Quantified.is in
    let q = c.in-Quantified.quantifier in
    let gs = c.in-Quantified.groups in
    let ts = c.in-Quantified.triggers in
    let b = c.in-Quantified.body in
    let us = c.as_slice-triggers.result.now in
    let all = named_quantified P e c.requires.names q gs ts b is in
    let groups = joined (map names_in_group gs) in
    let triggers = joined (map names_in_trigger ts) in
    let front = all_front P (groups ++ triggers) (names_in b) all in
    let same_groups = c.as_slice-groups.ensures ∙ c.get-in-Quantified.ensures in
    let same_triggers = c.as_slice-triggers.ensures ∙ c.get-in-Quantified-2.ensures in (
      subst (λ n. 8 * max (most size-Trigger us) (size-Expr b) + 5 < n) c.decreases (omega (arith, subst (λ (zs : List Trigger). max (most size-Trigger zs) (size-Expr b) + 1 < size-Expr e) (sym same_triggers) (smaller_quantified e q gs ts b is))),
      (
        subst (AllByRecursion (AreGroupNamed text)) (sym same_groups) (all_joined P names_in_group gs (all_front P groups triggers front)),
        (
          subst (AllByRecursion (AreTriggerNamed text)) (sym same_triggers) (all_joined P names_in_trigger ts (all_back P groups triggers front)),
          all_back P (groups ++ triggers) (names_in b) all,
        ),
      ),
    )
