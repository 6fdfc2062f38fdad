use Rattle.std.proofs.Common.{◌≡◌, ◌∙◌, ℕ, List, Some, None, sym, ap, subst}
use Rattle.std.proofs.lemmas.Result.{err_from_is_err_and}
use Rattle.ae_types.specs.Bound.{bound}
use Rattle.ae_core.specs.declared.terms.Sort.{Sort, Named}
use Rattle.ae_core.specs.declared.problems.Signature.{Signature}
use Rattle.ae_elab.specs.declared.faults.TypeFault.{TypeFault}
use Rattle.ae_elab.specs.declared.faults.TypeFault.TheVariants as fault
use Rattle.ae_expressions.specs.FieldParts.{then_field}
use Rattle.ae_elab.specs.Conditions.{has_sort}
use Rattle.ae_elab.specs.Rules.{typed, unknowns}
use Rattle.ae_elab.specs.Scope.{field_place, name_in}
use Rattle.ae_elab.specs.Steps.{IsMet, IsNotMet, IsTaken}
use Rattle.ae_elab.specs.Terms.{arity_at, field_sort}
use Rattle.ae_elab.specs.Typings.{Stops, nodes_of}
use Rattle.ae_expressions.proofs.FieldSteps.{select_missing, select_other, select_done}
use Rattle.ae_elab.proofs.NodeLaws.{one_tree}
use Rattle.ae_expressions.proofs.field_steps.selected.Goals as goal

pub returns-in_default : goal.returns-in_default
returns-in_default c x h =
    let d = c.args.context.now in
    let at = c.args.field in
    let name = c.name_at-name.ensures in
    let none : field_place d.known (name_in d.text.now at) ≡ None = sym (c.field_place.ensures ∙ ap (λ (n : List ℕ). field_place d.known n) name) ∙ c.in_default.is in
    let shows : c.in_ok-unknown_name.field-0 ≡ fault.UnknownName (name_in d.text.now at) at.from at.to = c.in_ok-unknown_name.ensures ∙ ap (λ (n : List ℕ). fault.UnknownName n at.from at.to) name in
    subst (λ (e : TypeFault). Stops d (λ sc. then_field c.args.place at sc (typed x c.args.inner.sort)) c.args.typing.now e) (sym shows)
    (select_missing d c.args.place at x c.args.inner.sort c.args.typing.now none)

pub returns-in_err-has_sort : goal.returns-in_err-has_sort
returns-in_err-has_sort c x h =
    let d = c.args.context.now in
    let at = c.args.field in
    let f = c.in-Some.found in
    let old = c.args.typing.now in
    let e = c.in_err-has_sort.field-0.0 in
    let ss = c.in_ok-sorts.sorts in
    let there : field_place d.known (name_in d.text.now at) ≡ Some f = sym (c.field_place.ensures ∙ ap (λ (n : List ℕ). field_place d.known n) c.name_at-name.ensures) ∙ c.in-Some.is in
    let count : c.arity_at-count.result ≡ arity_at d.known f.of = c.arity_at-count.ensures ∙ ap (λ (s : Signature). arity_at s f.of) c.signature-signature.ensures in
    let taken : IsTaken (unknowns (arity_at d.known f.of)) old.passing c.unknowns.new.passing ss = subst (λ k. IsTaken (unknowns k) old.passing c.unknowns.new.passing ss) count c.in_ok-sorts.ensures in
    let copies : c.in_ok-copies.copies ≡ ss = c.in_ok-copies.ensures ∙ c.as_slice.ensures in
    let p = err_from_is_err_and c.from_residual-in_err-has_sort.result c.from_residual-in_err-has_sort.ensures.1 in
    rw (p.1, p.2) (select_other d c.args.place at x c.args.inner.sort old f there c.unknowns.new.passing ss taken e
    (subst (λ (zs : List Sort). IsNotMet (has_sort c.args.place (Named f.of zs) c.args.inner.sort) (bound old.bindings) e) copies c.in_err-has_sort.ensures.fault))

pub returns : goal.returns
returns c x h =
    let d = c.args.context.now in
    let at = c.args.field in
    let f = c.in-Some.found in
    let old = c.args.typing.now in
    let ss = c.in_ok-sorts.sorts in
    let w = c.has_sort.new.bindings in
    let there : field_place d.known (name_in d.text.now at) ≡ Some f = sym (c.field_place.ensures ∙ ap (λ (n : List ℕ). field_place d.known n) c.name_at-name.ensures) ∙ c.in-Some.is in
    let count : c.arity_at-count.result ≡ arity_at d.known f.of = c.arity_at-count.ensures ∙ ap (λ (s : Signature). arity_at s f.of) c.signature-signature.ensures in
    let taken : IsTaken (unknowns (arity_at d.known f.of)) old.passing c.unknowns.new.passing ss = subst (λ k. IsTaken (unknowns k) old.passing c.unknowns.new.passing ss) count c.in_ok-sorts.ensures in
    let copies : c.in_ok-copies.copies ≡ ss = c.in_ok-copies.ensures ∙ c.as_slice.ensures in
    let value : c.in_ok-sort.sort ≡ field_sort d.known f ss =
    c.in_ok-sort.ensures ∙ ap (λ (s : Signature). field_sort s f c.as_slice-2.result.now) c.signature-signature.ensures ∙ ap (field_sort d.known f) c.as_slice-2.ensures in
    select_done d c.args.place at x c.args.inner.sort old f there c.unknowns.new.passing ss taken w c.push_node.new.typing c.in_ok-tree.tree c.in_ok-sort.sort _
    (subst (λ (zs : List Sort). IsMet (has_sort c.args.place (Named f.of zs) c.args.inner.sort) (bound old.bindings) (bound w)) copies c.in_ok-has_sort.ensures.met)
    (one_tree (nodes_of old) c.new-args.result c.push.new.self c.args.inner.tree x c.new-args.ensures c.in_ok-push.ensures.ok h) value c.in_ok-tree.ensures
