use Rattle.std.proofs.Common.{◌≡◌, ◌∙◌, Some, [], sym, subst, ap, length}
use Rattle.ae_types.specs.Inner.Graphs.{GraphWell, origin, slots_of}
use Rattle.ae_types.specs.Inner.Joins.{Blames}
use Rattle.ae_types.specs.Inner.Orders.{Loosened, Ordered}
use Rattle.std.proofs.lemmas.Result.{err_from_is_err_and, on_ok_weaker, IfErr-weaker}
use Rattle.ae_types.proofs.GraphLaws.{slots_length}
use Rattle.ae_types.proofs.OrderLaws.{loosened_more}
use Rattle.ae_types.proofs.bindings.solve_more.Goals as goal

pub returns-in_err-close-clause-err : goal.returns-in_err-close-clause-err
returns-in_err-close-clause-err c =
    let p = err_from_is_err_and c.from_residual.result c.from_residual.ensures.1 in
    rw (p.1, p.2) c.in_err-close.ensures.err

pub settle_from-requires-clause-well : goal.settle_from-requires-clause-well
settle_from-requires-clause-well c = subst (GraphWell c.args.nodes.now) (sym c.as_slice.ensures) c.in_ok-close.ensures.ok.well

pub settle_from-requires-clause-size : goal.settle_from-requires-clause-size
settle_from-requires-clause-size c =
    c.requires.size ∙ c.requires.well.lengths ∙ sym c.in_ok-close.ensures.ok.well.lengths ∙ sym (ap length c.as_slice.ensures)

pub settle_from-requires-clause-loosened : goal.settle_from-requires-clause-loosened
settle_from-requires-clause-loosened c =
    let ns = c.args.nodes.now in
    let old = slots_of ns c.args.classes.now in
    let new = slots_of ns c.close.new.classes in
    let m : length new ≡ length old = slots_length ns c.close.new.classes ∙ c.in_ok-close.ensures.ok.well.lengths ∙ sym c.requires.well.lengths ∙ sym (slots_length ns c.args.classes.now) in
    subst (λ xs. Loosened (slots_of ns xs) c.as_slice-2.result.now) (sym c.as_slice.ensures)
    (subst (Loosened new) (sym c.as_slice-2.ensures)
    (loosened_more old new c.close.new.joined m c.requires.settled
    (λ ls o. c.in_ok-close.ensures.ordered ls (subst (λ xs. Ordered ls xs old) (sym c.new-joined.ensures) o))))

pub returns-clause-closed : goal.returns-clause-closed
returns-clause-closed c = on_ok_weaker c.settle_from.result (λ x. c.in_ok-close.ensures.ok) c.settle_from.ensures.ok

pub returns-clause-err : goal.returns-clause-err
returns-clause-err c =
    IfErr-weaker c.settle_from.result _ _
    (λ clash h.
    let b = subst (λ xs. Blames c.args.nodes.now xs [] clash) c.as_slice.ensures h in
    λ given f e. b given (c.in_ok-close.ensures.ok.onward (Some given) (origin c.args.nodes.now) f e) tt)
    c.settle_from.ensures.err
