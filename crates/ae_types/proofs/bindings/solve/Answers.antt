use Rattle.std.proofs.Common.{Some, [], sym, subst}
use Rattle.ae_types.specs.Inner.Graphs.{GraphWell, origin}
use Rattle.ae_types.specs.Inner.Joins.{Blames}
use Rattle.std.proofs.lemmas.Result.{err_from_is_err_and, on_ok_weaker, IfErr-weaker}
use Rattle.ae_types.proofs.JoinLaws.{closing_shortened}
use Rattle.ae_types.proofs.bindings.solve.Goals as goal

pub returns-in_err-close-clause-err : goal.returns-in_err-close-clause-err
returns-in_err-close-clause-err c =
    let p = err_from_is_err_and c.from_residual.result c.from_residual.ensures.1 in
    rw (p.1, p.2) c.in_err-close.ensures.err

pub settle-requires : goal.settle-requires
settle-requires c =
    subst (GraphWell c.args.nodes.now) (sym c.as_slice.ensures)
    (closing_shortened c.args.nodes.now c.args.classes.now c.close.new.classes c.flatten.new.classes c.args.todo.now [] c.in_ok-close.ensures.ok c.in_ok-flatten.ensures.shortened).well

pub returns-clause-closed : goal.returns-clause-closed
returns-clause-closed c =
    on_ok_weaker c.settle.result
    (λ x. closing_shortened c.args.nodes.now c.args.classes.now c.close.new.classes c.flatten.new.classes c.args.todo.now [] c.in_ok-close.ensures.ok c.in_ok-flatten.ensures.shortened)
    c.settle.ensures.ok

pub returns-clause-err : goal.returns-clause-err
returns-clause-err c =
    IfErr-weaker c.settle.result _ _
    (λ clash h.
    let b = subst (λ xs. Blames c.args.nodes.now xs [] clash) c.as_slice.ensures h in
    let k = closing_shortened c.args.nodes.now c.args.classes.now c.close.new.classes c.flatten.new.classes c.args.todo.now [] c.in_ok-close.ensures.ok c.in_ok-flatten.ensures.shortened in
    λ given f e. b given (k.onward (Some given) (origin c.args.nodes.now) f e) tt)
    c.settle.ensures.err
