use Rattle.std.proofs.Common.{[], ◌∷◌, ◌++◌, ap, ◌∙◌, subst}
use Rattle.ae_types.specs.Inner.Joins.{Blames}
use Rattle.ae_types.proofs.bindings.join.Goals as goal

pub returns-clause-blamed : goal.returns-clause-blamed
returns-clause-blamed c =
    let e = c.in_ok-push.ensures.ok ∙ ap (λ x. x ++ record { left = c.args.left; right = c.args.right } ∷ []) c.new-todo.ensures in
    subst (λ ps. Blames c.args.graph.now.nodes c.args.graph.now.classes ps c.in-Err.clash) e
    (subst (λ ns. Blames ns c.args.graph.now.classes c.push.new.self c.in-Err.clash) c.as_slice.ensures c.in-Err.ensures.err)
