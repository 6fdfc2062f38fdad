use Rattle.std.proofs.Common.{◌∙◌, ap, subst}
use Rattle.std.proofs.lemmas.Result.{err_from_is_err_and}
use Rattle.ae_core.specs.declared.terms.Op.TheVariants.{Neg}
use Rattle.ae_elab.specs.declared.numbers.Numbers.TheVariants.{IntOrReal}
use Rattle.ae_elab.specs.Conditions.{may_be, becomes}
use Rattle.ae_elab.specs.Nodes.{trees_at}
use Rattle.ae_elab.specs.Rules.{give, typed, ◌⇒◌}
use Rattle.ae_elab.specs.Trees.{operation, more, none}
use Rattle.ae_elab.specs.Typings.{TypesTerm, nodes_of}
use Rattle.ae_elab.proofs.NodeLaws.{one_tree}
use Rattle.ae_elab.proofs.TypingLaws.{with_bindings, walks_demand, stops_demand, stops_after, puts_term}
use Rattle.ae_elab.proofs.term_steps.negated.Goals as goal

pub returns-in_err-may_be : goal.returns-in_err-may_be
returns-in_err-may_be c d x h =
    let s = c.args.inner.sort in
    let at = c.args.place in
    let p = err_from_is_err_and c.from_residual.result c.from_residual.ensures.1 in
    rw (p.1, p.2) (stops_demand d (λ sc. may_be at IntOrReal s) (λ sc. becomes at IntOrReal s ⇒ give (typed (operation Neg s (more x none)) s)) c.args.typing.now c.in_err-may_be.field-0.0 c.in_err-may_be.ensures.fault)

pub returns-in_err-becomes : goal.returns-in_err-becomes
returns-in_err-becomes c d x h =
    let s = c.args.inner.sort in
    let at = c.args.place in
    let old = c.args.typing.now in
    let e = c.in_err-becomes.field-0.0 in
    let p = err_from_is_err_and c.from_residual-in_err-becomes.result c.from_residual-in_err-becomes.ensures.1 in
    rw (p.1, p.2) (stops_after d (λ sc. may_be at IntOrReal s) (λ sc. becomes at IntOrReal s ⇒ give (typed (operation Neg s (more x none)) s)) old old.bindings e c.in_ok-may_be.ensures.met
    (stops_demand d (λ sc. becomes at IntOrReal s) (λ sc. give (typed (operation Neg s (more x none)) s)) old e c.in_err-becomes.ensures.fault))

pub returns : goal.returns
returns c d x h =
    let s = c.args.inner.sort in
    let at = c.args.place in
    let old = c.args.typing.now in
    let mid = with_bindings c.becomes.new.bindings old in
    let new = c.push_node.new.typing in
    let n = c.in_ok-tree.tree in
    let es = nodes_of old in
    let us = c.push.new.self in
    let t = operation Neg s (more x none) in
    let last = subst (λ z. TypesTerm d (λ sc. give (typed z s)) mid new (record { tree = n; sort = s }))
    (ap (λ r. operation Neg r (trees_at es us)) c.in_ok-sort.ensures ∙ ap (operation Neg s) (one_tree es c.new-args.result us c.args.inner.tree x c.new-args.ensures c.in_ok-push.ensures.ok h))
    (puts_term d mid new (operation Neg c.in_ok-sort.sort (trees_at es us)) n s c.in_ok-tree.ensures) in
    record {
      tree = last.tree;
      stands = last.stands;
      walks = walks_demand d (λ sc. may_be at IntOrReal s) (λ sc. becomes at IntOrReal s ⇒ give (typed t s)) old old.bindings new (typed last.tree s) c.in_ok-may_be.ensures.met
          (walks_demand d (λ sc. becomes at IntOrReal s) (λ sc. give (typed t s)) old c.becomes.new.bindings new (typed last.tree s) c.in_ok-becomes.ensures.met last.walks);
    }
