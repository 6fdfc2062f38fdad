use Rattle.std.proofs.Common.{rules, ◌≡◌, [], ◌∙◌, subst}
use Rattle.std.proofs.lemmas.Result.{err_from_is_err_and}
use Rattle.ae_types.specs.Inner.Joins.{Closing}
use Rattle.ae_types.proofs.JoinLaws.{closing, last_pair, blamed}
use Rattle.ae_types.proofs.joins.close.Goals as goal

pub step-requires-clause-left : goal.step-requires-clause-left
step-requires-clause-left c = (last_pair _ c.pop.new.self c.loop-pair.todo c.in-Some.pair c.in-Some.ensures c.loop-pair.invariant.closing.pairs).1

pub step-requires-clause-right : goal.step-requires-clause-right
step-requires-clause-right c = (last_pair _ c.pop.new.self c.loop-pair.todo c.in-Some.pair c.in-Some.ensures c.loop-pair.invariant.closing.pairs).2

pub step-requires-clause-todo : goal.step-requires-clause-todo
step-requires-clause-todo c = (last_pair _ c.pop.new.self c.loop-pair.todo c.in-Some.pair c.in-Some.ensures c.loop-pair.invariant.closing.pairs).0

pub loop-pair-preserved : goal.loop-pair-preserved
loop-pair-preserved c = record {
  closing = closing c.args.nodes.now c.args.classes.now c.loop-pair.classes c.step.new.classes c.args.todo.now c.pop.new.self c.loop-pair.todo c.step.new.todo c.in-Some.pair
      c.in-Some.ensures c.loop-pair.invariant.closing c.in_ok-step.ensures.ok;
  rewinds = c.in_ok-step.ensures.rewinds ∙ c.loop-pair.invariant.rewinds;
  ordered = λ ls o. c.in_ok-step.ensures.ordered ls (c.loop-pair.invariant.ordered ls o);
}

pub returns-in_err-step-clause-err : goal.returns-in_err-step-clause-err
returns-in_err-step-clause-err c =
    let p = err_from_is_err_and c.from_residual.result c.from_residual.ensures.1 in
    rw (p.1, p.2) (blamed c.args.nodes.now c.args.classes.now c.loop-pair.classes c.args.todo.now c.pop.new.self c.loop-pair.todo c.in-Some.pair c.in_err-step.field-0.0
    c.in-Some.ensures c.loop-pair.invariant.closing c.in_err-step.ensures.err)

pub returns-clause-ok : goal.returns-clause-ok
returns-clause-ok c =
    let e : c.loop-pair.todo ≡ [] = search rules in
    subst (Closing c.args.nodes.now c.args.classes.now c.loop-pair.classes c.args.todo.now) e c.loop-pair.invariant.closing
