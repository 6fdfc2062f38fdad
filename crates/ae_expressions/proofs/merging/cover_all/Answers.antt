use Rattle.std.proofs.Common.{◌∙◌, List, ℕ, sym, ap}
use Rattle.ae_elab.specs.Formulas.{covering_all, covers}
use Rattle.ae_elab.specs.Nodes.{entries_of, patterns_at, trees_at}
use Rattle.ae_elab.proofs.NameRules.{follow_start}
use Rattle.ae_expressions.proofs.MergeLaws.{cover_next, cover_stop, cover_whole}
use Rattle.ae_expressions.proofs.merging.cover_all.Goals as goal

pub loop-trigger-init : goal.loop-trigger-init
loop-trigger-init c m = follow_start (covering_all c.args.variables.now (patterns_at (entries_of c.args.nodes.now) c.args.triggers.now)) m

pub returns-then-not-branch-clause-fault : goal.returns-then-not-branch-clause-fault
returns-then-not-branch-clause-fault c m =
    let xs = c.args.variables.now in
    let es = entries_of c.args.nodes.now in
    let p = c.trigger-item.result in
    cover_stop xs es c.args.triggers.now m c.loop-trigger.trigger-index p c.loop-trigger-test.true c.trigger-item.is (c.loop-trigger.invariant m)
    (sym (c.in_ok-covers.ensures ∙ ap (λ (ns : List ℕ). covers xs (trees_at es ns)) c.as_slice.ensures) ∙ c.if-not-branch.true)

pub loop-trigger-preserved : goal.loop-trigger-preserved
loop-trigger-preserved c m =
    let xs = c.args.variables.now in
    let es = entries_of c.args.nodes.now in
    let p = c.trigger-item.result in
    cover_next xs es c.args.triggers.now m c.loop-trigger.trigger-index p c.loop-trigger-test.true c.trigger-item.is (c.loop-trigger.invariant m)
    (sym (c.in_ok-covers.ensures ∙ ap (λ (ns : List ℕ). covers xs (trees_at es ns)) c.as_slice.ensures) ∙ c.if-not-branch.false)

pub returns-clause-met : goal.returns-clause-met
returns-clause-met c m =
    cover_whole c.args.variables.now (entries_of c.args.nodes.now) c.args.triggers.now m c.loop-trigger.trigger-index c.loop-trigger-test.false (c.loop-trigger.invariant m)
