use Rattle.std.proofs.Common.{arith, ◌∙◌, ◌++◌, ℕ, List, take, true, sym, ap}
use Rattle.ae_elab.specs.Nodes.{trees_at, patterns_at}
use Rattle.ae_elab.specs.Weights as rule
use Rattle.ae_sizes.specs.Inner.Counted.{counted, pile}
use Rattle.ae_sizes.specs.Inner.Weights as own
use Rattle.std.proofs.lemmas.List.{append-nil, take_all}
use Rattle.ae_sizes.proofs.MeasureLaws.{patterns_next}
use Rattle.ae_sizes.proofs.node_sizes.pattern_sizes.Goals as goal

pub loop-trigger-init : goal.loop-trigger-init
loop-trigger-init c = λ f es ss p q. q ∙ ap (λ z. counted (pile z)) (sym (append-nil ss))

pub loop-trigger-preserved : goal.loop-trigger-preserved
loop-trigger-preserved c = λ f es ss p q.
    let i = c.loop-trigger.trigger-index in
    let ts = c.args.triggers.now in
    let w = λ (ns : List ℕ). rule.size_of (own.all_standing own.once 0 (own.weight_list true f (trees_at es ns))) in
    c.side_by_side-parts.ensures (ss ++ own.pattern_sizes f (patterns_at es (take i ts))) (w c.trigger-item.result.terms) (c.loop-trigger.invariant f es ss p q)
    (c.size_of.ensures (own.all_standing own.once 0 (own.weight_list true f (trees_at es c.as_slice.result.now))) (c.weigh-terms.ensures f es p) ∙ ap (λ z. counted (w z)) c.as_slice.ensures)
    ∙ ap (λ z. counted (pile z)) (patterns_next f es ss ts i c.trigger-item.result (omega arith) c.trigger-item.is)

pub returns : goal.returns
returns c = λ f es ss p q.
    c.loop-trigger.invariant f es ss p q
    ∙ ap (λ z. counted (pile (ss ++ own.pattern_sizes f (patterns_at es z)))) (take_all c.loop-trigger.trigger-index c.args.triggers.now (omega arith))
