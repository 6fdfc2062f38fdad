use Rattle.std.proofs.Common.{arith, ◌∙◌, map, take, ap}
use Rattle.ae_elab.specs.Nodes.{entries_of}
use Rattle.ae_elab.specs.Weights as rule
use Rattle.ae_sizes.specs.Inner.Counted.{counted, pile, told}
use Rattle.std.proofs.lemmas.List.{take_all}
use Rattle.ae_elab.specs.Conditions.{shown}
use Rattle.ae_types.specs.Bound.{bound}
use Rattle.ae_sizes.proofs.MeasureLaws.{measures_next}
use Rattle.ae_sizes.proofs.node_sizes.measures.Goals as goal

pub loop-node-preserved : goal.loop-node-preserved
loop-node-preserved c =
    let f = shown (bound c.args.bindings.now) in
    let i = c.loop-node.node-index in
    let ns = c.args.nodes.now in
    let es = entries_of (take i ns) in
    c.in_ok-push.ensures.ok
    ∙ measures_next f ns i c.node-item.result c.loop-node.measures c.measure_of-measure.result (omega arith) c.node-item.is c.loop-node.invariant
    (c.measure_of-measure.ensures f es (c.as_slice.ensures ∙ c.loop-node.invariant)
    (c.in_ok-sorts.ensures ∙ ap (λ z. counted (pile (rule.sort_sizes f z))) c.sorts_of.ensures))

pub returns : goal.returns
returns c =
    c.loop-node.invariant
    ∙ ap (λ z. map (told (shown (bound c.args.bindings.now))) (entries_of z)) (take_all c.loop-node.node-index c.args.nodes.now (omega arith))
