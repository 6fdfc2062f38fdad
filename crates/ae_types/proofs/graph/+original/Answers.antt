use Rattle.std.proofs.Common.{rules, ap, sym, ◌∙◌, arith}
use Rattle.ae_core.specs.declared.terms.Sort.{Named}
use Rattle.ae_types.specs.declared.graph.Node.TheVariants as node
use Rattle.ae_types.specs.declared.graph.Constant.TheVariants as constant
use Rattle.ae_types.specs.Inner.Graphs.{origin}
use Rattle.ae_types.proofs.GraphLaws.{read_at, origin_built, all_mapped}
use Rattle.ae_types.proofs.graph.+original.Goals as goal

pub returns-after-loop-arg : goal.returns-after-loop-arg
returns-after-loop-arg t c =
    let e = read_at c.args.nodes.now c.args.place (node.Constant constant.Unit) c.index-nodes-place.result c.requires.within c.index-nodes-place.is ∙ c.in-Built.is in
    ap (Named c.in-Built.head)
    (all_mapped (origin c.args.nodes.now) c.loop-arg.sorts c.loop-arg.arg-index c.as_slice-arg-items.result.now c.in-Built.args c.loop-arg.invariant (search rules) (omega arith))
    ∙ sym (origin_built c.args.nodes.now c.args.place c.in-Built.head c.in-Built.args c.requires.well c.requires.within e)
