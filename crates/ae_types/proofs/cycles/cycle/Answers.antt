use Rattle.std.proofs.Common.{ap, sym, ◌∙◌, arith}
use Rattle.ae_types.specs.declared.graph.Node.TheVariants as node
use Rattle.ae_types.specs.declared.graph.Constant.TheVariants as constant
use Rattle.ae_types.specs.Inner.Graphs.{variable_of}
use Rattle.ae_types.specs.Inner.Walks.{frame_at}
use Rattle.ae_types.proofs.GraphLaws.{read_at, slots_length}
use Rattle.ae_types.proofs.CycleLaws.{cycle_clash, runs_inner, runs_outer, low_built}
use Rattle.ae_types.proofs.cycles.cycle.Goals as goal

pub returns : goal.returns
returns c = λ given f u.
    (let nodes = c.args.nodes.now in
    let classes = c.args.classes.now in
    let path = c.args.path.now in
    let low = c.lowest-low.result in
    let g = c.requires.well in
    let y = c.requires.cycle in
    let a = c.lowest-low.ensures.above in
    let b = c.lowest-low.ensures.within in
    let d = c.lowest-low.ensures.least in
    let m = slots_length nodes classes in
    let q = y.within low b in
    let x = read_at nodes (frame_at path low).place (node.Constant constant.Unit) c.index-nodes-path.result (omega (arith, q, m, g.lengths)) c.index-nodes-path.is in
    cycle_clash nodes classes path c.args.from low g y a b d c.variable_of-var.result c.in_ok-inner.inner c.in_ok-sort.sort
    (c.variable_of-var.ensures ∙ ap variable_of (sym x))
    (c.in_ok-inner.ensures.wraps (frame_at path low).place (runs_inner nodes classes path c.args.from low g y a b d))
    (c.in_ok-sort.ensures.wraps (frame_at path c.args.from).place (runs_outer nodes classes path c.args.from low g y a b d))
    (c.in_ok-sort.ensures.built b (low_built nodes classes path c.args.from low g y a b d))
    given f)
