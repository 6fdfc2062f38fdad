use Rattle.std.proofs.Common.{ap, ◌∙◌, arith}
use Rattle.ae_store.specs.declared.nodes.NodeHead.TheVariants.{Of}
use Rattle.ae_store.specs.Shapes.{shapes}
use Rattle.ae_store.proofs.TermLaws.{placed}
use Rattle.ae_just.proofs.EmitLaws.{terms_long}
use Rattle.ae_short_derivations.proofs.Together.{two_applied, first_below}
use Rattle.ae_short_derivations.proofs.sides.first_argument.Goals as goal

pub node-node-requires : goal.node-node-requires
node-node-requires c = let w = c.requires.within in omega (arith, w, terms_long c.args.store.now.nodes)

pub returns-clause-within : goal.returns-clause-within
returns-clause-within c =
    let s = c.args.store.now in
    let low = first_below s.nodes (placed s.signature (shapes s.nodes) c.len-names.ensures.store.sound) c.args.name c.node-node.result.now c.node-node.ensures.node c.in-Of.head c.in-Of.is c.as_slice-args.result.now c.as_slice-args.ensures
    (omega (arith, c.if-args-ne2.false)) in
    let w = c.requires.within in
    omega (arith, low, w)

pub returns-clause-joined : goal.returns-clause-joined
returns-clause-joined c =
    let s = c.args.store.now in
    let head = c.same_head.ensures.0 c.if-not-same_head.false in
    let sorts = c.same_sorts.ensures.0 c.if-not-same_sorts.false in
    two_applied s.nodes (placed s.signature (shapes s.nodes) c.len-names.ensures.store.sound) c.args.name c.node-node.result.now c.node-node.ensures.node c.args.symbol.now.head (c.in-Of.is ∙ ap Of head)
    c.as_slice-args.result.now c.as_slice-args.ensures (omega (arith, c.if-args-ne2.false)) c.args.symbol.now.sorts (cc (sorts, c.as_slice.ensures, c.as_slice-else-not-same_head.ensures)) c.args.second
    (omega (arith, c.if-args-second.false))
