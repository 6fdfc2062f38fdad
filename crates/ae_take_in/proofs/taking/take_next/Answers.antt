use Rattle.std.proofs.Common.{sym, ◌∙◌}
use Rattle.ae_take_in.proofs.NameSorts.{number_name, no_number}
use Rattle.ae_take_in.proofs.taking.take_next.Goals as goal

pub take_number-requires-clause-name : goal.take_number-requires-clause-name
take_number-requires-clause-name c =
    let s = c.args.store.now in
    number_name s.signature s.nodes c.len-len.ensures.store c.args.name c.node-node.result.now c.node-node.ensures.node c.same_sort-real.result (sym c.is_numeric.ensures ∙ c.if-is_numeric.true) c.same_sort-real.ensures

pub take_leaf-requires-clause-other : goal.take_leaf-requires-clause-other
take_leaf-requires-clause-other c =
    let s = c.args.store.now in no_number s.signature s.nodes c.len-len.ensures.store c.args.name c.node-node.result.now c.node-node.ensures.node (sym c.is_numeric.ensures ∙ c.if-is_numeric.false)
