use Rattle.std.specs.Prelude.{get_or}
use Rattle.std.proofs.Common.{arith}
use Rattle.std.proofs.lemmas.Option.{slice_get-get_or}
use Rattle.ae_store.specs.Shapes.{shapes}
use Rattle.ae_store.specs.Terms.{terms, named}
use Rattle.ae_sweeps.proofs.JoinedNames.{arg_below, is_joined, not_joined}
use Rattle.ae_sweeps.proofs.joins.join_of.Goals as goal

pub bounds-constants-left : goal.bounds-constants-left
bounds-constants-left c =
    arg_below c.args.store.now.signature c.args.store.now.nodes c.len-len.ensures.store c.args.name c.node-node.result.now c.node-node.ensures.node c.as_slice-args.result.now c.as_slice-args.ensures
    c.args.constants.now c.requires.constants.one_each 0 (omega (arith, c.if-args-ne2.false))

pub bounds-constants-right : goal.bounds-constants-right
bounds-constants-right c =
    arg_below c.args.store.now.signature c.args.store.now.nodes c.len-len.ensures.store c.args.name c.node-node.result.now c.node-node.ensures.node c.as_slice-args.result.now c.as_slice-args.ensures
    c.args.constants.now c.requires.constants.one_each 1 (omega (arith, c.if-args-ne2.false))

pub returns-then-not-is_join : goal.returns-then-not-is_join
returns-then-not-is_join c =
    let store = c.args.store.now in
    let xs = c.as_slice-args.result.now in
    let ts = terms (shapes store.nodes) in
    let first = get_or xs 0 0 in
    let second = get_or xs 1 0 in
    let below_first = arg_below store.signature store.nodes c.len-len.ensures.store c.args.name c.node-node.result.now c.node-node.ensures.node xs c.as_slice-args.ensures c.args.constants.now
    c.requires.constants.one_each 0 (omega (arith, c.if-args-ne2.false)) in
    let below_second = arg_below store.signature store.nodes c.len-len.ensures.store c.args.name c.node-node.result.now c.node-node.ensures.node xs c.as_slice-args.ensures c.args.constants.now
    c.requires.constants.one_each 1 (omega (arith, c.if-args-ne2.false)) in
    let tested = c.is_join.ensures (named ts first) (named ts second) (c.requires.constants.each first _ (slice_get-get_or c.args.constants.now first _ below_first))
    (c.requires.constants.each second _ (slice_get-get_or c.args.constants.now second _ below_second)) in
    not_joined c.args.signature.now store.nodes c.args.name c.node-node.result.now c.node-node.ensures.node c.in-Of.head c.in-Of.is xs c.as_slice-args.ensures c.if-args-ne2.false (rw c.if-not-is_join.true at tested)

pub returns : goal.returns
returns c =
    let store = c.args.store.now in
    let xs = c.as_slice-args.result.now in
    let ts = terms (shapes store.nodes) in
    let first = get_or xs 0 0 in
    let second = get_or xs 1 0 in
    let below_first = arg_below store.signature store.nodes c.len-len.ensures.store c.args.name c.node-node.result.now c.node-node.ensures.node xs c.as_slice-args.ensures c.args.constants.now
    c.requires.constants.one_each 0 (omega (arith, c.if-args-ne2.false)) in
    let below_second = arg_below store.signature store.nodes c.len-len.ensures.store c.args.name c.node-node.result.now c.node-node.ensures.node xs c.as_slice-args.ensures c.args.constants.now
    c.requires.constants.one_each 1 (omega (arith, c.if-args-ne2.false)) in
    let tested = c.is_join.ensures (named ts first) (named ts second) (c.requires.constants.each first _ (slice_get-get_or c.args.constants.now first _ below_first))
    (c.requires.constants.each second _ (slice_get-get_or c.args.constants.now second _ below_second)) in
    is_joined c.args.signature.now store.nodes c.args.name c.node-node.result.now c.node-node.ensures.node c.in-Of.head c.in-Of.is xs c.as_slice-args.ensures c.if-args-ne2.false (rw c.if-not-is_join.false at tested)
