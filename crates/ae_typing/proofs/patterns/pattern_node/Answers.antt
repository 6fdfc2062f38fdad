use Rattle.std.proofs.Common.{◌∙◌, length, map, Some, sym, ap}
use Rattle.ae_typing.specs.Inner.Earlier.{earlier}
use Rattle.ae_typing.proofs.PatternLaws.{pattern_there, pattern_other, pattern_missing}
use Rattle.ae_typing.proofs.patterns.pattern_node.Goals as goal

pub returns-in_default : goal.returns-in_default
returns-in_default c = pattern_missing c.args.nodes.now c.args.claim (sym c.in_default.ensures)

pub returns-in_default-node : goal.returns-in_default-node
returns-in_default-node c = pattern_other c.args.nodes.now c.args.claim c.in-Some.node.now (sym c.in-Some.ensures) c.in_default-node.not-Predicate

pub returns : goal.returns
returns c =
    let ns = c.args.nodes.now in
    let n = c.args.claim in
    let q = c.in-Predicate in
    pattern_there ns n q.symbol q.sorts c.in_ok-copies.copies q.args c.in_ok-places.places (sym c.in-Some.ensures ∙ ap Some q.is)
    (c.in_ok-copies.ensures ∙ c.as_slice-2.ensures) (c.in_ok-places.ensures ∙ ap (map (earlier n (length ns))) c.as_slice.ensures)
