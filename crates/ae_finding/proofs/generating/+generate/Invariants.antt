use Rattle.std.proofs.Common.{◌≡◌, ◌∷◌, [], ◌+◌, ◌*◌, drop, take, map, length}
use Rattle.std.specs.List.{flat_map}
use denote.Param.Weighed.{most}
use Rattle.ae_core.specs.declared.terms.Term.{size-Term}
use Rattle.ae_rules.specs.Matches.{is_arithmetic}
use Rattle.ae_matching.specs.Generating.{generate}
use Rattle.ae_match.specs.Seen.{seen}
use Rattle.ae_finding.specs.Nodes.{at_node, from_each}
use Rattle.ae_finding.proofs.generating.+generate.Given as goal

abbrev pub invariant-at_each-loop-other : goal.invariant-at_each-loop-other
invariant-at_each-loop-other g l =
    l.found ≡ flat_map (at_node (seen l.store.signature l.store.nodes) (g.E.Equalities.alike l.equalities) l.below l.head l.sorts l.args l.name l.bindings) (take l.other-index l.names)

abbrev pub invariant-each-loop-i : goal.invariant-each-loop-i
invariant-each-loop-i g l =
    (length l.args ≡ length l.names)
    × (from_each (map (generate (seen l.store.signature l.store.nodes) (g.E.Equalities.alike l.equalities) l.below is_arithmetic) l.args) l.names (l.bindings ∷ [])
    ≡ from_each (map (generate (seen l.store.signature l.store.nodes) (g.E.Equalities.alike l.equalities) l.below is_arithmetic) (drop l.i l.args)) (drop l.i l.names) l.found)

abbrev pub invariant-next-loop-one : goal.invariant-next-loop-one
invariant-next-loop-one g l =
    l.found ≡ flat_map (generate (seen l.store.signature l.store.nodes) (g.E.Equalities.alike l.equalities) l.below is_arithmetic l.term l.name) (take l.one-index l.bindings)

abbrev pub decreases-generate : goal.decreases-generate
decreases-generate g l = 7 * size-Term l.term.now

abbrev pub decreases-at_nodes : goal.decreases-at_nodes
decreases-at_nodes g l = 7 * most size-Term l.args.now + 6

abbrev pub decreases-at_each : goal.decreases-at_each
decreases-at_each g l = 7 * most size-Term l.args.now + 5

abbrev pub decreases-at_node : goal.decreases-at_node
decreases-at_node g l = 7 * most size-Term l.args.now + 4

abbrev pub decreases-each_order : goal.decreases-each_order
decreases-each_order g l = 7 * most size-Term l.args.now + 3

abbrev pub decreases-each : goal.decreases-each
decreases-each g l = 7 * most size-Term l.args.now + 2

abbrev pub decreases-next : goal.decreases-next
decreases-next g l = 7 * size-Term l.term.now + 1
