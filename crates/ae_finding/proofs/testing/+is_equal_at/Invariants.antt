use Rattle.std.proofs.Common.{◌≡◌, ◌+◌, ◌*◌, drop, take, map, length, false}
use Rattle.std.specs.List.{list_any}
use denote.Param.Weighed.{most}
use Rattle.ae_core.specs.declared.terms.Term.{size-Term}
use Rattle.ae_rules.specs.Matches.{is_arithmetic}
use Rattle.ae_matching.specs.Testing.{test, test_each}
use Rattle.ae_match.specs.Seen.{seen}
use Rattle.ae_finding.specs.Nodes.{node_passes}
use Rattle.ae_finding.proofs.testing.+is_equal_at.Given as goal

abbrev pub invariant-any_at-loop-other : goal.invariant-any_at-loop-other
invariant-any_at-loop-other g l =
    list_any (node_passes (seen l.store.signature l.store.nodes) (g.E.Equalities.alike l.equalities) l.below l.sorts l.values l.head l.put l.args l.name) (take l.other-index l.names) ≡ false

abbrev pub invariant-each_test-loop-i : goal.invariant-each_test-loop-i
invariant-each_test-loop-i g l =
    (length l.args ≡ length l.names)
    × (test_each (map (test (seen l.store.signature l.store.nodes) (g.E.Equalities.alike l.equalities) l.below l.sorts l.values is_arithmetic) l.args) l.names
    ≡ test_each (map (test (seen l.store.signature l.store.nodes) (g.E.Equalities.alike l.equalities) l.below l.sorts l.values is_arithmetic) (drop l.i l.args)) (drop l.i l.names))

abbrev pub decreases-is_equal_at : goal.decreases-is_equal_at
decreases-is_equal_at g l = 7 * size-Term l.term.now

abbrev pub decreases-any_node : goal.decreases-any_node
decreases-any_node g l = 7 * most size-Term l.args.now + 6

abbrev pub decreases-any_at : goal.decreases-any_at
decreases-any_at g l = 7 * most size-Term l.args.now + 5

abbrev pub decreases-node_passes : goal.decreases-node_passes
decreases-node_passes g l = 7 * most size-Term l.args.now + 4

abbrev pub decreases-either_order : goal.decreases-either_order
decreases-either_order g l = 7 * most size-Term l.args.now + 3

abbrev pub decreases-each_test : goal.decreases-each_test
decreases-each_test g l = 7 * most size-Term l.args.now + 2
