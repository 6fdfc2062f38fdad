use Rattle.std.proofs.Common.{◌≡◌, ◌∷◌, [], ◌+◌, ◌*◌, drop, take, map, length}
use Rattle.std.specs.List.{flat_map}
use denote.Param.Weighed.{most}
use Rattle.ae_core.specs.declared.terms.Term.{size-Term}
use Rattle.ae_matching.specs.Generating.{own}
use Rattle.ae_match.specs.Seen.{seen}
use Rattle.ae_finding.specs.Nodes.{from_each}
use Rattle.ae_finding.proofs.own.+own.Given as goal

abbrev pub invariant-own_each-loop-i : goal.invariant-own_each-loop-i
invariant-own_each-loop-i l =
    (length l.args ≡ length l.names)
    × (from_each (map (own (seen l.store.signature l.store.nodes)) l.args) l.names (l.bindings ∷ []) ≡ from_each (map (own (seen l.store.signature l.store.nodes)) (drop l.i l.args)) (drop l.i l.names) l.found)

abbrev pub invariant-own_next-loop-one : goal.invariant-own_next-loop-one
invariant-own_next-loop-one l = l.found ≡ flat_map (own (seen l.store.signature l.store.nodes) l.term l.name) (take l.one-index l.bindings)

abbrev pub decreases-own : goal.decreases-own
decreases-own l = 4 * size-Term l.term.now

abbrev pub decreases-own_at : goal.decreases-own_at
decreases-own_at l = 4 * most size-Term l.args.now + 3

abbrev pub decreases-own_each : goal.decreases-own_each
decreases-own_each l = 4 * most size-Term l.args.now + 2

abbrev pub decreases-own_next : goal.decreases-own_next
decreases-own_next l = 4 * size-Term l.term.now + 1
