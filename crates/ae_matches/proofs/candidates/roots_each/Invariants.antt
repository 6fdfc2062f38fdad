use Rattle.std.proofs.Common.{take}
use Rattle.std.specs.List.{flat_map}
use Rattle.ae_match.specs.Seen.{seen}
use Rattle.ae_matches.specs.Candidates as spec
use Rattle.ae_matches.proofs.candidates.roots_each.Given as goal

abbrev pub invariant-loop-one : goal.invariant-loop-one
invariant-loop-one g l = spec.AllAmong (flat_map (spec.roots (seen l.store.signature l.store.nodes) (g.E.Equalities.alike l.equalities) l.below l.known l.term) (take l.one-index l.bindings)) l.found
