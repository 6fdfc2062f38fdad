use Rattle.std.proofs.Common.{◌≡◌, take}
use Rattle.std.specs.List.{flat_map}
use Rattle.ae_match.specs.Seen.{seen}
use Rattle.ae_matches.specs.Candidates as spec
use Rattle.ae_store.specs.declared.nodes.NodeHead.TheVariants.{Of}
use Rattle.ae_known.specs.Index.{with_head}
use Rattle.ae_matches.proofs.candidates.own_roots.Given as goal

abbrev pub invariant-loop-name : goal.invariant-loop-name
invariant-loop-name g l = l.found ≡ flat_map (spec.own_root (seen l.store.signature l.store.nodes) (g.E.Equalities.alike l.equalities) l.below l.known l.term l.bindings) (take l.name-index (with_head l.known (Of l.fn.head)))
