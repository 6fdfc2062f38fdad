use Rattle.std.proofs.Common.{◌≡◌, take}
use Rattle.std.specs.List.{flat_map}
use Rattle.ae_store.specs.declared.nodes.NodeHead.TheVariants.{Of}
use Rattle.ae_matching.specs.Generating.{own_at}
use Rattle.ae_match.specs.Seen.{seen}
use Rattle.ae_known.specs.Index.{with_head}
use Rattle.ae_finding.proofs.generating.all_own.Given as goal

abbrev pub invariant-loop-other : goal.invariant-loop-other
invariant-loop-other g l =
    l.found ≡ flat_map (own_at (seen l.store.signature l.store.nodes) (g.E.Equalities.alike l.equalities) l.below l.term l.name l.bindings) (take l.other-index (with_head l.known (Of l.fn.head)))
