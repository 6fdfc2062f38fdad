use Rattle.std.proofs.Common.{◌≡◌, take, false}
use Rattle.std.specs.List.{list_any}
use Rattle.ae_match.specs.Seen.{seen}
use Rattle.ae_finding.specs.Nodes as inner
use Rattle.ae_finding.proofs.testing.is_one_of.Given as goal

abbrev pub invariant-loop-other : goal.invariant-loop-other
invariant-loop-other g l =
    list_any (inner.is_named (seen l.store.signature l.store.nodes) (g.E.Equalities.alike l.equalities) l.below l.term l.name) (take l.other-index l.names) ≡ false
