use Rattle.std.proofs.Common.{◌≡◌, take, false}
use Rattle.std.specs.List.{list_any}
use Rattle.ae_match.specs.Seen.{seen}
use Rattle.ae_finding.specs.Nodes as inner
use Rattle.ae_matches.proofs.testing.node_roots_pass.Given as goal

abbrev pub invariant-loop-name : goal.invariant-loop-name
invariant-loop-name g l =
    list_any (λ m. inner.node_passes (seen l.store.signature l.store.nodes) (g.E.Equalities.alike l.equalities) l.below l.sorts l.values l.head l.put l.args m m) (take l.name-index l.names) ≡ false
