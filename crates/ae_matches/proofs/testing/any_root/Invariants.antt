use Rattle.std.proofs.Common.{◌≡◌, take, false}
use Rattle.std.specs.List.{list_any}
use Rattle.ae_match.specs.Seen.{seen}
use Rattle.ae_finding.specs.Nodes.{is_named}
use Rattle.ae_matches.proofs.testing.any_root.Given as goal

abbrev pub invariant-loop-name : goal.invariant-loop-name
invariant-loop-name g l = list_any (λ m. is_named (seen l.store.signature l.store.nodes) (g.E.Equalities.alike l.equalities) l.below l.put m m) (take l.name-index l.names) ≡ false
