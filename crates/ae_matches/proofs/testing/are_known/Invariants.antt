use Rattle.std.proofs.Common.{◌≡◌, take, true}
use Rattle.std.specs.List.{list_all}
use Rattle.ae_match.specs.Seen.{seen}
use Rattle.ae_matching.specs.Testing.{is_known_name}
use Rattle.ae_matches.proofs.testing.are_known.Given as goal

abbrev pub invariant-loop-name : goal.invariant-loop-name
invariant-loop-name l = list_all (is_known_name (seen l.store.signature l.store.nodes) l.below) (take l.name-index l.names) ≡ true
