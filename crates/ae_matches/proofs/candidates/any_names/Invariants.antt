use Rattle.std.proofs.Common.{◌≡◌}
use Rattle.std.specs.List.{flat_map}
use Rattle.ae_match.specs.Seen.{seen}
use Rattle.ae_matches.specs.Candidates as spec
use Rattle.ae_journal.specs.Triggers.{numbers_below}
use Rattle.ae_matches.proofs.candidates.any_names.Given as goal

abbrev pub invariant-loop-name : goal.invariant-loop-name
invariant-loop-name g l = l.found ≡ flat_map (spec.any_name (seen l.store.signature l.store.nodes) (g.E.Equalities.alike l.equalities) l.below l.known l.variable l.bindings) (numbers_below l.name)
