use Rattle.std.proofs.Common.{◌≡◌, take, true}
use Rattle.std.specs.List.{list_all}
use Rattle.ae_match.specs.Seen.{seen}
use Rattle.ae_matches.specs.Candidates as spec
use Rattle.ae_matches.proofs.testing.all_pass.Given as goal

abbrev pub invariant-loop-term : goal.invariant-loop-term
invariant-loop-term g l = list_all (spec.passes (seen l.store.signature l.store.nodes) (g.E.Equalities.alike l.equalities) l.below l.known l.sorts l.values l.terms) (take l.term-index l.trigger) ≡ true
