use Rattle.std.proofs.Common.{drop}
use Rattle.ae_match.specs.Seen.{seen}
use Rattle.ae_matches.specs.Candidates as spec
use Rattle.ae_matches.proofs.candidates.chained.Given as goal

abbrev pub invariant-loop-term : goal.invariant-loop-term
invariant-loop-term g l =
    spec.AllAmong (spec.chained (seen l.store.signature l.store.nodes) (g.E.Equalities.alike l.equalities) l.below l.known l.terms l.fn.bindings)
    (spec.chained (seen l.store.signature l.store.nodes) (g.E.Equalities.alike l.equalities) l.below l.known (drop l.term-index l.terms) l.found)
