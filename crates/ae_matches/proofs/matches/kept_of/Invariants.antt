use Rattle.std.proofs.Common.{◌≡◌, drop, map, length, []}
use Rattle.indexmap.specs.IndexSet.{contains}
use Rattle.ae_store.specs.Keys.{is_same}
use Rattle.ae_matches.specs.Candidates.{once_each, test_of, subst_of}
use Rattle.ae_matches.specs.Classes.{IsIndexed}
use Rattle.ae_matches.proofs.matches.kept_of.Given as goal

abbrev pub invariant-loop-bindings : goal.invariant-loop-bindings
invariant-loop-bindings g l =
    IsIndexed (g.E.Equalities.alike l.equalities) (length l.store.nodes) (contains is_same l.classes) l.found
    × (once_each (test_of l.store.signature l.store.nodes (g.E.Equalities.alike l.equalities) l.below l.known l.pattern) (g.E.Equalities.alike l.equalities) [] (map (subst_of l.pattern) l.all)
    ≡ once_each (test_of l.store.signature l.store.nodes (g.E.Equalities.alike l.equalities) l.below l.known l.pattern) (g.E.Equalities.alike l.equalities) l.found (map (subst_of l.pattern) (drop l.bindings-index l.all)))
