use Rattle.std.proofs.Common.{◌≡◌, take, false}
use Rattle.std.specs.List.{list_any}
use Rattle.indexmap.specs.IndexMap.{get}
use Rattle.ae_store.specs.Keys.{is_same}
use Rattle.ae_inst.specs.Matches as spec
use Rattle.ae_inst.proofs.instances.is_under.Given as goal

abbrev pub invariant-loop-name : goal.invariant-loop-name
invariant-loop-name g l = list_any (spec.is_match_under (g.E.Equalities.alike l.equalities) l.owner l.subst l.taken (get is_same l.places)) (take l.name-index l.names) ≡ false
