use Rattle.std.proofs.Common.{◌≡◌, take}
use Rattle.std.specs.List.{filter}
use Rattle.ae_owed_matches.specs.Found.{is_owed}
use Rattle.ae_owed_matches.proofs.finding.owed.Given as goal

abbrev pub invariant-loop-subst : goal.invariant-loop-subst
invariant-loop-subst g l = l.owed ≡ filter (is_owed (g.E.Equalities.alike l.equalities) l.owner l.instances.taken) (take l.subst-index l.found)
