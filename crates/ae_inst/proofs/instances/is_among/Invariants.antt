use Rattle.std.proofs.Common.{◌≡◌, take, false}
use Rattle.std.specs.List.{list_any}
use Rattle.ae_inst.specs.Matches as spec
use Rattle.ae_inst.proofs.instances.is_among.Given as goal

abbrev pub invariant-loop-other : goal.invariant-loop-other
invariant-loop-other g l = list_any (spec.is_match (g.E.Equalities.alike l.equalities) l.owner l.subst) (take l.other-index l.taken) ≡ false
