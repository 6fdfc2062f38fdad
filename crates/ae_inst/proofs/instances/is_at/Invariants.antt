use Rattle.std.proofs.Common.{◌≡◌, take, false}
use Rattle.std.specs.List.{list_any}
use Rattle.ae_inst.specs.Matches as spec
use Rattle.ae_inst.proofs.instances.is_at.Given as goal

abbrev pub invariant-loop-place : goal.invariant-loop-place
invariant-loop-place g l = list_any (spec.is_match_at (g.E.Equalities.alike l.equalities) l.owner l.subst l.taken) (take l.place-index l.places) ≡ false
