use Rattle.std.proofs.Common.{Some}
use Rattle.ae_searching.specs.Inner.Starts.{AreOthersFalse, StartsAt}
use Rattle.ae_searching.proofs.levels.others_false_from.Given as goal

abbrev pub invariant-loop-i : goal.invariant-loop-i
invariant-loop-i l = StartsAt (AreOthersFalse l.trail.assigned l.clause l.i l.one) (Some l.level)
