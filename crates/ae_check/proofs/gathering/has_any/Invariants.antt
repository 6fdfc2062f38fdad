use Rattle.std.specs.Prelude.{◌≡◌, false, take}
use Rattle.ae_check.specs.Inner.ConstantSets.{any_has}
use Rattle.ae_check.proofs.gathering.has_any.Given as goal

abbrev pub invariant-loop-i : goal.invariant-loop-i
invariant-loop-i l = any_has l.constants l.first (take l.i l.sorts) ≡ false
