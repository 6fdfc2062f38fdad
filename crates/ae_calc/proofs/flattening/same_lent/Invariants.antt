use Rattle.std.proofs.Common.{◌≡◌, length, take}
use Rattle.ae_calc.specs.Inner.LentTerms.{values}
use Rattle.ae_calc.proofs.flattening.same_lent.Given as goal

abbrev pub invariant-loop-i : goal.invariant-loop-i
invariant-loop-i l = (length l.left ≡ length l.right) × (values (take l.i l.left) ≡ values (take l.i l.right))
