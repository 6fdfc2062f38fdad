use Rattle.std.specs.Prelude.{take}
use Rattle.std.specs.List.{AllByRecursion}
use Rattle.ae_sure_literals.specs.Inner.Closing.{IsOtherFailing}
use Rattle.ae_sure_literals.proofs.closing.others_fail.Given as goal

abbrev pub invariant-loop-lit : goal.invariant-loop-lit
invariant-loop-lit l = AllByRecursion (IsOtherFailing l.trail.assigned l.flags l.own) (take l.lit-index l.clause)
