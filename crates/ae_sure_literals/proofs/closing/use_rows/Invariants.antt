use Rattle.std.specs.Prelude.{take}
use Rattle.std.specs.List.{AllByRecursion}
use Rattle.ae_explain.specs.Trail.{at}
use Rattle.ae_journal.specs.Standing.{SurelyStands}
use Rattle.ae_sure_literals.specs.Inner.Closing.{IsRowClosed, Passes}
use Rattle.ae_sure_literals.proofs.closing.use_rows.Given as goal

abbrev pub invariant-loop-number : goal.invariant-loop-number
invariant-loop-number l =
    Passes l.trail.assigned (λ x js. SurelyStands x js (at l.trail.assigned l.place).lit)
    (λ fs. AllByRecursion (IsRowClosed l.trail.assigned fs (at l.trail.assigned l.place).lit) (take l.number-index l.number-items)) l.fn.flags l.flags l.changed
