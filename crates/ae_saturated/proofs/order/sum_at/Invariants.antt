use Rattle.std.proofs.Common.{◌≡◌, drop}
use Rattle.ae_math.specs.Fractions.{◌+ℚ◌}
use Rattle.ae_math.specs.Forms.{sum_of}
use Rattle.ae_journal.specs.States.{at_point}
use Rattle.ae_naturals.specs.Fractions.{value_of}
use Rattle.ae_computing.proofs.TotalLaws.{parts_over}
use Rattle.ae_saturated.proofs.order.sum_at.Given as goal

abbrev pub invariant-loop-part : goal.invariant-loop-part
invariant-loop-part l =
    value_of l.sum +ℚ sum_of (at_point l.point) (parts_over l.form.den (drop l.part-index l.parts)) ≡ sum_of (at_point l.point) (parts_over l.form.den l.parts)
