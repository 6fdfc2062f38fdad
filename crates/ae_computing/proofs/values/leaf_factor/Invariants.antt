use Rattle.std.proofs.Common.{◌≡◌, drop}
use Rattle.ae_math.specs.Fractions.{◌+ℚ◌}
use Rattle.ae_journal.specs.Values.{leaf_factor}
use Rattle.ae_naturals.specs.Fractions.{value_of}
use Rattle.ae_computing.proofs.TotalLaws.{parts_over}
use Rattle.ae_computing.proofs.values.leaf_factor.Given as goal

abbrev pub invariant-loop-part : goal.invariant-loop-part
invariant-loop-part l =
    value_of l.sum +ℚ leaf_factor (parts_over l.form.den (drop l.part-index l.parts)) l.leaf ≡ leaf_factor (parts_over l.form.den l.parts) l.leaf
