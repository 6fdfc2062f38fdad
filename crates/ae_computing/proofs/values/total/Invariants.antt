use Rattle.std.proofs.Common.{◌≡◌, drop}
use Rattle.std.specs.Prelude.{map}
use Rattle.ae_math.specs.Fractions.{◌+ℚ◌}
use Rattle.ae_naturals.specs.Fractions.{value_of}
use Rattle.ae_computing.specs.Inner.Totals.{summand, total}
use Rattle.ae_computing.proofs.values.total.Given as goal

abbrev pub invariant-loop-summand : goal.invariant-loop-summand
invariant-loop-summand l =
    value_of l.sum +ℚ total (map summand (drop l.summand-index l.summands)) l.place ≡ total (map summand l.summands) l.place
