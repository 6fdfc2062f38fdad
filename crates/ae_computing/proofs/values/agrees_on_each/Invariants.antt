use Rattle.std.proofs.Common.{◌≡◌, true, take}
use Rattle.std.specs.Prelude.{map}
use Rattle.std.specs.List.{list_all}
use Rattle.ae_computing.specs.Inner.Totals.{summand, agrees_on_summand}
use Rattle.ae_computing.proofs.values.agrees_on_each.Given as goal

abbrev pub invariant-loop-summand : goal.invariant-loop-summand
invariant-loop-summand l = list_all (agrees_on_summand l.value (map summand l.summands)) (take l.summand-index l.summands) ≡ true
