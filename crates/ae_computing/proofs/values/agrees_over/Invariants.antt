use Rattle.std.proofs.Common.{◌≡◌, true, take}
use Rattle.std.specs.Prelude.{map}
use Rattle.std.specs.List.{list_all}
use Rattle.ae_computing.specs.Inner.Totals.{summand, agrees_at}
use Rattle.ae_computing.specs.declared.values.Place.TheVariants.{Leaf}
use Rattle.ae_computing.proofs.values.agrees_over.Given as goal

abbrev pub invariant-loop-part : goal.invariant-loop-part
invariant-loop-part l = list_all (λ q. agrees_at l.value (map summand l.summands) (Leaf q.key)) (take l.part-index l.parts) ≡ true
