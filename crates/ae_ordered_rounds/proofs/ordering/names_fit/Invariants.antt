use Rattle.std.specs.Prelude.{◌<◌, ◌^◌, take}
use Rattle.std.specs.List.{AllByRecursion}
use Rattle.ae_journal.specs.declared.systems.PointAt.{PointAt}
use Rattle.ae_ordered_rounds.proofs.ordering.names_fit.Given as goal

abbrev pub invariant-loop-at : goal.invariant-loop-at
invariant-loop-at l = AllByRecursion (λ (q : PointAt). q.name < 2 ^ 64) (take l.at-index l.made)
