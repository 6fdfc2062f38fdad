use Rattle.std.proofs.Common.{◌+◌}
use Rattle.std.specs.BTreeSet.{keys}
use Rattle.ae_just.specs.Inner.Pending.{limit, IsSearched}
use Rattle.ae_just.proofs.needed.needed.Given as goal

abbrev pub invariant-loop-step : goal.invariant-loop-step
invariant-loop-step l = IsSearched l.steps l.id (keys l.pending) l.found.items

abbrev pub decreases-loop-step : goal.decreases-loop-step
decreases-loop-step l = limit (l.id + 1) l.found.items
