use Rattle.std.proofs.Common.{◌<◌, ◌≤◌, ◌≡◌, Some, slice_get}
use Rattle.ae_between_rounds.specs.declared.search.Instance.{Instance}
use Rattle.ae_owed_instances.specs.Inner.Falling.{IsMatchNow}
use Rattle.ae_owed_instances.proofs.matching.least_number.Given as goal

abbrev pub invariant-down : goal.invariant-down
invariant-down l = (i : Instance) → slice_get l.search.instances.made l.place ≡ Some i → (l.number ≤ i.number) × (l.number < i.number → IsMatchNow l.task.problem.now l.task.goal l.search l.place l.number)

abbrev pub decreases-down : goal.decreases-down
decreases-down l = l.number
