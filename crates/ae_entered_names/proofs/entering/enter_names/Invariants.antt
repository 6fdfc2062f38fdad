use Rattle.std.proofs.Common.{◌^◌, ◌-◌, ◌≤◌}
use Rattle.ae_entered_names.specs.Inner.Choosing.{ArePlainFrom, GoesOn, HaveStayed, IsSameBeside}
use Rattle.ae_entered_names.proofs.entering.enter_names.Given as goal

abbrev pub invariant-names : goal.invariant-names
invariant-names v l =
    GoesOn l.task.problem.now l.task.goal l.task.generations l.fn.search l.search × IsSameBeside l.fn.search l.search × (l.fn.search.looked ≤ l.search.looked)
    × (ArePlainFrom l.task.problem.now.signature l.fn.search.store l.fn.search.looked → HaveStayed l.fn.search l.search)

abbrev pub decreases-names : goal.decreases-names
decreases-names v l = 2 ^ 64 - l.search.looked
