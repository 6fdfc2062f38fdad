use Rattle.std.proofs.Common.{◌≡◌, [], length}
use Rattle.std.specs.List.{AllByRecursion}
use Rattle.ae_between_rounds.specs.Owed.{IsOwedAt}
use Rattle.ae_owed_instances.specs.Inner.Passing.{owed_of}
use Rattle.ae_owed_instances.proofs.finding.put_owed.Given as goal

abbrev pub invariant-loop-subst : goal.invariant-loop-subst
invariant-loop-subst l =
    AllByRecursion (λ m. IsOwedAt l.task.problem.now l.task.goal l.search l.number (owed_of l.place m)) l.owed
    × (AllByRecursion (IsOwedAt l.task.problem.now l.task.goal l.search l.number) l.initial.all → AllByRecursion (IsOwedAt l.task.problem.now l.task.goal l.search l.number) l.all)
    × (l.all ≡ [] → (l.initial.all ≡ []) × (l.owed ≡ l.initial.owed))

abbrev pub decreases-loop-subst : goal.decreases-loop-subst
decreases-loop-subst l = length l.owed
