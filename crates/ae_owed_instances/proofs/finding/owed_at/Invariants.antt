use Rattle.std.proofs.Common.{◌≡◌, []}
use Rattle.std.specs.List.{AllByRecursion}
use Rattle.ae_between_rounds.specs.Owed.{IsOwedAt}
use Rattle.ae_owed_instances.specs.Inner.Passing.{HaveNone}
use Rattle.ae_owed_instances.proofs.finding.owed_at.Given as goal

abbrev pub invariant-loop-place : goal.invariant-loop-place
invariant-loop-place l = AllByRecursion (IsOwedAt l.task.problem.now l.task.goal l.search l.number) l.all × (l.all ≡ [] → HaveNone l.search l.number l.place)
