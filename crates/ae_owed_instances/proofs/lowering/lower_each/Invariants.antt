use Rattle.std.proofs.Common.{ℕ, ◌<◌, ◌≡◌, true, false}
use Rattle.ae_owed_instances.specs.Inner.Falling.{HasFallen, IsLeastNow, total}
use Rattle.ae_owed_instances.proofs.lowering.lower_each.Given as goal

abbrev pub invariant-loop-place : goal.invariant-loop-place
invariant-loop-place l =
    HasFallen l.task.problem.now l.task.goal l.task.generations l.initial.search l.search
    × (l.fell ≡ true → total l.search.instances.made < total l.initial.search.instances.made)
    × (l.fell ≡ false → (k : ℕ) → k < l.place → IsLeastNow l.task.problem.now l.task.goal l.search k)
    × (l.search ≡ record l.initial.search { store = l.search.store; ages = l.search.ages; instances = l.search.instances })
