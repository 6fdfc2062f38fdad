use Rattle.std.proofs.Common.{◌≡◌}
use Rattle.ae_owed_instances.specs.Inner.Falling.{HasFallen, total}
use Rattle.ae_owed_instances.proofs.lowering.lower_all.Given as goal

abbrev pub invariant-passes : goal.invariant-passes
invariant-passes l =
    HasFallen l.task.problem.now l.task.goal l.task.generations l.initial.search l.search
    × (l.search ≡ record l.initial.search { store = l.search.store; ages = l.search.ages; instances = l.search.instances })

abbrev pub decreases-passes : goal.decreases-passes
decreases-passes l = total l.search.instances.made
