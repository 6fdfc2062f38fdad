use Rattle.std.proofs.Common.{◌≡◌, ◌++◌, drop}
use Rattle.ae_driver.specs.Checking.{names_of}
use Rattle.ae_driver.proofs.goals.names_of.Given as goal

abbrev pub invariant-loop-goal : goal.invariant-loop-goal
invariant-loop-goal l = l.names ++ names_of (drop l.goal-index l.goals) ≡ names_of l.goals
