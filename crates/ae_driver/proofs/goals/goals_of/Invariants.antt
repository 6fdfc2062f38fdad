use Rattle.std.proofs.Common.{◌≡◌, ◌++◌, drop}
use Rattle.ae_driver.specs.Checking.{goals_from, goals_of}
use Rattle.ae_driver.proofs.goals.goals_of.Given as goal

abbrev pub invariant-loop-place : goal.invariant-loop-place
invariant-loop-place l = l.goals ++ goals_from l.place (drop l.place l.items) ≡ goals_of l.problem
