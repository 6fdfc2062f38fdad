use Rattle.std.proofs.Common.{ℕ, ◌<◌}
use Rattle.ae_explain.specs.Trail.{clause}
use Rattle.ae_propagation.specs.Inner.Scan.{IsIdle}
use Rattle.ae_propagation.proofs.settle.find_work.Given as goal

abbrev pub invariant-loop-k : goal.invariant-loop-k
invariant-loop-k l = (k : ℕ) → k < l.k → IsIdle l.trail.assigned (clause l.clauses k)
