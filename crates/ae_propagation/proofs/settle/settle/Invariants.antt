use Rattle.ae_explain.specs.Trail.{IsLawful}
use Rattle.ae_propagation.specs.Settled.{Grown}
use Rattle.ae_propagation.specs.Inner.Scan.{open_all}
use Rattle.ae_propagation.proofs.settle.settle.Given as goal

abbrev pub invariant-loop-k : goal.invariant-loop-k
invariant-loop-k l = record {
  lawful : IsLawful l.trail.assigned l.clauses;
  grown : Grown l.fn.trail.assigned l.trail.assigned;
}

abbrev pub decreases-loop-k : goal.decreases-loop-k
decreases-loop-k l = open_all l.trail.assigned l.clauses
