use Rattle.std.proofs.Common.{◌≡◌, ◌≤◌, ◌++◌, map, length}
use Rattle.ae_rules.specs.Clauses.{opposite}
use Rattle.ae_explain.specs.Inner.Marks.{lits_below}
use Rattle.ae_explain.proofs.conflict.kept_clause.Given as goal

abbrev pub invariant-loop-place : goal.invariant-loop-place
invariant-loop-place l = record {
  inside : l.place ≤ length l.trail.assigned;
  same : l.clause ++ map opposite (lits_below l.trail.assigned l.marks l.place) ≡ map opposite (lits_below l.trail.assigned l.marks (length l.trail.assigned));
}

abbrev pub decreases-loop-place : goal.decreases-loop-place
decreases-loop-place l = l.place
