use Rattle.std.proofs.Common.{◌≡◌, ℕ, ◌≤◌, true, length}
use Rattle.ae_explain.specs.Inner.Marks.{marked, State}
use Rattle.ae_explain.proofs.marks.resolve.Given as goal

abbrev pub invariant-loop-place : goal.invariant-loop-place
invariant-loop-place l = record {
  inside : l.place ≤ length l.trail.assigned;
  state : State l.trail.assigned l.clauses l.marks l.level l.place l.left;
  grows : (p : ℕ) → marked l.fn.marks p ≡ true → marked l.marks p ≡ true;
}

abbrev pub decreases-loop-place : goal.decreases-loop-place
decreases-loop-place l = l.place
