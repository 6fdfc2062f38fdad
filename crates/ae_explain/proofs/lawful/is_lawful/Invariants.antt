use Rattle.std.proofs.Common.{ℕ, ◌<◌}
use Rattle.ae_explain.specs.Trail.{at, Enters}
use Rattle.ae_explain.proofs.lawful.is_lawful.Given as goal

abbrev pub invariant-loop-place : goal.invariant-loop-place
invariant-loop-place l = (i : ℕ) → i < l.place → Enters l.trail.assigned l.clauses i (at l.trail.assigned i).by
