use Rattle.std.proofs.Common.{◌≡◌, ℕ, ◌+◌, ◌<◌, ◌≤◌, length, take, slice_index}
use Rattle.ae_explain.specs.Trail.{clause, IsLawful}
use Rattle.ae_propagation.specs.Settled.{Grown}
use Rattle.ae_explain.specs.Assignments.{number_in}
use Rattle.ae_propagation.specs.Inner.Coding.{IsCoded}
use Rattle.ae_propagation.specs.Watched.{IsQuietBy}
use Rattle.ae_propagation.specs.Inner.Scan.{open_all}
use Rattle.ae_propagation.proofs.propagation.look_at_each.Given as goal

abbrev pub invariant-loop-i : goal.invariant-loop-i
invariant-loop-i g l = record {
  fit : IsCoded (number_in l.trail.numbers) l.coded;
  lawful : IsLawful l.trail.assigned l.coded.clauses;
  grown : Grown l.fn.trail.assigned l.trail.assigned;
  falls : open_all l.trail.assigned l.coded.clauses + length l.trail.assigned ≤ open_all l.fn.trail.assigned l.coded.clauses + length l.fn.trail.assigned;
  quiet : (n : ℕ) → n ≤ length l.fn.trail.assigned → (i : ℕ) → i < l.i → IsQuietBy (take n l.trail.assigned) l.trail.assigned (clause l.coded.clauses (slice_index l.numbers i));
  steps : l.steps ≡ l.fn.steps + l.i;
}
