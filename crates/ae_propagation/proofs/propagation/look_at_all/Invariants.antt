use Rattle.std.proofs.Common.{◌≡◌, ℕ, ◌+◌, ◌<◌, length, take}
use Rattle.ae_explain.specs.Trail.{clause, IsLawful}
use Rattle.ae_propagation.specs.Settled.{Grown}
use Rattle.ae_explain.specs.Assignments.{number_in}
use Rattle.ae_propagation.specs.Inner.Coding.{IsCoded}
use Rattle.ae_propagation.specs.Watched.{IsQuietBy}
use Rattle.ae_propagation.proofs.propagation.look_at_all.Given as goal

abbrev pub invariant-loop-number : goal.invariant-loop-number
invariant-loop-number g l = record {
  fit : IsCoded (number_in l.trail.numbers) l.coded;
  lawful : IsLawful l.trail.assigned l.coded.clauses;
  grown : Grown l.fn.trail.assigned l.trail.assigned;
  quiet : (k : ℕ) → k < l.number → IsQuietBy (take (length l.fn.trail.assigned) l.trail.assigned) l.trail.assigned (clause l.coded.clauses k);
  steps : l.steps ≡ l.fn.steps + l.number;
}
