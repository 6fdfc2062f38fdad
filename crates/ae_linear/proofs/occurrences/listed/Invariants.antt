use Rattle.std.proofs.Common.{ℕ, ◌≤◌, length, ◌⊎◌}
use Rattle.std.specs.List.{Contains}
use Rattle.ae_linear.specs.Inner.Occurrences.{OccursFrom}
use Rattle.ae_linear.proofs.occurrences.listed.Given as goal

abbrev pub invariant-loop-at : goal.invariant-loop-at
invariant-loop-at l = record {
  within : l.at ≤ length l.links;
  all : (row : ℕ) → OccursFrom l.links l.initial.at row → Contains l.rows.items row ⊎ OccursFrom l.links l.at row;
}

abbrev pub decreases-loop-at : goal.decreases-loop-at
decreases-loop-at l = l.at
