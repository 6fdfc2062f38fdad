use Rattle.std.proofs.Common.{◌+◌, ◌-◌, ◌≤◌, length, take}
use Rattle.ae_explain.specs.Trail.{IsLawful}
use Rattle.ae_propagation.specs.Settled.{Grown}
use Rattle.ae_propagation.specs.Watched.{AreQuietBy, pairs}
use Rattle.ae_propagation.specs.Inner.Scan.{open_all}
use Rattle.ae_explain.specs.Assignments.{number_in}
use Rattle.ae_propagation.specs.Inner.Coding.{IsCoded}
use Rattle.ae_propagation.proofs.propagation.settle_from.Given as goal

abbrev pub invariant-loop-place : goal.invariant-loop-place
invariant-loop-place g l = record {
  fit : IsCoded (number_in l.trail.numbers) l.coded;
  lawful : IsLawful l.trail.assigned l.coded.clauses;
  grown : Grown l.fn.trail.assigned l.trail.assigned;
  quiet : AreQuietBy (take l.place l.trail.assigned) l.trail.assigned l.coded.clauses;
  behind : l.fn.from ≤ l.place;
  steps : l.steps + pairs l.trail.assigned l.coded.clauses l.place ≤ l.fn.steps + pairs l.trail.assigned l.coded.clauses l.fn.from;
}

abbrev pub decreases-loop-place : goal.decreases-loop-place
decreases-loop-place g l = open_all l.trail.assigned l.coded.clauses + length l.trail.assigned - l.place
