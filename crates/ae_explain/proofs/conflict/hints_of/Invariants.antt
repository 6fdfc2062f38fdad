use Rattle.std.proofs.Common.{◌≡◌, ◌-◌, ◌++◌, length}
use Rattle.ae_explain.specs.Inner.Marks.{hints_from}
use Rattle.ae_explain.proofs.conflict.hints_of.Given as goal

abbrev pub invariant-loop-place : goal.invariant-loop-place
invariant-loop-place l = l.hints ++ hints_from l.trail.assigned l.marks l.last l.place (length l.trail.assigned - l.place) ≡ hints_from l.trail.assigned l.marks l.last 0 (length l.trail.assigned)
