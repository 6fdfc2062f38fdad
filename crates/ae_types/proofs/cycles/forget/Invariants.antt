use Rattle.std.proofs.Common.{◌≡◌, length}
use Rattle.ae_types.specs.Inner.Walks.{Noted}
use Rattle.ae_types.proofs.cycles.forget.Given as goal

abbrev pub invariant-loop-place : goal.invariant-loop-place
invariant-loop-place l = record {
  size : length l.marks ≡ length l.fn.marks;
  noted : Noted l.marks l.seen;
}

abbrev pub decreases-loop-place : goal.decreases-loop-place
decreases-loop-place l = length l.seen
