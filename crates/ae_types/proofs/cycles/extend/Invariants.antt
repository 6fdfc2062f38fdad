use Rattle.std.proofs.Common.{◌≡◌, ℕ, length}
use Rattle.ae_types.specs.declared.cycles.Mark.TheVariants.{New}
use Rattle.ae_types.specs.Inner.Walks.{mark_at}
use Rattle.ae_types.proofs.cycles.extend.Given as goal

abbrev pub invariant-loop-place : goal.invariant-loop-place
invariant-loop-place l = record {
  new : (i : ℕ) → mark_at l.marks i ≡ New;
  size : length l.marks ≡ l._place;
}
