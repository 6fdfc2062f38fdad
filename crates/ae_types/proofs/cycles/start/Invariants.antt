use Rattle.std.proofs.Common.{◌≡◌, ℕ, length}
use Rattle.ae_types.specs.declared.cycles.Mark.TheVariants.{New}
use Rattle.ae_types.specs.Inner.Levels.{empties}
use Rattle.ae_types.specs.Inner.Walks.{levels, mark_at}
use Rattle.ae_types.proofs.cycles.start.Given as goal

abbrev pub invariant-loop-place : goal.invariant-loop-place
invariant-loop-place l = record {
  marks : length l.marks ≡ l._place;
  new : (i : ℕ) → mark_at l.marks i ≡ New;
  empty : empties (levels l.marks) ≡ l._place;
}
