use Rattle.std.specs.Prelude.{◌≤◌, take}
use Rattle.ae_journal.specs.Journals.{live}
use Rattle.ae_journal.specs.declared.lines.Line.TheVariants as written
use Rattle.ae_gaps.specs.Inner.Places.{IsPlaced}
use Rattle.ae_gaps.proofs.orders.is_noted.Given as goal

abbrev pub invariant-loop-line : goal.invariant-loop-line
invariant-loop-line l = record {
  placed : IsPlaced (live (take l.line-index l.lines)) (written.Pair l.symbol l.left l.right) l.place;
  few : l.place.decided ≤ l.line-index;
}
