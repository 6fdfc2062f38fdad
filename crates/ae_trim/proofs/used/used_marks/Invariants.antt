use Rattle.std.proofs.Common.{◌≡◌, length}
use Rattle.ae_trim.specs.Inner.Marks.{IsSearched}
use Rattle.ae_trim.proofs.used.used_marks.Given as goal

abbrev pub invariant-loop-done : goal.invariant-loop-done
invariant-loop-done l = record {
  count : l.count ≡ length l.lines;
  searched : IsSearched l.lines l.done l.marks.items;
}
