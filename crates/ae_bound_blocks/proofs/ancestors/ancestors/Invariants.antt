use Rattle.std.proofs.Common.{◌≡◌, length}
use Rattle.ae_trim.specs.Inner.Marks.{IsSearched}
use Rattle.ae_bound_blocks.specs.Inner.Marks.{as_lines}
use Rattle.ae_bound_blocks.proofs.ancestors.ancestors.Given as goal

abbrev pub invariant-loop-done : goal.invariant-loop-done
invariant-loop-done l = record {
  count : l.count ≡ length l.rows;
  searched : IsSearched (as_lines l.through l.rows) l.done l.marks.items;
}
