use Rattle.std.proofs.Common.{◌≡◌, ◌≤◌, ◌+◌, ◌*◌, ◌-◌, length, drop}
use Rattle.ae_readers.specs.Readers.{row_read, before}
use Rattle.ae_termreader.specs.Sorts.{sort_rows}
use Rattle.ae_termreader.proofs.sorts.+read_sort.Given as goal

abbrev pub decreases-read_sort : goal.decreases-read_sort
decreases-read_sort l = 5 * (length l.text.now - l.at) + 1

abbrev pub decreases-read_by_byte : goal.decreases-read_by_byte
decreases-read_by_byte l = 5 * (length l.text.now - l.at)

abbrev pub decreases-read_compound : goal.decreases-read_compound
decreases-read_compound l = 5 * (length l.text.now - l.at) + 4

abbrev pub decreases-read_sort_row : goal.decreases-read_sort_row
decreases-read_sort_row l = 5 * (length l.text.now - l.from) + 2

abbrev pub invariant-read_sort_row-values : goal.invariant-read_sort_row-values
invariant-read_sort_row-values l = (l.from ≤ l.at)
    × (l.from ≤ length l.text → l.at ≤ length l.text)
    × (row_read (sort_rows l.tables.signature.now l.square) (drop l.from l.text) ≡ before l.sorts (row_read (sort_rows l.tables.signature.now l.square) (drop l.at l.text)))

abbrev pub decreases-read_sort_row-values : goal.decreases-read_sort_row-values
decreases-read_sort_row-values l = length l.text - l.at
