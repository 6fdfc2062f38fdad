use Rattle.std.proofs.Common.{◌≡◌, ◌≤◌, ◌+◌, ◌*◌, ◌-◌, length, drop}
use Rattle.ae_readers.specs.Readers.{row_read, before}
use Rattle.ae_valuereader.specs.Values.{field_rows}
use Rattle.ae_valuereader.proofs.values.+read_value.Given as goal

abbrev pub decreases-read_value : goal.decreases-read_value
decreases-read_value l = 9 * (length l.text.now - l.at) + 1

abbrev pub decreases-read_by_byte : goal.decreases-read_by_byte
decreases-read_by_byte l = 9 * (length l.text.now - l.at)

abbrev pub decreases-read_bracket : goal.decreases-read_bracket
decreases-read_bracket l = 9 * (length l.text.now - l.at) + 8

abbrev pub decreases-read_compound : goal.decreases-read_compound
decreases-read_compound l = 9 * (length l.text.now - l.at) + 7

abbrev pub decreases-read_fields : goal.decreases-read_fields
decreases-read_fields l = 9 * (length l.text.now - l.at) + 3

abbrev pub decreases-read_row : goal.decreases-read_row
decreases-read_row l = 9 * (length l.text.now - l.from) + 2

abbrev pub invariant-read_row-values : goal.invariant-read_row-values
invariant-read_row-values l = (l.from ≤ l.at)
    × (l.from ≤ length l.text → l.at ≤ length l.text)
    × (row_read field_rows (drop l.from l.text) ≡ before l.values (row_read field_rows (drop l.at l.text)))

abbrev pub decreases-read_row-values : goal.decreases-read_row-values
decreases-read_row-values l = length l.text - l.at
