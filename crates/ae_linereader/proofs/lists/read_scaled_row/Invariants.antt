use Rattle.std.proofs.Common.{◌≡◌, ◌≤◌, ◌-◌, length, drop}
use Rattle.ae_readers.specs.Readers.{row_read, before}
use Rattle.ae_linereader.specs.Rules.{scaled_rows}
use Rattle.ae_linereader.proofs.lists.read_scaled_row.Given as goal

abbrev pub invariant-values : goal.invariant-values
invariant-values l = (l.from ≤ l.at)
    × (l.from ≤ length l.text → l.at ≤ length l.text)
    × (row_read scaled_rows (drop l.from l.text) ≡ before l.parts (row_read scaled_rows (drop l.at l.text)))

abbrev pub decreases-values : goal.decreases-values
decreases-values l = length l.text - l.at
