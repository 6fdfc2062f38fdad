use Rattle.std.proofs.Common.{◌≡◌, ◌≤◌, ◌-◌, length, drop}
use Rattle.ae_readers.specs.Readers.{row_read, before}
use Rattle.ae_formulareader.specs.Literals.{literal_rows}
use Rattle.ae_formulareader.proofs.literals.read_literal_row.Given as goal

abbrev pub invariant-values : goal.invariant-values
invariant-values l = (l.from ≤ l.at)
    × (l.from ≤ length l.text → l.at ≤ length l.text)
    × (row_read (literal_rows l.tables.signature.now) (drop l.from l.text) ≡ before l.literals (row_read (literal_rows l.tables.signature.now) (drop l.at l.text)))

abbrev pub decreases-values : goal.decreases-values
decreases-values l = length l.text - l.at
