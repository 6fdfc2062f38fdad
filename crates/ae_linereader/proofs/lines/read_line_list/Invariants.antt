use Rattle.std.proofs.Common.{◌≡◌, ◌≤◌, ◌-◌, length, drop}
use Rattle.ae_readers.specs.Readers.{steps_before}
use Rattle.ae_linereader.specs.Lines.{proof_lines_code}
use Rattle.ae_linereader.proofs.lines.read_line_list.Given as goal

abbrev pub invariant-lines : goal.invariant-lines
invariant-lines l = (l.from ≤ l.at)
    × (l.from ≤ length l.text → l.at ≤ length l.text)
    × ((proof_lines_code l.tables.signature.now).read (drop l.from l.text) ≡ steps_before l.lines ((proof_lines_code l.tables.signature.now).read (drop l.at l.text)))

abbrev pub decreases-lines : goal.decreases-lines
decreases-lines l = length l.text - l.at
