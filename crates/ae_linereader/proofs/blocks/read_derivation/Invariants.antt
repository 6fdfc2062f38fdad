use Rattle.std.proofs.Common.{◌≡◌, ◌≤◌, ◌-◌, length, drop}
use Rattle.ae_readers.specs.Readers.{steps_before}
use Rattle.ae_linereader.specs.Lines.{derivation_code}
use Rattle.ae_linereader.proofs.blocks.read_derivation.Given as goal

abbrev pub invariant-lines : goal.invariant-lines
invariant-lines l = (l.from ≤ l.at)
    × (l.from ≤ length l.text → l.at ≤ length l.text)
    × ((derivation_code l.tables.signature.now).read (drop l.from l.text) ≡ steps_before l.lines ((derivation_code l.tables.signature.now).read (drop l.at l.text)))

abbrev pub decreases-lines : goal.decreases-lines
decreases-lines l = length l.text - l.at
