use Rattle.std.proofs.Common.{◌≡◌, ◌-◌, ◌≤◌, length, drop}
use Rattle.ae_readers.specs.Readers.{steps_before}
use Rattle.ae_stategrammar.specs.Journals.{lines}
use Rattle.ae_storyreader.proofs.stories.read_lines.Given as goal

abbrev pub invariant-lines : goal.invariant-lines
invariant-lines l = (l.from ≤ l.at)
    × (l.from ≤ length l.text → l.at ≤ length l.text)
    × ((lines l.tables.terms.signature.now).read (drop l.from l.text) ≡ steps_before l.lines ((lines l.tables.terms.signature.now).read (drop l.at l.text)))

abbrev pub decreases-lines : goal.decreases-lines
decreases-lines l = length l.text - l.at
