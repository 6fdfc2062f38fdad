use Rattle.std.proofs.Common.{◌-◌, ◌≤◌, length, drop}
use Rattle.ae_statereader.specs.Items.{literal_item}
use Rattle.ae_statereader.specs.Lines.{AnyLine, Lines}
use Rattle.ae_statereader.proofs.runs.read_literal_lines.Given as goal

abbrev pub invariant-lines : goal.invariant-lines
invariant-lines l = (l.from ≤ l.at) × (l.from ≤ length l.text → l.at ≤ length l.text) × Lines AnyLine (literal_item l.tables.signature.now) 108 0 l.literals (drop l.from l.text) (drop l.at l.text)

abbrev pub decreases-lines : goal.decreases-lines
decreases-lines l = length l.text - l.at
