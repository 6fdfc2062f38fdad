use Rattle.std.proofs.Common.{◌-◌, ◌≤◌, length, drop}
use Rattle.ae_statereader.specs.Items.{value_item}
use Rattle.ae_statereader.specs.Lines.{HasNumber, Lines}
use Rattle.ae_statereader.proofs.runs.read_value_lines.Given as goal

abbrev pub invariant-lines : goal.invariant-lines
invariant-lines l = (l.from ≤ l.at) × (l.from ≤ length l.text → l.at ≤ length l.text) × Lines HasNumber value_item 118 0 l.values (drop l.from l.text) (drop l.at l.text)

abbrev pub decreases-lines : goal.decreases-lines
decreases-lines l = length l.text - l.at
