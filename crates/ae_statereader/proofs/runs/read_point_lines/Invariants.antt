use Rattle.std.proofs.Common.{◌-◌, ◌≤◌, length, drop}
use Rattle.ae_statereader.specs.Items.{point_item}
use Rattle.ae_statereader.specs.Lines.{AnyLine, Lines}
use Rattle.ae_statereader.proofs.runs.read_point_lines.Given as goal

abbrev pub invariant-lines : goal.invariant-lines
invariant-lines l = (l.from ≤ l.at) × (l.from ≤ length l.text → l.at ≤ length l.text) × Lines AnyLine point_item 112 0 l.points (drop l.from l.text) (drop l.at l.text)

abbrev pub decreases-lines : goal.decreases-lines
decreases-lines l = length l.text - l.at
