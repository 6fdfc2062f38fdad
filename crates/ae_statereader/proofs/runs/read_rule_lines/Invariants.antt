use Rattle.std.proofs.Common.{◌-◌, ◌≤◌, length, drop}
use Rattle.ae_statereader.specs.Items.{rule_item}
use Rattle.ae_statereader.specs.Lines.{AnyLine, Lines}
use Rattle.ae_statereader.proofs.runs.read_rule_lines.Given as goal

abbrev pub invariant-lines : goal.invariant-lines
invariant-lines l = (l.from ≤ l.at) × (l.from ≤ length l.text → l.at ≤ length l.text) × Lines AnyLine (rule_item l.tables.terms.signature.now) 114 0 l.rules (drop l.from l.text) (drop l.at l.text)

abbrev pub decreases-lines : goal.decreases-lines
decreases-lines l = length l.text - l.at
