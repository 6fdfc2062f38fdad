use Rattle.std.proofs.Common.{◌≡◌, ◌++◌, drop}
use Rattle.ae_stategrammar.specs.StateTexts.{value_lines}
use Rattle.ae_statetext.proofs.states.put_value_lines.Given as goal

abbrev pub invariant-loop-value : goal.invariant-loop-value
invariant-loop-value l = (l.name ≡ l.value-index) × (l.out.items ++ value_lines l.name (drop l.value-index l.values) ≡ l.fn.out.items ++ value_lines 0 l.values)
