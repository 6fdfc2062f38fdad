use Rattle.std.proofs.Common.{◌≡◌, ◌++◌, drop}
use Rattle.std.specs.List.{flat_map}
use Rattle.ae_stategrammar.specs.StateTexts.{rule_line}
use Rattle.ae_statetext.proofs.states.put_rule_lines.Given as goal

abbrev pub invariant-loop-rule : goal.invariant-loop-rule
invariant-loop-rule l = l.out.items ++ flat_map (rule_line l.signature) (drop l.rule-index l.rules) ≡ l.fn.out.items ++ flat_map (rule_line l.signature) l.rules
