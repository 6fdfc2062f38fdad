use Rattle.std.proofs.Common.{◌≡◌, true, take}
use Rattle.std.specs.List.{list_all}
use Rattle.ae_counts.specs.Inner.Counted as spec
use Rattle.ae_counts.proofs.states.rules_count.Given as goal

abbrev pub invariant-loop-rule : goal.invariant-loop-rule
invariant-loop-rule l = list_all spec.rule_counts (take l.rule-index l.rules) ≡ true
