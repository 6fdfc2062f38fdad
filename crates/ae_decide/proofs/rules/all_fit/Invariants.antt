use Rattle.std.proofs.Common.{◌≡◌, true, take}
use Rattle.std.specs.List.{list_all}
use Rattle.ae_decide.specs.Rules.{rule_fits}
use Rattle.ae_decide.proofs.rules.all_fit.Given as goal

abbrev pub invariant-loop-rule : goal.invariant-loop-rule
invariant-loop-rule l = list_all (rule_fits l.signature l.system) (take l.rule-index l.rules) ≡ true
