use Rattle.std.proofs.Common.{◌≡◌, map, take, Some}
use Rattle.ae_base.specs.Options.{all_known}
use Rattle.ae_rules.specs.Derivations as spec
use Rattle.ae_calc.proofs.clause_lines.hinted.Given as goal

abbrev pub invariant-loop-hint : goal.invariant-loop-hint
invariant-loop-hint l = all_known (map (spec.stated_by l.problem l.goal l.earlier) (take l.hint-index l.hints)) ≡ Some l.found
