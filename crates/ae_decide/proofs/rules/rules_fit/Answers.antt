use Rattle.std.proofs.Common.{◌≡◌, true}
use Rattle.std.specs.Prelude.{◌↔◌}
use Rattle.std.proofs.lemmas.Result.{IfOk-weaker}
use Rattle.std.specs.List.{list_all}
use Rattle.ae_decide.specs.Clauses.{RulesFit}
use Rattle.ae_decide.specs.Rules.{rule_fits}
use Rattle.ae_decide.proofs.RuleTests.{rules_tested}
use Rattle.ae_decide.proofs.rules.rules_fit.Goals as goal

pub returns : goal.returns
returns c =
    let sig = c.args.signature.now in
    let y = c.args.system.now in
    IfOk-weaker c.all_fit.result (λ b. b ≡ list_all (rule_fits sig y) y.rules) (λ b. (b ≡ true) ↔ RulesFit sig y) (rules_tested sig y c.requires.leaves) c.all_fit.ensures
