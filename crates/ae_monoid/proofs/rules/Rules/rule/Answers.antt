use Rattle.std.proofs.Common.{subst}
use Rattle.ae_monoid.specs.Rules.{AreRules, Contents, rule_at}
use Rattle.ae_monoid.proofs.rules.Rules.rule.Goals as goal

pub returns-clause-rules : goal.returns-clause-rules
returns-clause-rules c = subst (λ (r : Contents). AreRules (λ n. rule_at r n) r.next) c.self.view_is c.self.invariant.are_rules
