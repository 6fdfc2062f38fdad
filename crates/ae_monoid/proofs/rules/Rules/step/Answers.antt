use Rattle.std.proofs.Common.{sym}
use Rattle.ae_monoid.proofs.rules.Rules.step.Goals as goal

pub turn-requires-clause-rule : goal.turn-requires-clause-rule
turn-requires-clause-rule g c = c.self.invariant.are_rules.well c.in-Some.number c.in-Some-get.rule.now (sym c.in-Some-get.ensures.value)
