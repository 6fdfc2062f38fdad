use Rattle.ae_monoid.specs.Rules.{rule_at}
use Rattle.ae_monoid.specs.Inner.Chains.{IsOnOf}
use Rattle.ae_monoid.specs.Inner.Indexes.{hiding}
use Rattle.ae_monoid.proofs.Seeking.{IsSeeking}
use Rattle.ae_monoid.proofs.rules.Rules.find_but.Given as goal

abbrev pub invariant-loop-i : goal.invariant-loop-i
invariant-loop-i g l = IsSeeking (hiding (λ m. rule_at l.self m) l.but) (λ x n. IsOnOf l.self.largest l.self.links x n) l.symbol l.names l.i l.initial.steps l.steps
