use Rattle.ae_multiset.proofs.Confluence.{step-less}
use Rattle.ae_multiset.proofs.Reducing.{follows-less, has_reduced, turn_falls}
use Rattle.ae_multiset.proofs.laws.descent.Goals as goal

pub returns-clause-step : goal.returns-clause-step
returns-clause-step g c a b s = step-less (g.R.RuleSet.rule c.args.rules.now) c.requires.decreases s

pub returns-clause-chain : goal.returns-clause-chain
returns-clause-chain g c a b f = follows-less (g.R.RuleSet.rule c.args.rules.now) c.requires.decreases f

pub returns-clause-reduced : goal.returns-clause-reduced
returns-clause-reduced g c fits a = has_reduced (g.R.RuleSet.rule c.args.rules.now) c.requires.decreases fits a

pub returns-clause-falls : goal.returns-clause-falls
returns-clause-falls g c size names a b s p q t = turn_falls (g.R.RuleSet.rule c.args.rules.now) c.requires.decreases size names a b s p q t
