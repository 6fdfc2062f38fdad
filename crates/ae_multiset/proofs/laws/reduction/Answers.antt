use Rattle.ae_multiset.proofs.Counts.{same}
use Rattle.ae_multiset.proofs.Confluence.{wider, follows_then, with_itself}
use Rattle.ae_multiset.proofs.Reducing.{turn}
use Rattle.ae_multiset.proofs.laws.reduction.Goals as goal

pub returns-clause-context : goal.returns-clause-context
returns-clause-context g c a b d f = wider (g.R.RuleSet.rule c.args.rules.now) d f

pub returns-clause-chain : goal.returns-clause-chain
returns-clause-chain g c a b d f h = follows_then (g.R.RuleSet.rule c.args.rules.now) f h

pub returns-clause-with_itself : goal.returns-clause-with_itself
returns-clause-with_itself g c l r rule = with_itself (g.R.RuleSet.rule c.args.rules.now) l r l r (same l) (same r)

pub returns-clause-turn : goal.returns-clause-turn
returns-clause-turn g c l r a rest b rule p s t = turn (g.R.RuleSet.rule c.args.rules.now) l r a rest b rule p s t
