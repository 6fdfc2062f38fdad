use Rattle.ae_multiset.proofs.Confluence.{local, confluent, linked_join, unique, only_answer}
use Rattle.ae_multiset.proofs.laws.confluence.Goals as goal

pub returns-clause-local : goal.returns-clause-local
returns-clause-local g c a b d s t = local (g.R.RuleSet.rule c.args.rules.now) c.requires.overlaps s t

pub returns-clause-confluent : goal.returns-clause-confluent
returns-clause-confluent g c a b d f h = confluent (g.R.RuleSet.rule c.args.rules.now) c.requires.overlaps c.requires.decreases f h

pub returns-clause-linked : goal.returns-clause-linked
returns-clause-linked g c a b l = linked_join (g.R.RuleSet.rule c.args.rules.now) c.requires.overlaps c.requires.decreases l

pub returns-clause-unique : goal.returns-clause-unique
returns-clause-unique g c a b p q l = unique (g.R.RuleSet.rule c.args.rules.now) c.requires.overlaps c.requires.decreases a b p q l

pub returns-clause-answer : goal.returns-clause-answer
returns-clause-answer g c a b v f rv rb l = only_answer (g.R.RuleSet.rule c.args.rules.now) c.requires.overlaps c.requires.decreases a b v f rv rb l
