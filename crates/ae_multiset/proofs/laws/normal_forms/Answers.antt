use Rattle.std.proofs.Common.{sym}
use Rattle.ae_multiset.proofs.Counts.{back}
use Rattle.ae_multiset.proofs.Confluence.{only_answer}
use Rattle.ae_multiset.proofs.NormalForms.{nf_one, nf_linked, nf_first, nf_second}
use Rattle.ae_multiset.proofs.laws.normal_forms.Goals as goal

pub returns-clause-one : goal.returns-clause-one
returns-clause-one g c f h p q a = nf_one (g.R.RuleSet.rule c.args.rules.now) c.requires.decreases c.requires.overlaps f p h q a

pub returns-clause-only : goal.returns-clause-only
returns-clause-only g c f p a b l r = back (only_answer (g.R.RuleSet.rule c.args.rules.now) c.requires.overlaps c.requires.decreases a b (f a) (p.follows a) (p.reduced a) r l)

pub returns-clause-linked : goal.returns-clause-linked
returns-clause-linked g c f p a b l = nf_linked (g.R.RuleSet.rule c.args.rules.now) c.requires.decreases c.requires.overlaps f p a b l

pub returns-clause-first : goal.returns-clause-first
returns-clause-first g c f p a b = sym (nf_first (g.R.RuleSet.rule c.args.rules.now) c.requires.decreases c.requires.overlaps f p a b)

pub returns-clause-second : goal.returns-clause-second
returns-clause-second g c f p a b = sym (nf_second (g.R.RuleSet.rule c.args.rules.now) c.requires.decreases c.requires.overlaps f p a b)
