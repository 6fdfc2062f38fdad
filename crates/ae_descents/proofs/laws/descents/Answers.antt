use Rattle.ae_descents.proofs.Descending.{descends_then, descends_inside, reduced, renamed}
use Rattle.ae_descents.proofs.laws.descents.Goals as goal

pub returns-clause-chain : goal.returns-clause-chain
returns-clause-chain g c a b d p q = descends_then (g.R.Replacing.name c.args.by.now) (g.R.Replacing.rule c.args.by.now) p q

pub returns-clause-context : goal.returns-clause-context
returns-clause-context g c a b d p = descends_inside (g.R.Replacing.name c.args.by.now) (g.R.Replacing.rule c.args.by.now) d p

pub returns-clause-reduced : goal.returns-clause-reduced
returns-clause-reduced g c a b f = reduced (g.R.Replacing.name c.args.by.now) (g.R.Replacing.rule c.args.by.now) f

pub returns-clause-renamed : goal.returns-clause-renamed
returns-clause-renamed g c rep h a = renamed (g.R.Replacing.name c.args.by.now) (g.R.Replacing.rule c.args.by.now) rep h a
