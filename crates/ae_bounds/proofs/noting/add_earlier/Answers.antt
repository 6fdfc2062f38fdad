use Rattle.ae_bounds.proofs.Pushed.{indexed_pushed_least}
use Rattle.ae_bounds.proofs.noting.add_earlier.Goals as goal

pub returns-clause-indexed : goal.returns-clause-indexed
returns-clause-indexed c =
    indexed_pushed_least c.push.result c.args.rows.now c.push.new.rows c.args.directions.now.keys c.push.new.directions.keys c.args.row c.args.earlier c.requires.counts c.requires.indexed c.requires.normal c.requires.least c.requires.earlier
    c.push.ensures.rows c.push.ensures.directions c.push.ensures.kept
