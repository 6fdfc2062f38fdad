use Rattle.ae_bounds.proofs.Pushed.{indexed_pushed}
use Rattle.ae_bounds.proofs.noting.add.Goals as goal

pub returns-clause-indexed : goal.returns-clause-indexed
returns-clause-indexed c =
    indexed_pushed c.push.result c.args.rows.now c.push.new.rows c.args.directions.now.keys c.push.new.directions.keys c.args.row c.args.direction c.requires.counts c.requires.indexed c.requires.direction c.requires.alone
    c.push.ensures.rows c.push.ensures.directions c.push.ensures.kept
