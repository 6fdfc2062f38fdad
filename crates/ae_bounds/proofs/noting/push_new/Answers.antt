use Rattle.ae_bounds.proofs.Pushed.{pushed_new}
use Rattle.ae_bounds.proofs.noting.push_new.Goals as goal

pub returns-clause-directions : goal.returns-clause-directions
returns-clause-directions c = pushed_new c.push.result c.args.directions.now.keys c.push.new.directions.keys c.args.direction c.requires.new c.push.ensures.directions
