use Rattle.ae_cli.proofs.Ways.{way_below_three}
use Rattle.ae_cli.proofs.laws.ways_are_three.Goals as goal

pub returns : goal.returns
returns c = way_below_three
