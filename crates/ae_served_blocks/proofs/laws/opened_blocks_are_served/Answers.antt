use Rattle.ae_served_blocks.proofs.Served.{are_served}
use Rattle.ae_served_blocks.proofs.laws.opened_blocks_are_served.Goals as goal

pub returns : goal.returns
returns c = are_served
