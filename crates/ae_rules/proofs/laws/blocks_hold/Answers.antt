use Rattle.ae_rules.proofs.Blocks.{block_holds}
use Rattle.ae_rules.proofs.laws.blocks_hold.Goals as goal

pub returns : goal.returns
returns g c = block_holds
