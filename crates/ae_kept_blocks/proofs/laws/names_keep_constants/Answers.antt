use Rattle.ae_kept_blocks.proofs.Names.{names_below, new_names}
use Rattle.ae_kept_blocks.proofs.laws.names_keep_constants.Goals as goal

pub returns-clause-below : goal.returns-clause-below
returns-clause-below c = names_below

pub returns-clause-entered : goal.returns-clause-entered
returns-clause-entered c = new_names
