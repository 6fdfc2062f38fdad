use Rattle.ae_owed.proofs.Recording.{records_grow}
use Rattle.ae_owed.proofs.laws.records_grow.Goals as goal

pub returns : goal.returns
returns c = records_grow
