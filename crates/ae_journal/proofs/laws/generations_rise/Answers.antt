use Rattle.ae_journal.proofs.Generations.{generations_rise}
use Rattle.ae_journal.proofs.laws.generations_rise.Goals as goal

pub returns : goal.returns
returns c = generations_rise
