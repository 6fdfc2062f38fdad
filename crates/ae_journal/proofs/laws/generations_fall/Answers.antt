use Rattle.ae_journal.proofs.Falling.{generations_fall}
use Rattle.ae_journal.proofs.laws.generations_fall.Goals as goal

pub returns : goal.returns
returns c = generations_fall
