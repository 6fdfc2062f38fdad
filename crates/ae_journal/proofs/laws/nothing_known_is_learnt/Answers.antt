use Rattle.ae_journal.proofs.Refusals.{nothing_known_is_learnt}
use Rattle.ae_journal.proofs.laws.nothing_known_is_learnt.Goals as goal

pub returns : goal.returns
returns c = nothing_known_is_learnt
