use Rattle.ae_journal.proofs.Refusals.{nothing_sure_is_decided}
use Rattle.ae_journal.proofs.laws.nothing_sure_is_decided.Goals as goal

pub returns : goal.returns
returns c = nothing_sure_is_decided
