use Rattle.ae_journal.proofs.Growing.{may_stand_grows}
use Rattle.ae_journal.proofs.laws.may_stand_grows.Goals as goal

pub returns : goal.returns
returns c = may_stand_grows
