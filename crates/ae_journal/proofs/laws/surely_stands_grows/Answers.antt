use Rattle.ae_journal.proofs.Growing.{surely_stands_grows}
use Rattle.ae_journal.proofs.laws.surely_stands_grows.Goals as goal

pub returns : goal.returns
returns c = surely_stands_grows
