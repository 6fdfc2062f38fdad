use Rattle.ae_name_lines.proofs.Stores.{stores_are_closed}
use Rattle.ae_name_lines.proofs.laws.stores_are_closed.Goals as goal

pub returns : goal.returns
returns c = stores_are_closed
