use Rattle.ae_matching.proofs.SortLaws.{sorts_found}
use Rattle.ae_matching.proofs.laws.sorts_are_found.Goals as goal

pub returns : goal.returns
returns c = sorts_found
