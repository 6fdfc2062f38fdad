use Rattle.ae_matching.proofs.SortCovers.{sorts_covered}
use Rattle.ae_matching.proofs.laws.sort_matching_covers.Goals as goal

pub returns : goal.returns
returns c = sorts_covered
