use Rattle.ae_matching.proofs.Found.{each_found}
use Rattle.ae_matching.proofs.laws.each_match_is_found.Goals as goal

pub returns : goal.returns
returns c = each_found
