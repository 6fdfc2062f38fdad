use Rattle.ae_owed_matches.proofs.FoundLaws.{any_match_is_found}
use Rattle.ae_owed_matches.proofs.laws.any_match_is_found.Goals as goal

pub returns : goal.returns
returns c = any_match_is_found
