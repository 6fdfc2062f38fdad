use Rattle.ae_match.proofs.SeenLaws.{seen_sound}
use Rattle.ae_match.proofs.laws.stores_are_sound.Goals as goal

pub returns : goal.returns
returns c = λ sig ns s. seen_sound sig ns s
