use Rattle.ae_kept_heads.proofs.Heads.{heads_stay}
use Rattle.ae_kept_heads.proofs.laws.heads_stay.Goals as goal

pub returns : goal.returns
returns c = heads_stay
