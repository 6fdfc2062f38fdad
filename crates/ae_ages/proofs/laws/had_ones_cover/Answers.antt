use Rattle.ae_ages.proofs.Covering.{had_ones_cover}
use Rattle.ae_ages.proofs.laws.had_ones_cover.Goals as goal

pub returns : goal.returns
returns c = had_ones_cover
