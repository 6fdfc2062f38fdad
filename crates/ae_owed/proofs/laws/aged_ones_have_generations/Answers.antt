use Rattle.ae_owed.proofs.Ages.{aged_ones_have_generations}
use Rattle.ae_owed.proofs.laws.aged_ones_have_generations.Goals as goal

pub returns : goal.returns
returns c = aged_ones_have_generations
