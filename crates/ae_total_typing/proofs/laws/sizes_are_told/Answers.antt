use Rattle.ae_total_typing.proofs.ToldSizes.{sizes_told}
use Rattle.ae_total_typing.proofs.laws.sizes_are_told.Goals as goal

pub returns : goal.returns
returns c = sizes_told
