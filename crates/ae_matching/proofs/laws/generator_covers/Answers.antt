use Rattle.ae_matching.proofs.Covers.{gen_covers}
use Rattle.ae_matching.proofs.laws.generator_covers.Goals as goal

pub returns : goal.returns
returns c = gen_covers
