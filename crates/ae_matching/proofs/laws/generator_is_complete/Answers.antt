use Rattle.ae_matching.proofs.Offers.{gen_offers}
use Rattle.ae_matching.proofs.laws.generator_is_complete.Goals as goal

pub returns : goal.returns
returns c = gen_offers
