use Rattle.ae_denominators.proofs.Products.{put_denominator}
use Rattle.ae_denominators.proofs.laws.values_put_are_over_the_product.Goals as goal

pub returns : goal.returns
returns c = put_denominator
