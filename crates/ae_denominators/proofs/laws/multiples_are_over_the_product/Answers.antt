use Rattle.ae_denominators.proofs.Products.{multiple_denominator}
use Rattle.ae_denominators.proofs.laws.multiples_are_over_the_product.Goals as goal

pub returns : goal.returns
returns c = multiple_denominator
