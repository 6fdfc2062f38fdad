use Rattle.ae_denominators.proofs.Products.{sum_denominator, difference_denominator}
use Rattle.ae_denominators.proofs.laws.sums_are_over_the_product.Goals as goal

pub returns-clause-sum : goal.returns-clause-sum
returns-clause-sum c = sum_denominator

pub returns-clause-difference : goal.returns-clause-difference
returns-clause-difference c = difference_denominator
