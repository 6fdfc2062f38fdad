use Rattle.ae_math.proofs.FractionLaws.{frac_plus, frac_times, frac_same, same_frac, add_assoc_q, add_comm_q, zero_add_q, add_neg_q, mul_assoc_q, mul_comm_q, one_mul_q, mul_add_q, times_inverse}
use Rattle.ae_math.proofs.laws.fractions_are_a_field.Goals as goal

pub returns-clause-same : goal.returns-clause-same
returns-clause-same c = frac_same

pub returns-clause-crosswise : goal.returns-clause-crosswise
returns-clause-crosswise c = same_frac

pub returns-clause-sums_associate : goal.returns-clause-sums_associate
returns-clause-sums_associate c = add_assoc_q

pub returns-clause-sums_commute : goal.returns-clause-sums_commute
returns-clause-sums_commute c = add_comm_q

pub returns-clause-zero : goal.returns-clause-zero
returns-clause-zero c = zero_add_q

pub returns-clause-negation : goal.returns-clause-negation
returns-clause-negation c = add_neg_q

pub returns-clause-products_associate : goal.returns-clause-products_associate
returns-clause-products_associate c = mul_assoc_q

pub returns-clause-products_commute : goal.returns-clause-products_commute
returns-clause-products_commute c = mul_comm_q

pub returns-clause-one : goal.returns-clause-one
returns-clause-one c = one_mul_q

pub returns-clause-products_distribute : goal.returns-clause-products_distribute
returns-clause-products_distribute c = mul_add_q

pub returns-clause-inverse : goal.returns-clause-inverse
returns-clause-inverse c = times_inverse

pub returns-clause-sums : goal.returns-clause-sums
returns-clause-sums c = frac_plus

pub returns-clause-products : goal.returns-clause-products
returns-clause-products c = frac_times
