use lib.IntN.{+ℤ_assoc, +ℤ_idl, +ℤ_invr, *ℤ_comm}
use Rattle.ae_math.specs.Inner.Integers.{add_comm_z, mul_assoc_z, mul_add_z, one_mul_z}
use Rattle.ae_math.proofs.laws.integers_are_a_ring.Goals as goal

pub returns-clause-sums_associate : goal.returns-clause-sums_associate
returns-clause-sums_associate c = +ℤ_assoc

pub returns-clause-sums_commute : goal.returns-clause-sums_commute
returns-clause-sums_commute c = add_comm_z

pub returns-clause-zero : goal.returns-clause-zero
returns-clause-zero c = +ℤ_idl

pub returns-clause-negation : goal.returns-clause-negation
returns-clause-negation c = +ℤ_invr

pub returns-clause-products_associate : goal.returns-clause-products_associate
returns-clause-products_associate c = mul_assoc_z

pub returns-clause-products_commute : goal.returns-clause-products_commute
returns-clause-products_commute c = *ℤ_comm

pub returns-clause-one : goal.returns-clause-one
returns-clause-one c = one_mul_z

pub returns-clause-products_distribute : goal.returns-clause-products_distribute
returns-clause-products_distribute c = mul_add_z
