use Rattle.ae_math.proofs.FormLaws.{plus_comm, plus_assoc, zero_plus, minus_self, scale_zero, scale_one, scale_scale, scale_plus, plus_scale, scale_cancel}
use Rattle.ae_math.proofs.laws.forms_are_vectors.Goals as goal

pub returns-clause-sums_commute : goal.returns-clause-sums_commute
returns-clause-sums_commute g c = plus_comm

pub returns-clause-sums_associate : goal.returns-clause-sums_associate
returns-clause-sums_associate g c = plus_assoc

pub returns-clause-zero : goal.returns-clause-zero
returns-clause-zero g c = zero_plus

pub returns-clause-negation : goal.returns-clause-negation
returns-clause-negation g c = minus_self

pub returns-clause-by_zero : goal.returns-clause-by_zero
returns-clause-by_zero g c = scale_zero

pub returns-clause-by_one : goal.returns-clause-by_one
returns-clause-by_one g c = scale_one

pub returns-clause-twice : goal.returns-clause-twice
returns-clause-twice g c = scale_scale

pub returns-clause-of_sums : goal.returns-clause-of_sums
returns-clause-of_sums g c = scale_plus

pub returns-clause-by_sums : goal.returns-clause-by_sums
returns-clause-by_sums g c = plus_scale

pub returns-clause-cancelled : goal.returns-clause-cancelled
returns-clause-cancelled g c = scale_cancel
