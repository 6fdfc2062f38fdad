use Rattle.ae_math.proofs.FormLaws.{value-same, value-plus, value-scale, value-number, value-single, value-substitute}
use Rattle.ae_math.proofs.laws.forms_have_values.Goals as goal

pub returns-clause-same : goal.returns-clause-same
returns-clause-same g c = value-same

pub returns-clause-sums : goal.returns-clause-sums
returns-clause-sums g c = value-plus

pub returns-clause-multiples : goal.returns-clause-multiples
returns-clause-multiples g c = value-scale

pub returns-clause-numbers : goal.returns-clause-numbers
returns-clause-numbers g c = value-number

pub returns-clause-keys : goal.returns-clause-keys
returns-clause-keys g c = value-single

pub returns-clause-substitution : goal.returns-clause-substitution
returns-clause-substitution g c = value-substitute
