use Rattle.ae_evaluation.proofs.Main.{value_shapes}
use Rattle.ae_evaluation.proofs.laws.values_have_shapes.Goals as goal

pub returns-clause-numbers : goal.returns-clause-numbers
returns-clause-numbers c = λ sig y lawful completed way assigned assigns. (value_shapes sig y lawful completed way assigned assigns).numbers

pub returns-clause-records : goal.returns-clause-records
returns-clause-records c = λ sig y lawful completed way assigned assigns. (value_shapes sig y lawful completed way assigned assigns).records
