use Rattle.ae_rules.specs.Valuations.{Where}
use Rattle.ae_evaluation.specs.Consequences.{Stated}
use Rattle.ae_evaluation.proofs.Main.{consequence}
use Rattle.ae_evaluation.proofs.laws.evaluation_respects_consequence.Goals as goal

pub returns-clause-by_test : goal.returns-clause-by_test
returns-clause-by_test c =
    λ sig y lawful completed way assigned assigns E. consequence sig y lawful completed way assigned assigns (Where E)

pub returns-clause-by_literals : goal.returns-clause-by_literals
returns-clause-by_literals c =
    λ sig y lawful completed way assigned assigns ls. consequence sig y lawful completed way assigned assigns (Stated ls)
