use Rattle.ae_journal.specs.Inner.Numbering.{numbering}
use Rattle.ae_journal.specs.Evaluate.{reduced_by}
use Rattle.ae_evaluation.proofs.Rules.{reduction}
use Rattle.ae_evaluation.proofs.Evaluates.{names_evaluate}
use Rattle.ae_evaluation.proofs.laws.names_evaluate_to_their_values.Goals as goal

pub returns : goal.returns
returns c =
    λ sig y lawful completed way assigned keeps. names_evaluate sig lawful y numbering (reduced_by y) way completed (reduction sig y completed) assigned keeps
