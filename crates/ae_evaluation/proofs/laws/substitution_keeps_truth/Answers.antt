use Rattle.ae_journal.specs.Inner.Numbering.{numbering}
use Rattle.ae_journal.specs.Evaluate.{reduced_by, unassigned, value}
use Rattle.ae_evaluation.proofs.Main.{value_shapes}
use Rattle.ae_evaluation.proofs.FreshValues.{fill_of, variables_same}
use Rattle.ae_evaluation.proofs.PutTruth.{keeps_truth}
use Rattle.ae_evaluation.proofs.laws.substitution_keeps_truth.Goals as goal

pub returns : goal.returns
returns c = λ sig y lawful completed way assigned assigns ls ss cs ts p q e f i n.
    let fc = fill_of sig cs ss p in
    let ft = fill_of sig ts ss q in
    let same = variables_same sig (value sig y way assigned) (value sig y way unassigned) ss cs ts fc ft e in
    let shapes = value_shapes sig y lawful completed way assigned assigns in
    keeps_truth sig y numbering (reduced_by y) way ls assigned unassigned shapes ss cs ts fc same f i.simple i.terms n
