use Rattle.ae_name_licences.proofs.Widths.{negations_fit, differences_are_licensed, scalings_are_licensed}
use Rattle.ae_name_licences.proofs.laws.widths_of_solving_are_licensed.Goals as goal

pub returns-clause-negations : goal.returns-clause-negations
returns-clause-negations c = negations_fit

pub returns-clause-differences : goal.returns-clause-differences
returns-clause-differences c = differences_are_licensed

pub returns-clause-scalings : goal.returns-clause-scalings
returns-clause-scalings c = scalings_are_licensed
