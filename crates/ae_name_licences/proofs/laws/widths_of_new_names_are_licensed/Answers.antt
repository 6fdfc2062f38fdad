use Rattle.ae_name_licences.proofs.Widths.{sums_are_licensed, subtractions_are_licensed, left_factors_are_licensed, right_factors_are_licensed, quotients_are_licensed}
use Rattle.ae_name_licences.proofs.laws.widths_of_new_names_are_licensed.Goals as goal

pub returns-clause-sums : goal.returns-clause-sums
returns-clause-sums c = sums_are_licensed

pub returns-clause-subtractions : goal.returns-clause-subtractions
returns-clause-subtractions c = subtractions_are_licensed

pub returns-clause-left_factors : goal.returns-clause-left_factors
returns-clause-left_factors c = left_factors_are_licensed

pub returns-clause-right_factors : goal.returns-clause-right_factors
returns-clause-right_factors c = right_factors_are_licensed

pub returns-clause-quotients : goal.returns-clause-quotients
returns-clause-quotients c = quotients_are_licensed
