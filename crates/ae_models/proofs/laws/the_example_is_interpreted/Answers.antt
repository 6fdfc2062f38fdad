use Rattle.ae_models.proofs.LawfulExample.{example_lawful}
use Rattle.ae_models.proofs.Example.{example_interprets, plus_commutes_true, two_colours_true, points_are_coordinates_true, no_greatest_true}
use Rattle.ae_models.proofs.laws.the_example_is_interpreted.Goals as goal

pub returns-clause-interpretation : goal.returns-clause-interpretation
returns-clause-interpretation c = example_interprets

pub returns-clause-ac : goal.returns-clause-ac
returns-clause-ac c = λ fresh sorted. plus_commutes_true fresh

pub returns-clause-enumeration : goal.returns-clause-enumeration
returns-clause-enumeration c = λ fresh sorted. two_colours_true fresh

pub returns-clause-record : goal.returns-clause-record
returns-clause-record c = λ fresh sorted. points_are_coordinates_true fresh

pub returns-clause-fractions : goal.returns-clause-fractions
returns-clause-fractions c = λ fresh sorted. no_greatest_true fresh

pub returns-clause-lawful : goal.returns-clause-lawful
returns-clause-lawful c = example_lawful
