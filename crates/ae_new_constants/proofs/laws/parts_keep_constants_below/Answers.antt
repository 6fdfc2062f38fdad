use Rattle.ae_new_constants.proofs.Terms.{arguments, fields, built}
use Rattle.ae_new_constants.proofs.Formulas.{parts_below, outside_below}
use Rattle.ae_new_constants.proofs.Put.{formula_put}
use Rattle.ae_new_constants.proofs.laws.parts_keep_constants_below.Goals as goal

pub returns-clause-parts : goal.returns-clause-parts
returns-clause-parts c = parts_below

pub returns-clause-outside : goal.returns-clause-outside
returns-clause-outside c = outside_below

pub returns-clause-arguments : goal.returns-clause-arguments
returns-clause-arguments c = arguments

pub returns-clause-fields : goal.returns-clause-fields
returns-clause-fields c = λ n k s t a. fields n s t k a

pub returns-clause-put : goal.returns-clause-put
returns-clause-put c = λ n ts f all a. formula_put n ts all f a

pub returns-clause-built : goal.returns-clause-built
returns-clause-built c = λ n sig names u all b. built n sig names all u b
