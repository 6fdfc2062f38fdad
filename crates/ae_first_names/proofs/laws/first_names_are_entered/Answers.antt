use Rattle.ae_first_names.proofs.FirstNames.{all_named, named_by}
use Rattle.ae_first_names.proofs.laws.first_names_are_entered.Goals as goal

pub returns-clause-named : goal.returns-clause-named
returns-clause-named c = λ p g lines clauses old new begun n. all_named p g lines clauses begun old new n

pub returns-clause-entered : goal.returns-clause-entered
returns-clause-entered c = λ p g lines clauses old new begun same empty n. named_by p g lines clauses begun old new same empty n
