use Rattle.ae_first_clauses.proofs.States.{stated, lawful_in}
use Rattle.ae_first_clauses.proofs.Subformulas.{goes_on_over}
use Rattle.ae_first_clauses.proofs.laws.first_clauses_begin_a_search.Goals as goal

pub returns-clause-stated : goal.returns-clause-stated
returns-clause-stated c = λ p g lines clauses places first size own. stated p g lines clauses places first size own

pub returns-clause-lawful : goal.returns-clause-lawful
returns-clause-lawful c = λ p g lines clauses x first s. lawful_in p g x lines clauses s first

pub returns-clause-over : goal.returns-clause-over
returns-clause-over c = λ p g firsts first lines clauses places reach are among stated. goes_on_over p g reach firsts lines first clauses places are among stated
