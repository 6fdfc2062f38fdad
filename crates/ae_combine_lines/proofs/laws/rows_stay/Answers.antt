use Rattle.ae_combine_lines.proofs.Standing.{row_stays, own_row, sure_less}
use Rattle.ae_combine_lines.proofs.laws.rows_stay.Goals as goal

pub returns-clause-rows : goal.returns-clause-rows
returns-clause-rows c = λ x js strict f s g h. row_stays x js strict f s g h

pub returns-clause-own : goal.returns-clause-own
returns-clause-own c = λ x js strict f. own_row x js strict f

pub returns-clause-sure : goal.returns-clause-sure
returns-clause-sure c = λ x js strict f g h. sure_less x js strict f g h
