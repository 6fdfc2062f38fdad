use Rattle.ae_bound_widths.proofs.Left.{none_left, widths_licensed}
use Rattle.ae_bound_widths.proofs.laws.finished_rows_leave_nothing.Goals as goal

pub returns-clause-none : goal.returns-clause-none
returns-clause-none c = λ x rows js s o d g. none_left x rows js s o d g

pub returns-clause-widths : goal.returns-clause-widths
returns-clause-widths c = λ x rows js w s o d g p. widths_licensed x rows js s o d g w p
