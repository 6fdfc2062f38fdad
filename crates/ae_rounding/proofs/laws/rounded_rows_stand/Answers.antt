use Rattle.ae_journal.specs.Standing.IsWholeRow.{of_rounding}
use Rattle.ae_journal.specs.Rows.IsRow.{of_whole}
use Rattle.ae_rounding.proofs.laws.rounded_rows_stand.Goals as goal

pub returns : goal.returns
returns c = λ x js strict f r w d n. let h = of_rounding js strict f r w d n in (h, of_whole r h)
