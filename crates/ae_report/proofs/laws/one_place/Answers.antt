use Rattle.ae_report.proofs.Places.{one_line, one_column}
use Rattle.ae_report.proofs.laws.one_place.Goals as goal

pub returns-clause-one_line : goal.returns-clause-one_line
returns-clause-one_line c = one_line

pub returns-clause-one_column : goal.returns-clause-one_column
returns-clause-one_column c = one_column
