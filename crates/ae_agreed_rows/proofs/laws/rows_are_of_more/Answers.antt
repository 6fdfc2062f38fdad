use Rattle.ae_agreed_rows.proofs.Assumed.{rows_are_of_more}
use Rattle.ae_agreed_rows.proofs.laws.rows_are_of_more.Goals as goal

pub returns : goal.returns
returns c = rows_are_of_more
