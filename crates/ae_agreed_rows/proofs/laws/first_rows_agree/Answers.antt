use Rattle.ae_agreed_rows.proofs.Agreed.{first_rows_agree}
use Rattle.ae_agreed_rows.proofs.laws.first_rows_agree.Goals as goal

pub returns : goal.returns
returns c = first_rows_agree
