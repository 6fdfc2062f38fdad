use Rattle.ae_agreed_rows.proofs.Agreed.{more_rows_agree}
use Rattle.ae_agreed_rows.proofs.laws.more_rows_agree.Goals as goal

pub returns : goal.returns
returns c = more_rows_agree
