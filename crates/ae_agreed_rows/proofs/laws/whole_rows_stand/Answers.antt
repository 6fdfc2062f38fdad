use Rattle.ae_agreed_rows.proofs.WholeRows.{whole_rows_stand}
use Rattle.ae_agreed_rows.proofs.laws.whole_rows_stand.Goals as goal

pub returns : goal.returns
returns c = whole_rows_stand
