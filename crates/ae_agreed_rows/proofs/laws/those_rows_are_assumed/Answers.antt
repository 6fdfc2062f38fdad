use Rattle.ae_agreed_rows.proofs.Assumed.{those_rows_are_assumed}
use Rattle.ae_agreed_rows.proofs.laws.those_rows_are_assumed.Goals as goal

pub returns : goal.returns
returns c = those_rows_are_assumed
