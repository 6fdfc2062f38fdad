use Rattle.ae_agreed_rows.proofs.Assumed.{combined_rows_are_of}
use Rattle.ae_agreed_rows.proofs.laws.combined_rows_are_of.Goals as goal

pub returns : goal.returns
returns c = combined_rows_are_of
