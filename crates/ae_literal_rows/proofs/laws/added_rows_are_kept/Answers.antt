use Rattle.ae_literal_rows.proofs.Adding.{added_rows_are_kept}
use Rattle.ae_literal_rows.proofs.laws.added_rows_are_kept.Goals as goal

pub returns : goal.returns
returns c = added_rows_are_kept
