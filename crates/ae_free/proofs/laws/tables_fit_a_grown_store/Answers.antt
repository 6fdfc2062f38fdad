use Rattle.ae_free.proofs.GrownLaws.{fits_kept}
use Rattle.ae_free.proofs.laws.tables_fit_a_grown_store.Goals as goal

pub returns : goal.returns
returns c sig old new t a b k x = fits_kept sig old new a b k t x
