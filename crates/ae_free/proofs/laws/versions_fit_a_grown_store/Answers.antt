use Rattle.ae_free.proofs.GrownLaws.{stands_kept}
use Rattle.ae_free.proofs.laws.versions_fit_a_grown_store.Goals as goal

pub returns : goal.returns
returns c sig old new t v names a b k x = stands_kept sig old new a b k t v names x
