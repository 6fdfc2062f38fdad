use Rattle.ae_linear.specs.Rows.{row_at}
use Rattle.ae_linear_tests.proofs.tests.there_and_back.Goals as goal

pub back-requires : goal.back-requires
back-requires g c = record { fits = (c.put-3.ensures c.share-shared.result (λ n. row_at c.put-2.new.rows n) c.share-shared.ensures.version).fits }
