use Rattle.ae_monoid_tests.proofs.tests.come_back.Goals as goal

pub back-requires : goal.back-requires
back-requires g c = record { fits = (c.in_ok-pairs.ensures.lasts c.share-shared.result _ _ c.share-shared.ensures.version).fits }
