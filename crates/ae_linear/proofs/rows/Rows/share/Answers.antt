use Rattle.std.proofs.Common.{subst, ap}
use Rattle.ae_pmap.specs.Pairs.{found}
use Rattle.ae_linear.specs.Rows.{StandsFor, Contents, row_at}
use Rattle.ae_linear.proofs.Versions.{indexed_same}
use Rattle.ae_linear.proofs.rows.Rows.share.Goals as goal

pub returns-clause-version : goal.returns-clause-version
returns-clause-version g c =
    subst (λ (r : Contents). StandsFor r (record { rows = c.share.result; heads = c.share-2.result }) (λ n. row_at r n)) c.self.view_is
    (record {
      fits = record {
        rows = c.share.ensures.version.fits;
        heads = c.share-2.ensures.version.fits;
        indexed = indexed_same _ _ _ _ c.self.inside.links.items c.share.ensures.version.is c.share-2.ensures.version.is c.self.invariant;
      };
      is = λ n. ap (λ ps. found ps n) c.share.ensures.version.is;
    })
