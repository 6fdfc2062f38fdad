use Rattle.std.specs.Prelude.{ℕ, List}
use Rattle.std.proofs.Common.{subst, ap, refl}
use Rattle.ae_pmap.specs.Pairs.{found}
use Rattle.ae_monoid.specs.declared.rules.Kept.{Kept}
use Rattle.ae_monoid.specs.Rules.{Contents, rule_at}
use Rattle.ae_monoid.specs.Versions.{StandsFor}
use Rattle.ae_monoid.proofs.VersionLaws.{indexed_same}
use Rattle.ae_monoid.proofs.rules.Rules.share.Goals as goal

pub returns-clause-version : goal.returns-clause-version
returns-clause-version g c =
    subst (λ (r : Contents). StandsFor r (record { kept = c.share.result; next = c.self.inside.next; largest = c.share-2.result; elements = c.share-3.result }) (λ n. rule_at r n) r.next) c.self.view_is
    (record {
      fits = record {
        kept = c.share.ensures.version.fits;
        largest = c.share-2.ensures.version.fits;
        elements = c.share-3.ensures.version.fits;
        indexed = indexed_same _ _ c.self.inside.next _ _ _ _ c.self.inside.links.items c.share.ensures.version.is c.share-2.ensures.version.is c.share-3.ensures.version.is c.self.invariant;
      };
      is = λ n. ap (λ (ps : List (ℕ × Kept)). found ps n) c.share.ensures.version.is;
      len_is = refl;
    })
