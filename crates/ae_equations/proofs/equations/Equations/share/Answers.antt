use Rattle.std.specs.Prelude.{[]}
use Rattle.std.proofs.Common.{refl, sym, subst}
use Rattle.std.proofs.lemmas.List.{append-nil}
use Rattle.ae_equations.specs.Held.{Contents}
use Rattle.ae_equations.specs.Versions.{StandsFor}
use Rattle.ae_equations.proofs.equations.Equations.share.Goals as goal

pub returns-clause-version : goal.returns-clause-version
returns-clause-version g c =
    subst (λ (r : Contents). StandsFor r (record { rules = c.share.result; heads = c.share-2.result; places = c.share-3.result; next = c.self.inside.queue.next }) r) c.self.view_is
    (record {
      rules = c.share.ensures.version;
      heads = c.share-2.ensures.version;
      links = ([], sym (append-nil c.self.inside.pairs.links));
      places = c.share-3.ensures.version;
      next = refl;
      held = c.self.invariant;
    })
