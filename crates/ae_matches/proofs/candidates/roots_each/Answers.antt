use Rattle.std.proofs.Common.{sym, subst}
use Rattle.ae_matching.specs.Laws.{In}
use Rattle.ae_match.specs.Seen.{seen}
use Rattle.ae_matches.specs.Candidates.{roots}
use Rattle.ae_matches.proofs.Among.{each_among}
use Rattle.ae_matches.proofs.candidates.roots_each.Goals as goal

pub loop-one-preserved : goal.loop-one-preserved
loop-one-preserved g c env h =
    let f = roots (seen c.args.store.now.signature c.args.store.now.nodes) (g.E.Equalities.alike c.args.equalities.now) c.args.below c.args.known.now c.args.term.now in
    subst (λ l. In l env) (sym c.in_ok-append.ensures)
    (each_among f c.args.bindings.now c.loop-one.found c.in_ok-more.more c.loop-one.one-index c.one-item.result c.loop-one-test.true c.one-item.is c.loop-one.invariant c.in_ok-more.ensures env h)
