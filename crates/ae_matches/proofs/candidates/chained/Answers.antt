use Rattle.std.proofs.Common.{sym, ◌∙◌, ◌≡◌, ◌+◌, ◌∷◌, subst, drop}
use Rattle.std.specs.List.{flat_map}
use Rattle.std.proofs.Math.Numerals.{add-one}
use Rattle.std.proofs.Math.Seq.{drop-cons}
use Rattle.ae_matching.specs.Laws.{In}
use Rattle.ae_match.specs.Seen.{seen}
use Rattle.ae_matches.specs.Candidates.{roots, chained, AllAmong}
use Rattle.ae_matches.proofs.Among.{chained_among}
use Rattle.ae_matches.proofs.candidates.chained.Goals as goal

pub loop-term-preserved : goal.loop-term-preserved
loop-term-preserved g c env h =
    let S = seen c.args.store.now.signature c.args.store.now.nodes in
    let alike = g.E.Equalities.alike c.args.equalities.now in
    let found = c.loop-term.found in
    let terms = c.args.terms.now in
    let i = c.loop-term.term-index in
    let next : drop i terms ≡ c.term-item.result ∷ drop (i + 1) terms =
    drop-cons terms i c.term-item.result c.loop-term-test.true ∙ (λ j. sym c.term-item.is j ∷ drop (sym (add-one i) j) terms) in
    let more : AllAmong (flat_map (roots S alike c.args.below c.args.known.now c.term-item.result) found) c.in_ok-found.found =
    subst (λ l. AllAmong (flat_map (roots S alike c.args.below c.args.known.now c.term-item.result) l) c.in_ok-found.found) c.as_slice.ensures c.in_ok-found.ensures in
    chained_among S alike c.args.below c.args.known.now (drop (c.loop-term.term-index + 1) c.args.terms.now) (flat_map (roots S alike c.args.below c.args.known.now c.term-item.result) found) c.in_ok-found.found more env
    (subst (λ l. In (chained S alike c.args.below c.args.known.now l found) env) next (c.loop-term.invariant env h))
