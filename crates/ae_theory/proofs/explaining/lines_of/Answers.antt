use Rattle.std.proofs.Common.{◌≡◌, ◌<◌, ◌+◌, ◌∙◌, List, [], ◌∷◌, length, drop, slice_get, Some, sym, ap, subst, arith}
use Rattle.std.proofs.lemmas.List.{drop_all, drop_more}
use Rattle.ae_base.proofs.ListFacts.{get_read}
use Rattle.ae_core.specs.declared.formulas.Lit.{Lit}
use Rattle.ae_core.specs.declared.proofs.EqLine.{EqLine}
use Rattle.ae_theory.specs.Names.{terms_in}
use Rattle.ae_theory.specs.Inner.Hops.{Pushes}
use Rattle.ae_theory.specs.declared.chains.Hop.{Hop}
use Rattle.ae_theory.proofs.Ways.{Walks, walk_end, walk_start, walk_step}
use Rattle.ae_theory.proofs.explaining.lines_of.Goals as goal

pub loop-hyp-init : goal.loop-hyp-init
loop-hyp-init c =
    subst (λ (w : List EqLine). (0 < length w) × Walks c.args.store.now c.args.nodes.now c.args.hops.now c.args.hyps.now c.args.from c.in_ok-start.start w c.args.hops.now ×
    (slice_get (terms_in c.args.store.now) c.args.from ≡ Some c.in_ok-start.start)) (sym c.in_ok-lines.ensures)
    (omega arith, walk_start c.args.store.now c.args.nodes.now c.args.hops.now c.args.hyps.now c.args.from c.in_ok-start.start c.in_ok-start.ensures.term, c.in_ok-start.ensures.term)

pub loop-hyp-preserved : goal.loop-hyp-preserved
loop-hyp-preserved c =
    let s = c.args.store.now in
    let nodes = c.args.nodes.now in
    let hops = c.args.hops.now in
    let i = c.loop-hyp.hyp in
    let h : Hop = c.hop_at-hop.result in
    let read = get_read hops i h h c.hop_at-hop.ensures in
    let rest : drop i hops ≡ h ∷ drop (i + 1) hops = drop_more hops i h read.1 ∙ ap (λ (w : Hop). w ∷ drop (i + 1) hops) read.0 in (
      c.in_ok-push_hop.ensures.some,
      walk_step s nodes hops c.args.hyps.now c.args.from i c.loop-hyp.start-1 c.loop-hyp.lines c.push_hop.new.lines h (drop (i + 1) hops) c.requires.fits c.loop-hyp.invariant.2 c.hop_at-hop.ensures
          (subst (λ (w : Lit). Pushes w h.turned i c.loop-hyp.start-1 c.loop-hyp.lines c.push_hop.new.lines) c.lit_at-lit.ensures c.in_ok-push_hop.ensures.shows)
          (subst (Walks s nodes hops c.args.hyps.now c.args.from c.loop-hyp.start-1 c.loop-hyp.lines) rest c.loop-hyp.invariant.1),
      c.loop-hyp.invariant.2,
    )

pub returns-clause-shows : goal.returns-clause-shows
returns-clause-shows c xs n sort a b path given p sorted q =
    let hops = c.args.hops.now in
    let done : drop c.loop-hyp.hyp hops ≡ [] = drop_all c.loop-hyp.hyp hops (omega arith) in
    walk_end c.args.store.now c.args.nodes.now hops c.args.hyps.now c.args.from c.loop-hyp.start-1 c.loop-hyp.lines c.loop-hyp.invariant.2
    (subst (Walks c.args.store.now c.args.nodes.now hops c.args.hyps.now c.args.from c.loop-hyp.start-1 c.loop-hyp.lines) done c.loop-hyp.invariant.1) xs n sort a b path given p sorted q
