use Rattle.std.proofs.Common.{rules, ◌<◌, ◌+◌, ◌++◌, [], ◌∷◌, ap, sym, ◌∙◌, subst, take, length}
use Rattle.std.proofs.lemmas.List.{take_more}
use Rattle.ae_types.specs.Inner.Enters.{PairsStand, sheet}
use Rattle.ae_types.proofs.EnterLaws.{pairs_more, pairs_snoc, stands_more, grows_trans}
use Rattle.ae_types.proofs.enter.enter_pairs.Goals as goal

pub loop-pair-preserved : goal.loop-pair-preserved
loop-pair-preserved c =
    let i = c.loop-pair.invariant in
    let a = sheet c.loop-pair.graph in
    let b = sheet c.enter.new.graph in
    let d = sheet c.enter-in-loop-pair.new.graph in
    let g = c.in_ok-left.ensures.grows in
    let k = c.in_ok-right.ensures.grows in
    let both = grows_trans a b d g k in
    let h : c.loop-pair.pair-index < length c.args.pairs.now = search rules in
    let e = take_more c.args.pairs.now c.loop-pair.pair-index c.pair-item.result h
    ∙ ap (λ x. take c.loop-pair.pair-index c.args.pairs.now ++ x ∷ []) (sym c.pair-item.is) in
    let s = pairs_snoc d.nodes (take c.loop-pair.pair-index c.args.pairs.now) c.loop-pair.todo c.pair-item.result c.in_ok-left.left c.in_ok-right.right
    (pairs_more a d (take c.loop-pair.pair-index c.args.pairs.now) c.loop-pair.todo i.grows.well both i.stand)
    (stands_more b d c.pair-item.result.left c.in_ok-left.left g.well k c.in_ok-left.ensures.ok) c.in_ok-right.ensures.ok in
    record {
      grows = grows_trans (sheet c.args.graph.now) a d i.grows both;
      stand = subst (λ ps. PairsStand d.nodes (take (c.loop-pair.pair-index + 1) c.args.pairs.now) ps) (sym c.in_ok-push.ensures.ok)
          (subst (λ qs. PairsStand d.nodes qs (c.loop-pair.todo ++ record { left = c.in_ok-left.left; right = c.in_ok-right.right } ∷ [])) (sym e) s);
    }
