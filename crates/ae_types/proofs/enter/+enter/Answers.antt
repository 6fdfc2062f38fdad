use Rattle.std.proofs.Common.{rules, arith, ◌≡◌, ◌<◌, ◌+◌, ap, sym, ◌∙◌, subst, take, length, ◌++◌, [], ◌∷◌}
use Rattle.std.proofs.lemmas.List.{take_more, take_all}
use Rattle.ae_types.specs.Inner.Enters.{AllStand, StandsFor, sheet}
use Rattle.ae_types.proofs.EnterLaws.{adds_built, all_more, all_snoc, grows_trans}
use Rattle.ae_types.proofs.enter.+enter.Goals as goal

pub loop-arg-preserved : goal.loop-arg-preserved
loop-arg-preserved t c =
    let i = c.loop-arg.invariant in
    let g = c.in_ok-part-in-Named.ensures.grows in
    let h : c.loop-arg.arg-index < length c.as_slice-arg-items.result.now = search rules in
    let e = take_more c.as_slice-arg-items.result.now c.loop-arg.arg-index c.arg-item.result h
    ∙ ap (λ x. take c.loop-arg.arg-index c.as_slice-arg-items.result.now ++ x ∷ []) (sym c.arg-item.is) in
    let s = all_snoc c.enter.new.graph.nodes (take c.loop-arg.arg-index c.as_slice-arg-items.result.now) c.loop-arg.places c.arg-item.result c.in_ok-part-in-Named.part
    (all_more (sheet c.loop-arg.graph) (sheet c.enter.new.graph) (take c.loop-arg.arg-index c.as_slice-arg-items.result.now) c.loop-arg.places i.grows.well g i.stand) c.in_ok-part-in-Named.ensures.ok in
    record {
      grows = grows_trans (sheet c.args.graph.now) (sheet c.loop-arg.graph) (sheet c.enter.new.graph) i.grows g;
      stand = subst (λ ps. AllStand c.enter.new.graph.nodes (take (c.loop-arg.arg-index + 1) c.as_slice-arg-items.result.now) ps) (sym c.in_ok-push-in-Named.ensures.ok)
          (subst (λ ss. AllStand c.enter.new.graph.nodes ss (c.loop-arg.places ++ c.in_ok-part-in-Named.part ∷ [])) (sym e) s);
    }

pub returns-in_ok-place-in-Named-clause-grows : goal.returns-in_ok-place-in-Named-clause-grows
returns-in_ok-place-in-Named-clause-grows t c =
    let i = c.loop-arg.invariant in
    let e : take c.loop-arg.arg-index c.as_slice-arg-items.result.now ≡ c.in-Named.args =
    take_all c.loop-arg.arg-index c.as_slice-arg-items.result.now (omega arith) ∙ c.as_slice-arg-items.ensures in
    grows_trans (sheet c.args.graph.now) (sheet c.loop-arg.graph) (sheet c.add.new.graph) i.grows
    (adds_built (sheet c.loop-arg.graph) (sheet c.add.new.graph) c.in-Named.head c.in-Named.args c.loop-arg.places c.in_ok-place-in-Named.place i.grows.well c.in_ok-place-in-Named.ensures.ok
    (subst (λ ss. AllStand c.loop-arg.graph.nodes ss c.loop-arg.places) e i.stand)).0

pub returns-in_ok-place-in-Named-clause-ok : goal.returns-in_ok-place-in-Named-clause-ok
returns-in_ok-place-in-Named-clause-ok t c =
    let i = c.loop-arg.invariant in
    let e : take c.loop-arg.arg-index c.as_slice-arg-items.result.now ≡ c.in-Named.args =
    take_all c.loop-arg.arg-index c.as_slice-arg-items.result.now (omega arith) ∙ c.as_slice-arg-items.ensures in
    subst (λ s. StandsFor c.add.new.graph.nodes s c.in_ok-place-in-Named.place) (sym c.in-Named.is)
    (adds_built (sheet c.loop-arg.graph) (sheet c.add.new.graph) c.in-Named.head c.in-Named.args c.loop-arg.places c.in_ok-place-in-Named.place i.grows.well c.in_ok-place-in-Named.ensures.ok
    (subst (λ ss. AllStand c.loop-arg.graph.nodes ss c.loop-arg.places) e i.stand)).1
