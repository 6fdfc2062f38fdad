use Rattle.std.proofs.Common.{◌≡◌, ◌≢◌, ◌<◌, ◌-◌, [], ◌∙◌, List, get_or, sym, ap, subst}
use Rattle.std.proofs.lemmas.List.{get_or_default}
use Rattle.std.proofs.lemmas.Result.{on_ok_weaker}
use Rattle.ae_base.proofs.ListFacts.{get_read}
use Rattle.ae_theory.specs.Paths.{list_at}
use Rattle.ae_theory.specs.Classes.{class_of}
use Rattle.ae_theory.specs.Inner.Hops.{AddsPath}
use Rattle.ae_theory.specs.declared.nodes.Node.{Node}
use Rattle.ae_theory.specs.declared.nodes.Edge.TheVariants.{Same, Apart, Other}
use Rattle.ae_theory.proofs.Sharing.{placed, list_none}
use Rattle.ae_theory.proofs.Hopping.{adds_more, adds_none, adds_over, far_same, hop_at, near_same, not_apart, not_other}
use Rattle.ae_theory.proofs.chains.+push_path.Goals as goal

pub returns-then-place-eq0 : goal.returns-then-place-eq0
returns-then-place-eq0 t c =
    let nodes = c.args.nodes.now in
    let e : list_at nodes c.args.place ≡ [] = ap (list_at nodes) c.if-place-eq0.true ∙ list_none nodes in
    adds_none nodes (list_at nodes c.args.place) c.args.from c.args.to c.args.hops.now (subst (λ (w : List Node). class_of w c.args.from ≡ class_of w c.args.to) e c.requires.alike)

pub class-requires-clause-within : goal.class-requires-clause-within
class-requires-clause-within t c = (placed c.args.nodes.now c.args.place c.index-nodes-number.result c.requires.tree c.if-place-eq0.false c.requires.within).within

pub class-requires-2-clause-within : goal.class-requires-2-clause-within
class-requires-2-clause-within t c = (placed c.args.nodes.now c.args.place c.index-nodes-number.result c.requires.tree c.if-place-eq0.false c.requires.within).within

pub push_path-requires : goal.push_path-requires
push_path-requires t c =
    let p = placed c.args.nodes.now c.args.place c.index-nodes-number.result c.requires.tree c.if-place-eq0.false c.requires.within in
    (subst (λ n. (get_or c.args.nodes.now (c.args.place - 1) c.index-nodes-number.result).parent < n) c.decreases p.below, (c.requires.tree, (p.within, sym c.class.ensures ∙ (c.if-class.true ∙ c.class-2.ensures))))

pub returns-then-class : goal.returns-then-class
returns-then-class t c =
    let nodes = c.args.nodes.now in
    let x = get_or nodes (c.args.place - 1) c.index-nodes-number.result in
    let p = placed nodes c.args.place c.index-nodes-number.result c.requires.tree c.if-place-eq0.false c.requires.within in
    on_ok_weaker c.push_path.result (λ a. subst (λ (w : List Node). AddsPath nodes w c.args.from c.args.to c.args.hops.now c.push_path.new.hops) (sym p.list)
    (adds_more nodes (list_at nodes x.parent) x c.args.from c.args.to c.args.hops.now c.push_path.new.hops a)) c.push_path.ensures

pub differ-turned-requires-clause-within : goal.differ-turned-requires-clause-within
differ-turned-requires-clause-within t c = (placed c.args.nodes.now c.args.place c.index-nodes-number.result c.requires.tree c.if-place-eq0.false c.requires.within).within

pub push_path-requires-in-Same : goal.push_path-requires-in-Same
push_path-requires-in-Same t c =
    let nodes = c.args.nodes.now in
    let x = get_or nodes (c.args.place - 1) c.index-nodes-number.result in
    let p = placed nodes c.args.place c.index-nodes-number.result c.requires.tree c.if-place-eq0.false c.requires.within in
    let edge : x.edge ≡ Same c.in-Same.left c.in-Same.right = ap (λ (w : Node). w.edge) (get_or_default nodes (c.args.place - 1) _ _ (get_read nodes (c.args.place - 1) x x p.at).1) ∙ c.in-Same.is in
    let differ : class_of (list_at nodes x.parent) c.args.from ≢ class_of (list_at nodes x.parent) c.args.to = λ e. c.if-class.false (c.class.ensures ∙ (e ∙ sym c.class-2.ensures)) in (
      subst (λ n. x.parent < n) c.decreases p.below,
      (c.requires.tree, (p.within, near_same nodes c.args.place c.args.from c.args.to x p c.requires.alike c.in-Same.left c.in-Same.right c.differ-turned.result edge differ c.differ-turned.ensures c.end.result c.end.ensures)),
    )

pub push_path-requires-in-Same-2 : goal.push_path-requires-in-Same-2
push_path-requires-in-Same-2 t c =
    let nodes = c.args.nodes.now in
    let x = get_or nodes (c.args.place - 1) c.index-nodes-number.result in
    let p = placed nodes c.args.place c.index-nodes-number.result c.requires.tree c.if-place-eq0.false c.requires.within in
    let edge : x.edge ≡ Same c.in-Same.left c.in-Same.right = ap (λ (w : Node). w.edge) (get_or_default nodes (c.args.place - 1) _ _ (get_read nodes (c.args.place - 1) x x p.at).1) ∙ c.in-Same.is in
    let differ : class_of (list_at nodes x.parent) c.args.from ≢ class_of (list_at nodes x.parent) c.args.to = λ e. c.if-class.false (c.class.ensures ∙ (e ∙ sym c.class-2.ensures)) in (
      subst (λ n. x.parent < n) c.decreases p.below,
      (
        c.requires.tree,
        (
          p.within,
          far_same nodes c.args.place c.args.from c.args.to x p c.requires.alike c.in-Same.left c.in-Same.right c.differ-turned.result edge differ c.differ-turned.ensures c.end-in-Same.result
              c.end-in-Same.ensures,
        ),
      ),
    )

pub returns-in_ok-push-in-Same : goal.returns-in_ok-push-in-Same
returns-in_ok-push-in-Same t c =
    let nodes = c.args.nodes.now in
    let x = get_or nodes (c.args.place - 1) c.index-nodes-number.result in
    let p = placed nodes c.args.place c.index-nodes-number.result c.requires.tree c.if-place-eq0.false c.requires.within in
    let edge : x.edge ≡ Same c.in-Same.left c.in-Same.right = ap (λ (w : Node). w.edge) (get_or_default nodes (c.args.place - 1) _ _ (get_read nodes (c.args.place - 1) x x p.at).1) ∙ c.in-Same.is in
    let hop = hop_at nodes c.args.place c.args.from c.args.to x p c.requires.alike c.in-Same.left c.in-Same.right c.differ-turned.result edge c.end.result c.end-in-Same.result c.end.ensures c.end-in-Same.ensures in
    on_ok_weaker c.push_path-in-Same-2.result (λ b. subst (λ (w : List Node). AddsPath nodes w c.args.from c.args.to c.args.hops.now c.push_path-in-Same-2.new.hops) (sym p.list)
    (adds_over nodes (list_at nodes x.parent) x (record { node = c.args.place - 1; turned = c.differ-turned.result }) c.args.from c.end.result c.end-in-Same.result c.args.to c.args.hops.now c.push_path-in-Same.new.hops c.push.new.self
    c.push_path-in-Same-2.new.hops c.in_ok-push_path-in-Same.ensures hop c.in_ok-push-in-Same.ensures.ok b)) c.push_path-in-Same-2.ensures

pub returns-in-Apart : goal.returns-in-Apart
returns-in-Apart t c =
    let nodes = c.args.nodes.now in
    let x = get_or nodes (c.args.place - 1) c.index-nodes-number.result in
    let p = placed nodes c.args.place c.index-nodes-number.result c.requires.tree c.if-place-eq0.false c.requires.within in
    let edge : x.edge ≡ Apart c.in-Apart.left c.in-Apart.right = ap (λ (w : Node). w.edge) (get_or_default nodes (c.args.place - 1) _ _ (get_read nodes (c.args.place - 1) x x p.at).1) ∙ c.in-Apart.is in
    absurd (c.if-class.false (c.class.ensures ∙ (not_apart nodes c.args.place c.args.from c.args.to x p c.requires.alike c.in-Apart.left c.in-Apart.right edge ∙ sym c.class-2.ensures)))

pub returns-in-Other : goal.returns-in-Other
returns-in-Other t c =
    let nodes = c.args.nodes.now in
    let x = get_or nodes (c.args.place - 1) c.index-nodes-number.result in
    let p = placed nodes c.args.place c.index-nodes-number.result c.requires.tree c.if-place-eq0.false c.requires.within in
    let edge : x.edge ≡ Other = ap (λ (w : Node). w.edge) (get_or_default nodes (c.args.place - 1) _ _ (get_read nodes (c.args.place - 1) x x p.at).1) ∙ c.in-Other.is in
    absurd (c.if-class.false (c.class.ensures ∙ (not_other nodes c.args.place c.args.from c.args.to x p c.requires.alike edge ∙ sym c.class-2.ensures)))
