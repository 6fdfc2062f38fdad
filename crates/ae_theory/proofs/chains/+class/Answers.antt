use Rattle.std.proofs.Common.{◌<◌, ◌-◌, ◌∙◌, List, sym, ap, subst}
use Rattle.ae_theory.specs.Inner.Trees.{renamed}
use Rattle.ae_theory.specs.Paths.{list_at}
use Rattle.ae_theory.specs.Classes.{class_of}
use Rattle.ae_theory.specs.declared.nodes.Node.{Node}
use Rattle.ae_theory.proofs.Sharing.{IsPlaced, placed, list_none, class_push, renamed_is}
use Rattle.ae_theory.proofs.chains.+class.Goals as goal

pub returns-then-place-eq0 : goal.returns-then-place-eq0
returns-then-place-eq0 t c = ap (λ (w : List Node). class_of w c.args.name) (sym (ap (list_at c.args.nodes.now) c.if-place-eq0.true ∙ list_none c.args.nodes.now))

pub class-requires : goal.class-requires
class-requires t c =
    let x = c.index-nodes-place.result in
    let p : IsPlaced c.args.nodes.now c.args.place x =
    subst (IsPlaced c.args.nodes.now c.args.place) (sym c.index-nodes-place.is) (placed c.args.nodes.now c.args.place x c.requires.tree c.if-place-eq0.false c.requires.within) in
    (subst (λ n. x.parent < n) c.decreases p.below, (c.requires.tree, p.within))

pub returns : goal.returns
returns t c =
    let nodes = c.args.nodes.now in
    let x = c.index-nodes-place.result in
    let p : IsPlaced nodes c.args.place x = subst (IsPlaced nodes c.args.place) (sym c.index-nodes-place.is) (placed nodes c.args.place x c.requires.tree c.if-place-eq0.false c.requires.within) in
    let xs = list_at nodes x.parent in
    c.after.ensures
    ∙ (ap (renamed x.edge x.from x.to) c.class.ensures
    ∙ (renamed_is xs x.edge x.from x.to c.args.name (c.requires.tree.each (c.args.place - 1) x p.at).cached
    ∙ (sym (class_push xs x c.args.name) ∙ ap (λ (w : List Node). class_of w c.args.name) (sym p.list))))
