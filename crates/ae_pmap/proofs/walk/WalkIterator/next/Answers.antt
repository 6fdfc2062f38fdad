use Rattle.std.proofs.Common.{◌≡◌, ◌<◌, ◌∷◌, List, length, ap, arith, sym, ◌∙◌}
use Rattle.ae_pmap.specs.Trees.{pairs}
use Rattle.ae_pmap.specs.Nodes.{tree_at}
use Rattle.ae_pmap.specs.Forest.{Forest}
use Rattle.ae_pmap.proofs.Walks.{next_named, walked}
use Rattle.ae_pmap.proofs.walk.WalkIterator.next.Goals as goal

shorter : {A : Type 0} {xs ys : List A} {x : A} → xs ≡ x ∷ ys → length ys < length xs
shorter {A} {xs} {ys} {x} e = let n = ap length e in omega arith

pub bounds-values-place : goal.bounds-values-place
bounds-values-place g c = next_named (length c.self.inside.values.now) c.self.inside.last (pairs (tree_at c.self.inside.nodes.now c.self.inside.root)) (c.in_ok-key.key, c.in_ok-key.place) c.self.invariant.1.named c.in_ok-key.ensures

pub offset_bounds-values-place : goal.offset_bounds-values-place
offset_bounds-values-place g c =
    let h : c.in_ok-key.place < length c.self.inside.values.now = next_named (length c.self.inside.values.now) c.self.inside.last (pairs (tree_at c.self.inside.nodes.now c.self.inside.root)) (c.in_ok-key.key, c.in_ok-key.place) c.self.invariant.1.named c.in_ok-key.ensures in
    omega (arith, h)

pub returns-clause-steps : goal.returns-clause-steps
returns-clause-steps g c =
    let f : Forest g.row.V.Denot = record { nodes = c.self.inside.nodes.now; values = c.self.inside.values.now; root = c.self.inside.root } in
    sym c.self.view_is ∙ walked f c.self.inside.last c.in_ok-key.key c.in_ok-key.place c.index-values-place.result c.self.invariant.1 c.in_ok-key.ensures c.index-values-place.is

pub returns-clause-goes : goal.returns-clause-goes
returns-clause-goes g c =
    record { on = λ h. (tt, tt, shorter (returns-clause-steps g c)); keeps = tt; rests = λ h. tt }
