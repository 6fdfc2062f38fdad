use Rattle.std.proofs.Common.{◌≡◌, subst, arith, Some, None}
use Rattle.ae_pmap.specs.Trees.{IsShallow}
use Rattle.ae_pmap.specs.Nodes.{tree_at}
use Rattle.ae_pmap.specs.Pairs.{found}
use Rattle.ae_pmap.specs.Forest.{Forest, present}
use Rattle.ae_pmap.proofs.Tables.{at_place}
use Rattle.ae_pmap.proofs.Values.{got, got_within, got_none}
use Rattle.ae_pmap.proofs.Heights.{IsShallow-balanced}
use Rattle.ae_pmap.proofs.map.Pmap.get.Goals as goal

pub index-requires : goal.index-requires
index-requires g c =
    omega (
      arith,
      c.self.inside.values.ok.0,
      got_within (record { nodes = c.self.inside.nodes.items; values = c.self.inside.values.items; root = c.self.inside.root }) c.deref.result.now c.args.key c.in-Some.place
          c.deref.ensures.value c.in-Some.ensures c.self.invariant.1,
    )

pub returns-in-Some-clause-value : goal.returns-in-Some-clause-value
returns-in-Some-clause-value g c =
    subst (λ (f : Forest g.row.V.Denot). Some c.index.result.now ≡ found (present f) c.args.key) c.self.view_is
    (got (record { nodes = c.self.inside.nodes.items; values = c.self.inside.values.items; root = c.self.inside.root }) c.deref.result.now c.args.key c.in-Some.place c.index.result.now
    c.deref.ensures.value c.in-Some.ensures c.self.invariant.1 c.index.ensures)

pub returns-in-None-clause-value : goal.returns-in-None-clause-value
returns-in-None-clause-value g c =
    subst (λ (f : Forest g.row.V.Denot). None ≡ found (present f) c.args.key) c.self.view_is
    (got_none (record { nodes = c.self.inside.nodes.items; values = c.self.inside.values.items; root = c.self.inside.root }) c.deref.result.now c.args.key
    c.deref.ensures.value c.in-None.ensures c.self.invariant.1)

pub returns-in-Some-clause-shallow : goal.returns-in-Some-clause-shallow
returns-in-Some-clause-shallow g c =
    subst (λ (f : Forest g.row.V.Denot). IsShallow (tree_at f.nodes f.root)) c.self.view_is
    (IsShallow-balanced (tree_at c.self.inside.nodes.items c.self.inside.root) (at_place c.self.inside.nodes.items c.self.inside.root c.self.invariant.0 c.self.invariant.1.within).1)

pub returns-in-None-clause-shallow : goal.returns-in-None-clause-shallow
returns-in-None-clause-shallow g c =
    subst (λ (f : Forest g.row.V.Denot). IsShallow (tree_at f.nodes f.root)) c.self.view_is
    (IsShallow-balanced (tree_at c.self.inside.nodes.items c.self.inside.root) (at_place c.self.inside.nodes.items c.self.inside.root c.self.invariant.0 c.self.invariant.1.within).1)
