use Rattle.std.proofs.Common.{◌≡◌, ℕ, List, sym, ◌∙◌, ap, subst, None}
use Rattle.ae_pmap.specs.Pairs.{found, take_out, with_at}
use Rattle.ae_pmap.specs.Forest.{Forest, present, map_at}
use Rattle.ae_pmap.proofs.Values.{out_root, out_map, found_out, out_absent, present_rises, none_found, some_found}
use Rattle.ae_pmap.proofs.map.Pmap.remove.Goals as goal

pub returns-then-is_none-clause-ok : goal.returns-then-is_none-clause-ok
returns-then-is_none-clause-ok g c =
    let f : Forest g.row.V.Denot = record { nodes = c.self.inside.nodes.items; values = c.self.inside.values.items; root = c.self.inside.root } in
    subst (λ (old : Forest g.row.V.Denot). present old ≡ take_out c.args.key (present old)) c.self.view_is
    (sym (out_absent c.args.key (present f) (none_found f c.deref.result.now c.args.key c.find.result c.deref.ensures.value c.find.ensures c.if-is_none.ensures c.self.invariant.1)))

pub returns-then-is_none-clause-at : goal.returns-then-is_none-clause-at
returns-then-is_none-clause-at g c q =
    let f : Forest g.row.V.Denot = record { nodes = c.self.inside.nodes.items; values = c.self.inside.values.items; root = c.self.inside.root } in
    ap (λ (ps : List (ℕ × g.row.V.Denot)). found ps q) (returns-then-is_none-clause-ok g c)
    ∙ subst (λ (old : Forest g.row.V.Denot). found (take_out c.args.key (present old)) q ≡ with_at (found (present old)) c.args.key None q) c.self.view_is
    (found_out c.args.key q (present f) (present_rises f c.self.invariant.1))

pub returns-in_err-root-clause-absent : goal.returns-in_err-root-clause-absent
returns-in_err-root-clause-absent g c e =
    let f : Forest g.row.V.Denot = record { nodes = c.self.inside.nodes.items; values = c.self.inside.values.items; root = c.self.inside.root } in
    absurd (some_found f c.deref.result.now c.args.key c.find.result c.deref.ensures.value c.find.ensures c.if-is_none.ensures c.self.invariant.1
    (subst (λ (old : Forest g.row.V.Denot). found (present old) c.args.key ≡ None) (sym c.self.view_is) e))

pub invariant_of-self-2 : goal.invariant_of-self-2
invariant_of-self-2 g c =
    let f : Forest g.row.V.Denot = record { nodes = c.self.inside.nodes.items; values = c.self.inside.values.items; root = c.self.inside.root } in
    (c.in_ok-root.ensures.sound, out_root f c.remove.new.nodes.items c.in_ok-root.root c.args.key c.in_ok-root.ensures.place c.self.invariant.1 c.in_ok-root.ensures.entries)

pub returns-clause-ok : goal.returns-clause-ok
returns-clause-ok g c =
    let f : Forest g.row.V.Denot = record { nodes = c.self.inside.nodes.items; values = c.self.inside.values.items; root = c.self.inside.root } in
    subst (λ (old : Forest g.row.V.Denot). map_at (record { nodes = c.remove.new.nodes.items; values = f.values; root = c.in_ok-root.root }) c.in_ok-root.root ≡ take_out c.args.key (present old)) c.self.view_is
    (out_map f c.remove.new.nodes.items c.in_ok-root.root c.args.key c.self.invariant.1 c.in_ok-root.ensures.entries)

pub returns-clause-at : goal.returns-clause-at
returns-clause-at g c q =
    let f : Forest g.row.V.Denot = record { nodes = c.self.inside.nodes.items; values = c.self.inside.values.items; root = c.self.inside.root } in
    ap (λ (ps : List (ℕ × g.row.V.Denot)). found ps q) (returns-clause-ok g c)
    ∙ subst (λ (old : Forest g.row.V.Denot). found (take_out c.args.key (present old)) q ≡ with_at (found (present old)) c.args.key None q) c.self.view_is
    (found_out c.args.key q (present f) (present_rises f c.self.invariant.1))
