use Rattle.std.proofs.Common.{◌≡◌, ℕ, List, sym, ◌∙◌, ap, subst, Result, Ok, Err, OnErr}
use Rattle.ae_pmap.specs.Pairs.{found, put_in}
use Rattle.ae_pmap.specs.Trees.{pairs}
use Rattle.ae_pmap.specs.Nodes.{tree_at}
use Rattle.ae_pmap.specs.Forest.{Forest, present, map_at, IsRoot, Lasts}
use Rattle.ae_pmap.proofs.Values.{lasts, root_lasts, map_lasts, put_root, put_map, found_put}
use Rattle.ae_pmap.proofs.map.Pmap.insert.Goals as goal

pub invariant_of-self-in_err-root : goal.invariant_of-self-in_err-root
invariant_of-self-in_err-root g c =
    let f : Forest g.row.V.Denot = record { nodes = c.self.inside.nodes.items; values = c.self.inside.values.items; root = c.self.inside.root } in (
      c.in_err-root.ensures.sound,
      subst (λ (w : List g.row.V.Denot). IsRoot (record { nodes = c.insert.new.nodes.items; values = w; root = f.root }) f.root) (sym c.in_ok-push.ensures.items)
          (root_lasts f c.insert.new.nodes.items c.args.value c.in_err-root.ensures.keeps f.root f.root c.self.invariant.1),
    )

pub invariant_of-self-2 : goal.invariant_of-self-2
invariant_of-self-2 g c =
    let f : Forest g.row.V.Denot = record { nodes = c.self.inside.nodes.items; values = c.self.inside.values.items; root = c.self.inside.root } in (
      c.in_ok-root.ensures.sound,
      subst (λ (w : List g.row.V.Denot). IsRoot (record { nodes = c.insert.new.nodes.items; values = w; root = c.in_ok-root.root }) c.in_ok-root.root) (sym c.in_ok-push.ensures.items)
          (put_root f c.insert.new.nodes.items c.args.value c.in_ok-root.ensures.keeps c.in_ok-root.root c.args.key c.in_ok-root.ensures.place c.self.invariant.1
          (c.in_ok-root.ensures.entries ∙ ap (λ (n : ℕ). put_in c.args.key n (pairs (tree_at f.nodes f.root))) (c.len-place.ensures ∙ c.self.inside.values.ok.0))),
    )

pub returns-clause-ok : goal.returns-clause-ok
returns-clause-ok g c =
    let f : Forest g.row.V.Denot = record { nodes = c.self.inside.nodes.items; values = c.self.inside.values.items; root = c.self.inside.root } in
    subst (λ (old : Forest g.row.V.Denot). map_at (record { nodes = c.insert.new.nodes.items; values = c.push.new.self.items; root = c.in_ok-root.root }) c.in_ok-root.root ≡ put_in c.args.key c.args.value (present old)) c.self.view_is
    (subst (λ (w : List g.row.V.Denot). map_at (record { nodes = c.insert.new.nodes.items; values = w; root = c.in_ok-root.root }) c.in_ok-root.root ≡ put_in c.args.key c.args.value (present f)) (sym c.in_ok-push.ensures.items)
    (put_map f c.insert.new.nodes.items c.args.value c.in_ok-root.ensures.keeps c.in_ok-root.root c.args.key c.self.invariant.1
    (c.in_ok-root.ensures.entries ∙ ap (λ (n : ℕ). put_in c.args.key n (pairs (tree_at f.nodes f.root))) (c.len-place.ensures ∙ c.self.inside.values.ok.0))))

pub returns-clause-at : goal.returns-clause-at
returns-clause-at g c q =
    ap (λ (ps : List (ℕ × g.row.V.Denot)). found ps q) (returns-clause-ok g c) ∙ found_put c.args.key c.args.value q (present c.args.self.now)

pub returns-clause-lasts : goal.returns-clause-lasts
returns-clause-lasts g c =
    let f : Forest g.row.V.Denot = record { nodes = c.self.inside.nodes.items; values = c.self.inside.values.items; root = c.self.inside.root } in
    subst (λ (old : Forest g.row.V.Denot). Lasts old (record { nodes = c.insert.new.nodes.items; values = c.push.new.self.items; root = c.in_ok-root.root })) c.self.view_is
    (subst (λ (w : List g.row.V.Denot). Lasts f (record { nodes = c.insert.new.nodes.items; values = w; root = c.in_ok-root.root })) (sym c.in_ok-push.ensures.items)
    (lasts f c.insert.new.nodes.items c.args.value c.in_ok-root.ensures.keeps c.in_ok-root.root))

pub returns-in_err-root-clause-lasts : goal.returns-in_err-root-clause-lasts
returns-in_err-root-clause-lasts g c =
    let f : Forest g.row.V.Denot = record { nodes = c.self.inside.nodes.items; values = c.self.inside.values.items; root = c.self.inside.root } in
    subst (λ (old : Forest g.row.V.Denot). Lasts old (record { nodes = c.insert.new.nodes.items; values = c.push.new.self.items; root = f.root })) c.self.view_is
    (subst (λ (w : List g.row.V.Denot). Lasts f (record { nodes = c.insert.new.nodes.items; values = w; root = f.root })) (sym c.in_ok-push.ensures.items)
    (lasts f c.insert.new.nodes.items c.args.value c.in_err-root.ensures.keeps f.root))

on_err : {T E P : Type 0} (r : Result T E) → P → OnErr r P
on_err (Ok x) p = tt
on_err (Err e) p = p

pub returns-in_err-root-clause-err : goal.returns-in_err-root-clause-err
returns-in_err-root-clause-err g c = on_err c.from_residual-in_err-root.result (
    let f : Forest g.row.V.Denot = record { nodes = c.self.inside.nodes.items; values = c.self.inside.values.items; root = c.self.inside.root } in
    subst (λ (old : Forest g.row.V.Denot). map_at (record { nodes = c.insert.new.nodes.items; values = c.push.new.self.items; root = f.root }) f.root ≡ present old) c.self.view_is
    (subst (λ (w : List g.row.V.Denot). map_at (record { nodes = c.insert.new.nodes.items; values = w; root = f.root }) f.root ≡ present f) (sym c.in_ok-push.ensures.items)
    (map_lasts f c.insert.new.nodes.items c.args.value c.in_err-root.ensures.keeps f.root f.root c.self.invariant.1)))
