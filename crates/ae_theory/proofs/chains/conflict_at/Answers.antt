use Rattle.std.proofs.Common.{◌≡◌, ◌-◌, ◌++◌, ◌∷◌, [], ◌∙◌, List, get_or, sym, ap, subst, arith, inl, inr, append_assoc, refl}
use Rattle.std.proofs.lemmas.List.{get_or_default}
use Rattle.std.specs.List.{Contains}
use Rattle.std.proofs.lemmas.List.Elements.{Contains-append_left, Contains-append_right, Contains-append_cases}
use Rattle.ae_theory.specs.Paths.{list_at}
use Rattle.ae_theory.specs.Classes.{ClashesBy}
use Rattle.ae_theory.specs.declared.nodes.Node.{Node}
use Rattle.ae_theory.proofs.Sharing.{IsPlaced, placed, list_none}
use Rattle.ae_theory.proofs.Conflicts.{one_there}
use Rattle.ae_theory.proofs.chains.conflict_at.Goals as goal

pub returns-then-clashes : goal.returns-then-clashes
returns-then-clashes c =
    let nodes = c.args.nodes.now in
    let place = c.loop-place.place in
    let d = c.index-nodes-number.result in
    let x = get_or nodes (place - 1) d in
    let inv = c.loop-place.invariant in
    let p : IsPlaced nodes place x = placed nodes place d c.requires.tree (λ e. omega (arith, e, c.loop-place-test.true)) inv.1 in
    let here : Contains (list_at nodes c.args.last) x =
    subst (λ (w : List Node). Contains w x) (sym (inv.2 ∙ ap (λ (w : List Node). w ++ inv.0) p.list))
    (Contains-append_left (list_at nodes x.parent ++ x ∷ []) inv.0 x (Contains-append_right (list_at nodes x.parent) (x ∷ []) x (0, omega arith, refl))) in
    record { node = x; at = p.at; stands = here; clashes = c.if-clashes.ensures }

pub loop-place-smaller : goal.loop-place-smaller
loop-place-smaller c = (placed c.args.nodes.now c.loop-place.place c.index-nodes-number-in-loop-place.result c.requires.tree (λ e. omega (arith, e, c.loop-place-test.true)) c.loop-place.invariant.1).below

pub loop-place-preserved : goal.loop-place-preserved
loop-place-preserved c =
    let nodes = c.args.nodes.now in
    let place = c.loop-place.place in
    let d = c.index-nodes-number-in-loop-place.result in
    let x = get_or nodes (place - 1) d in
    let inv = c.loop-place.invariant in
    let p : IsPlaced nodes place x = placed nodes place d c.requires.tree (λ e. omega (arith, e, c.loop-place-test.true)) inv.1 in
    let same : get_or nodes (place - 1) c.index-nodes-number.result ≡ x = get_or_default nodes (place - 1) _ _ (omega (arith, c.loop-place-test.true, inv.1)) in
    let not_here : ClashesBy (list_at nodes c.args.last) x.edge → ⊥ = subst (λ (w : Node). ClashesBy (list_at nodes c.args.last) w.edge → ⊥) same (c.if-clashes.ensures) in (
      x ∷ inv.0,
      p.within,
      inv.2 ∙ (ap (λ (w : List Node). w ++ inv.0) p.list ∙ append_assoc (list_at nodes x.parent) (x ∷ []) inv.0),
      λ y k. elim (Contains-append_cases (x ∷ []) inv.0 y k) [
        | inl one ↦ λ h. not_here (subst (λ (w : Node). ClashesBy (list_at nodes c.args.last) w.edge) (one_there x y one) h)
        | inr rest ↦ inv.3 y rest
      ],
    )

pub returns : goal.returns
returns c x k =
    let inv = c.loop-place.invariant in
    let e : list_at c.args.nodes.now c.args.last ≡ inv.0 =
    inv.2 ∙ ap (λ (w : List Node). w ++ inv.0) (ap (list_at c.args.nodes.now) (let z : c.loop-place.place ≡ 0 = omega (arith, c.loop-place-test.false) in z) ∙ list_none c.args.nodes.now) in
    inv.3 x (subst (λ (w : List Node). Contains w x) e k)
