use Rattle.std.proofs.Common.{sym, ap, ◌∙◌, subst}
use Rattle.std.specs.List.{flat_map}
use Rattle.std.proofs.lemmas.Result.{IfOk-weaker}
use Rattle.ae_rules.specs.Matches.{is_arithmetic}
use Rattle.ae_store.specs.declared.nodes.NodeHead.TheVariants.{Of}
use Rattle.ae_matching.specs.Laws.{In}
use Rattle.ae_match.specs.Seen.{seen}
use Rattle.ae_known.specs.Index.{with_head}
use Rattle.ae_matches.specs.Candidates.{roots, own_root, node_root}
use Rattle.ae_matches.proofs.Roots.{roots_bound, roots_num, roots_fresh, roots_own, roots_nodes}
use Rattle.ae_matches.proofs.candidates.roots.Goals as goal

pub returns-then-computed : goal.returns-then-computed
returns-then-computed g c =
    let alike = g.E.Equalities.alike c.args.equalities.now in
    let S = seen c.args.store.now.signature c.args.store.now.nodes in
    let p = ap is_arithmetic (sym c.in-Apply.is) ∙ sym c.in_ok-computed-in-Apply.ensures ∙ c.if-computed.true in
    IfOk-weaker c.own_roots.result _ _
    (λ bs e new i.
    subst (λ l. In l new)
    (sym (e ∙ ap (λ u. flat_map (own_root S alike c.args.below c.args.known.now u c.args.bindings.now) (with_head c.args.known.now (Of c.in-Apply.head))) c.in-Apply.is
    ∙ sym (roots_own c.args.store.now.signature c.args.store.now.nodes alike c.args.below c.args.known.now c.in-Apply.head c.in-Apply.sorts c.in-Apply.args c.args.bindings.now p)
    ∙ ap (λ u. roots S alike c.args.below c.args.known.now u c.args.bindings.now) (sym c.in-Apply.is)))
    i)
    c.own_roots.ensures

pub returns-in-Bound : goal.returns-in-Bound
returns-in-Bound g c =
    let alike = g.E.Equalities.alike c.args.equalities.now in
    let S = seen c.args.store.now.signature c.args.store.now.nodes in
    IfOk-weaker c.bound_root.result _ _
    (λ bs e new i.
    subst (λ l. In l new)
    (sym (e ∙ sym (roots_bound c.args.store.now.signature c.args.store.now.nodes alike c.args.below c.args.known.now c.in-Bound.variable c.args.bindings.now)
    ∙ ap (λ u. roots S alike c.args.below c.args.known.now u c.args.bindings.now) (sym c.in-Bound.is)))
    i)
    c.bound_root.ensures

pub returns-in-Num : goal.returns-in-Num
returns-in-Num g c =
    let alike = g.E.Equalities.alike c.args.equalities.now in
    let S = seen c.args.store.now.signature c.args.store.now.nodes in
    IfOk-weaker c.one.result _ _
    (λ bs e new i.
    subst (λ l. In l new)
    (sym (e ∙ sym (roots_num c.args.store.now.signature c.args.store.now.nodes alike c.args.below c.args.known.now _ _ _ c.args.bindings.now)
    ∙ ap (λ u. roots S alike c.args.below c.args.known.now u c.args.bindings.now) (sym c.in-Num.is)))
    i)
    c.one.ensures

pub returns-in-Fresh : goal.returns-in-Fresh
returns-in-Fresh g c =
    let alike = g.E.Equalities.alike c.args.equalities.now in
    let S = seen c.args.store.now.signature c.args.store.now.nodes in
    IfOk-weaker c.one-in-Fresh.result _ _
    (λ bs e new i.
    subst (λ l. In l new)
    (sym (e ∙ sym (roots_fresh c.args.store.now.signature c.args.store.now.nodes alike c.args.below c.args.known.now _ _ c.args.bindings.now)
    ∙ ap (λ u. roots S alike c.args.below c.args.known.now u c.args.bindings.now) (sym c.in-Fresh.is)))
    i)
    c.one-in-Fresh.ensures

pub returns-else-computed : goal.returns-else-computed
returns-else-computed g c =
    let alike = g.E.Equalities.alike c.args.equalities.now in
    let S = seen c.args.store.now.signature c.args.store.now.nodes in
    let p = ap is_arithmetic (sym c.in-Apply.is) ∙ sym c.in_ok-computed-in-Apply.ensures ∙ c.if-computed.false in
    IfOk-weaker c.application_roots.result _ _
    (λ bs among new i.
    among new
    (subst (λ l. In l new)
    (ap (λ u. roots S alike c.args.below c.args.known.now u c.args.bindings.now) c.in-Apply.is
    ∙ roots_nodes c.args.store.now.signature c.args.store.now.nodes alike c.args.below c.args.known.now c.in-Apply.head c.in-Apply.sorts c.in-Apply.args c.args.bindings.now p
    ∙ (λ j. flat_map (node_root S alike c.args.below c.args.known.now c.in-Apply.head (sym c.as_slice.ensures j) (sym c.as_slice-in-Apply.ensures j) c.args.bindings.now) (with_head c.args.known.now (Of c.in-Apply.head))))
    i))
    c.application_roots.ensures
