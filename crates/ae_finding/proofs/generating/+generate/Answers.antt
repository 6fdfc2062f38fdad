use Rattle.std.proofs.Common.{refl, sym, ap, ◌∙◌, map, length}
use Rattle.std.specs.List.{flat_map}
use Rattle.std.proofs.lemmas.List.{length-map}
use Rattle.std.proofs.lemmas.Result.{IfOk-weaker}
use Rattle.ae_rules.specs.Matches.{is_arithmetic}
use Rattle.ae_store.specs.declared.nodes.NodeHead.TheVariants.{Of}
use Rattle.ae_matching.specs.Generating.{generate, own_at}
use Rattle.ae_match.specs.Seen.{seen}
use Rattle.ae_known.specs.Index.{with_head}
use Rattle.ae_finding.specs.Nodes.{at_node, each_order}
use Rattle.ae_finding.proofs.OwnRules.{from_differ}
use Rattle.ae_finding.proofs.GenerateRules.{generate_bound, generate_num, generate_fresh, generate_own, generate_nodes, order_one}
use Rattle.ae_finding.proofs.ClassNames.{class_nodes}
use Rattle.ae_finding.proofs.generating.+generate.Goals as goal

pub each-returns-then-args-names : goal.each-returns-then-args-names
each-returns-then-args-names g t c =
    let gen = generate (seen c.args.store.now.signature c.args.store.now.nodes) (g.E.Equalities.alike c.args.equalities.now) c.args.below is_arithmetic in
    c.new.ensures ∙ sym (from_differ (map gen c.args.args.now) c.args.names.now _ (λ e. c.if-args-names.true (sym (length-map c.args.args.now gen) ∙ e)))

pub each_order-returns-then-not-either : goal.each_order-returns-then-not-either
each_order-returns-then-not-either g t c =
    let alike = g.E.Equalities.alike c.args.equalities.now in
    IfOk-weaker c.each.result _ _
    (λ bs e.
    e ∙ sym (order_one c.args.store.now.signature c.args.store.now.nodes alike c.args.below c.args.args.now c.args.names.now c.args.bindings.now)
    ∙ ap (λ b. each_order (seen c.args.store.now.signature c.args.store.now.nodes) alike c.args.below c.args.args.now c.args.names.now b c.args.bindings.now) (sym c.if-not-either.true))
    c.each.ensures

pub generate-returns-then-computed : goal.generate-returns-then-computed
generate-returns-then-computed g t c =
    let alike = g.E.Equalities.alike c.args.equalities.now in
    let S = seen c.args.store.now.signature c.args.store.now.nodes in
    let p = ap is_arithmetic (sym c.in-Apply.is) ∙ sym c.in_ok-computed-in-Apply.ensures ∙ c.if-computed.true in
    IfOk-weaker c.all_own.result _ _
    (λ bs e.
    e ∙ ap (λ u. flat_map (own_at S alike c.args.below u c.args.name c.args.bindings.now) (with_head c.args.known.now (Of c.in-Apply.head))) c.in-Apply.is
    ∙ sym (generate_own c.args.store.now.signature c.args.store.now.nodes alike c.args.below c.args.known.now c.requires.entered c.in-Apply.head c.in-Apply.sorts c.in-Apply.args c.args.name c.args.bindings.now p)
    ∙ ap (λ u. generate S alike c.args.below is_arithmetic u c.args.name c.args.bindings.now) (sym c.in-Apply.is))
    c.all_own.ensures

pub generate-returns-in-Bound : goal.generate-returns-in-Bound
generate-returns-in-Bound g t c =
    let alike = g.E.Equalities.alike c.args.equalities.now in
    let S = seen c.args.store.now.signature c.args.store.now.nodes in
    IfOk-weaker c.bind_loose.result _ _
    (λ bs e.
    e ∙ sym (generate_bound c.args.store.now.signature c.args.store.now.nodes alike c.args.below c.in-Bound.variable c.args.name c.args.bindings.now)
    ∙ ap (λ u. generate S alike c.args.below is_arithmetic u c.args.name c.args.bindings.now) (sym c.in-Bound.is))
    c.bind_loose.ensures

pub generate-returns-in-Num : goal.generate-returns-in-Num
generate-returns-in-Num g t c =
    let alike = g.E.Equalities.alike c.args.equalities.now in
    let S = seen c.args.store.now.signature c.args.store.now.nodes in
    IfOk-weaker c.one.result _ _
    (λ bs e.
    e ∙ sym (generate_num c.args.store.now.signature c.args.store.now.nodes alike c.args.below _ _ _ c.args.name c.args.bindings.now)
    ∙ ap (λ u. generate S alike c.args.below is_arithmetic u c.args.name c.args.bindings.now) (sym c.in-Num.is))
    c.one.ensures

pub generate-returns-in-Fresh : goal.generate-returns-in-Fresh
generate-returns-in-Fresh g t c =
    let alike = g.E.Equalities.alike c.args.equalities.now in
    let S = seen c.args.store.now.signature c.args.store.now.nodes in
    IfOk-weaker c.one-in-Fresh.result _ _
    (λ bs e.
    e ∙ sym (generate_fresh c.args.store.now.signature c.args.store.now.nodes alike c.args.below _ _ c.args.name c.args.bindings.now)
    ∙ ap (λ u. generate S alike c.args.below is_arithmetic u c.args.name c.args.bindings.now) (sym c.in-Fresh.is))
    c.one-in-Fresh.ensures

pub generate-returns-else-computed : goal.generate-returns-else-computed
generate-returns-else-computed g t c =
    let alike = g.E.Equalities.alike c.args.equalities.now in
    let S = seen c.args.store.now.signature c.args.store.now.nodes in
    let p = ap is_arithmetic (sym c.in-Apply.is) ∙ sym c.in_ok-computed-in-Apply.ensures ∙ c.if-computed.false in
    IfOk-weaker c.at_nodes.result _ _
    (λ bs e.
    e ∙ (λ i. flat_map (at_node S alike c.args.below c.in-Apply.head (c.as_slice.ensures i) (c.as_slice-in-Apply.ensures i) c.args.name c.args.bindings.now) (with_head c.args.known.now (Of c.in-Apply.head)))
    ∙ sym (generate_nodes c.args.store.now.signature c.args.store.now.nodes alike c.args.below c.args.known.now c.requires.entered c.in-Apply.head c.in-Apply.sorts c.in-Apply.args c.args.name c.args.bindings.now p)
    ∙ ap (λ u. generate S alike c.args.below is_arithmetic u c.args.name c.args.bindings.now) (sym c.in-Apply.is))
    c.at_nodes.ensures

pub at_nodes-returns : goal.at_nodes-returns
at_nodes-returns g t c =
    let alike = g.E.Equalities.alike c.args.equalities.now in
    let nodes = c.args.store.now.nodes in
    IfOk-weaker c.at_each-2.result _ _
    (λ bs e.
    e ∙ ap (flat_map (at_node (seen c.args.store.now.signature nodes) alike c.args.below c.args.head c.args.sorts.now c.args.args.now c.args.name c.args.bindings.now)) c.as_slice.ensures
    ∙ class_nodes alike c.args.name (length nodes) c.in_ok-names.names c.in_ok-names.ensures.all c.in_ok-names.ensures.rising c.args.store.now.signature nodes refl (λ l m x. g.met.E.Equalities.symmetric c.args.equalities.now l m x) c.args.below
    c.args.known.now c.requires.entered c.args.head c.args.sorts.now c.args.args.now c.args.bindings.now)
    c.at_each-2.ensures
