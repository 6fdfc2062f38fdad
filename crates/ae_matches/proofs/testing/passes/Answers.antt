use Rattle.std.proofs.Common.{sym, ap, ◌∙◌, map}
use Rattle.std.specs.List.{list_any}
use Rattle.std.proofs.lemmas.Result.{IfOk-weaker}
use Rattle.ae_core.specs.Putting.{put_sort}
use Rattle.ae_rules.specs.Matches.{is_arithmetic}
use Rattle.ae_store.specs.declared.nodes.NodeHead.TheVariants.{Of}
use Rattle.ae_match.specs.Seen.{seen}
use Rattle.ae_known.specs.Index.{with_head}
use Rattle.ae_finding.specs.Nodes.{node_passes}
use Rattle.ae_matches.specs.Candidates.{passes}
use Rattle.ae_matches.proofs.Passing.{passes_nodes}
use Rattle.ae_matches.proofs.testing.passes.Goals as goal

pub returns-in_ok-put-in-Apply : goal.returns-in_ok-put-in-Apply
returns-in_ok-put-in-Apply g c =
    let alike = g.E.Equalities.alike c.args.equalities.now in
    let S = seen c.args.store.now.signature c.args.store.now.nodes in
    let p = ap is_arithmetic (sym c.in-Apply.is) ∙ sym c.in_ok-computed-in-Apply.ensures ∙ c.if-computed.false in
    let put = c.as_slice-in-Apply.ensures ∙ c.in_ok-put-in-Apply.ensures ∙ ap (map (put_sort c.args.sorts.now)) c.as_slice.ensures in
    IfOk-weaker c.application_passes.result _ _
    (λ b e.
    e ∙ (λ i. list_any (λ m. node_passes S alike c.args.below c.args.sorts.now c.args.values.now c.in-Apply.head (put i) (c.as_slice-in-Apply-2.ensures i) m m) (with_head c.args.known.now (Of c.in-Apply.head)))
    ∙ sym (passes_nodes S alike c.args.below c.args.known.now c.args.sorts.now c.args.values.now c.args.terms.now c.in-Apply.head c.in-Apply.own c.in-Apply.args p)
    ∙ ap (passes S alike c.args.below c.args.known.now c.args.sorts.now c.args.values.now c.args.terms.now) (sym c.in-Apply.is))
    c.application_passes.ensures
