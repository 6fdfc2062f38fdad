use Rattle.std.proofs.Common.{sym, ◌∙◌, map, ◌≡◌, Some, None}
use Rattle.std.proofs.lemmas.List.{length-map}
use Rattle.std.proofs.lemmas.Result.{IfOk-weaker}
use Rattle.ae_matching.specs.SortMatching.{match_sorts}
use Rattle.ae_matching.specs.Generating.{own, each}
use Rattle.ae_match.specs.Seen.{seen}
use Rattle.ae_finding.proofs.OwnRules.{own_none, own_some, from_start, from_differ}
use Rattle.ae_finding.proofs.own.+own.Goals as goal

pub own_at-returns-in-None : goal.own_at-returns-in-None
own_at-returns-in-None t c =
    let m : match_sorts c.args.sorts.now c.node-node.result.now.sorts c.args.bindings.now.sorts ≡ None = cc (c.in_ok-match_sorts.ensures, c.as_slice-2.ensures, c.in_ok-old.ensures, c.as_slice.ensures, c.in-None.is) in
    c.new-in-None.ensures
    ∙ sym (own_none c.args.store.now.signature c.args.store.now.nodes c.args.head c.args.sorts.now c.args.args.now c.args.bindings.now c.args.name c.node-node.result.now c.node-node.ensures.node
    (sym c.is_head.ensures ∙ c.if-not-is_head.false) m)

pub own_at-returns-in_ok-next-in-Some : goal.own_at-returns-in_ok-next-in-Some
own_at-returns-in_ok-next-in-Some t c =
    let m : match_sorts c.args.sorts.now c.node-node.result.now.sorts c.args.bindings.now.sorts ≡ Some c.in-Some.found = cc (c.in_ok-match_sorts.ensures, c.as_slice-2.ensures, c.in_ok-old.ensures, c.as_slice.ensures, c.in-Some.is) in
    IfOk-weaker c.own_each.result _ _
    (λ bs e.
    e ∙ from_start (map (own (seen c.args.store.now.signature c.args.store.now.nodes)) c.args.args.now) c.as_slice-in-Some.result.now c.in_ok-next-in-Some.next
    ∙ (λ i. each (map (own (seen c.args.store.now.signature c.args.store.now.nodes)) c.args.args.now) (c.as_slice-in-Some.ensures i) (c.in_ok-next-in-Some.ensures i))
    ∙ sym (own_some c.args.store.now.signature c.args.store.now.nodes c.args.head c.args.sorts.now c.args.args.now c.args.bindings.now c.args.name c.node-node.result.now c.node-node.ensures.node c.in-Some.found
    (sym c.is_head.ensures ∙ c.if-not-is_head.false) m))
    c.own_each.ensures

pub own_each-returns-then-args-names : goal.own_each-returns-then-args-names
own_each-returns-then-args-names t c =
    c.new.ensures ∙ sym (from_differ (map (own (seen c.args.store.now.signature c.args.store.now.nodes)) c.args.args.now) c.args.names.now _ (λ e. c.if-args-names.true (sym (length-map c.args.args.now (own (seen c.args.store.now.signature c.args.store.now.nodes))) ∙ e)))
