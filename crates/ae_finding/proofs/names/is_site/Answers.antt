use Rattle.std.proofs.Common.{sym, ap, ◌∙◌, not}
use Rattle.ae_finding.proofs.NodeLaws.{site_plain, site_term}
use Rattle.ae_finding.proofs.names.is_site.Goals as goal

pub returns-then-not-is_operation : goal.returns-then-not-is_operation
returns-then-not-is_operation g c =
    sym (site_plain c.args.store.now.signature c.args.store.now.nodes (g.E.Equalities.alike c.args.equalities.now) c.args.below c.args.head c.args.name c.args.other c.node-node.result.now c.node-node.ensures.node
    (sym c.is_near.ensures ∙ c.if-not-is_near.false) (sym c.is_head.ensures ∙ c.if-not-is_head.false) (sym c.is_operation.ensures ∙ c.if-not-is_operation.true))

pub returns : goal.returns
returns g c =
    ap not c.in_ok-computed.ensures
    ∙ sym (site_term c.args.store.now.signature c.args.store.now.nodes (g.E.Equalities.alike c.args.equalities.now) c.args.below c.args.head c.args.name c.args.other c.node-node.result.now c.in_ok-term.term
    c.len.ensures.store c.node-node.ensures.node c.in_ok-term.ensures.term (sym c.is_near.ensures ∙ c.if-not-is_near.false) (sym c.is_head.ensures ∙ c.if-not-is_head.false))
