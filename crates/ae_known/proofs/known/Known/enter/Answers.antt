use Rattle.std.proofs.Common.{◌≡◌, ◌∙◌, sym, ap, subst, cond, ◌&&◌}
use Rattle.std.proofs.lemmas.Option.{same_Some}
use Rattle.std.proofs.lemmas.Result.{on_ok_weaker}
use Rattle.indexmap.specs.IndexMap.{get}
use Rattle.ae_base.specs.Decided.{decided}
use Rattle.ae_core.specs.Sorts.{same_sorts}
use Rattle.ae_store.specs.Keys.{is_same}
use Rattle.ae_store.specs.declared.nodes.Node.{Node}
use Rattle.ae_known.specs.Index.{NodeHead_discrete, has_head, with_name, entered_groups, group_names, line_groups, key, of}
use Rattle.ae_known.proofs.IndexLaws.{sorts_entered}
use Rattle.ae_known.proofs.known.Known.enter.Goals as goal

pub returns-clause-sorts : goal.returns-clause-sorts
returns-clause-sorts c =
    let old = c.args.self.now in
    let n = c.args.name in
    let node = c.node-node.result.now in
    on_ok_weaker c.enter_head.result
    (λ f x at h ss.
    let gs = line_groups (get is_same old.lines (key h)) in
    subst (λ (y : Node). group_names ss (line_groups (get is_same c.enter_head.new.lines (key h))) ≡ cond (has_head h y && same_sorts y.sorts ss) (with_name n (of old h ss)) (of old h ss)) (same_Some node x (sym c.node-node.ensures.node ∙ at))
    (ap (group_names ss) (f h) ∙ ap (λ us. group_names ss (cond (decided (NodeHead_discrete node.head h)) (entered_groups us n gs) gs)) c.as_slice-2.ensures ∙ sorts_entered node.sorts ss n (has_head h node) gs))
    c.enter_head.ensures.groups
