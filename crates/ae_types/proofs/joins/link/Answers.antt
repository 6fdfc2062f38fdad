use Rattle.std.proofs.Common.{rules, ◌≡◌, ◌<◌, length, true, false, ap, sym, ◌∙◌, subst, arith, slice_set}
use Rattle.ae_types.specs.declared.graph.Class.TheVariants as class
use Rattle.ae_types.specs.declared.graph.Node.TheVariants as node
use Rattle.ae_types.specs.declared.graph.Constant.TheVariants as constant
use Rattle.ae_types.specs.Inner.Graphs.{GraphWell, is_variable, slots_of}
use Rattle.ae_types.proofs.GraphLaws.{read_at, known_well}
use Rattle.ae_types.proofs.LinkLaws.{linked_kept, linked_moved}
use Rattle.ae_types.proofs.joins.link.Goals as goal

pub returns-in_ok-write-2-clause-ok : goal.returns-in_ok-write-2-clause-ok
returns-in_ok-write-2-clause-ok c =
    let q = c.requires in
    let y : (is_variable c.index-nodes-low.result ≡ true) × (is_variable c.index-nodes-high.result ≡ false) = search rules in
    let a : c.args.low.place < length c.args.classes.now = omega (arith, q.order, q.within) in
    let l = read_at c.args.nodes.now c.args.low.known (node.Constant constant.Unit) c.index-nodes-low.result (known_well c.args.nodes.now c.args.classes.now c.args.low.place c.args.low.known q.well a q.low_known).0 c.index-nodes-low.is in
    let h = read_at c.args.nodes.now c.args.high.known (node.Constant constant.Unit) c.index-nodes-high.result (known_well c.args.nodes.now c.args.classes.now c.args.high.place c.args.high.known q.well q.within q.high_known).0 c.index-nodes-high.is in
    let e = c.in_ok-write-2.ensures.ok ∙ ap (λ xs. slice_set xs c.args.low.place (class.Known c.args.high.known)) c.in_ok-write.ensures.ok in
    ap (slots_of c.args.nodes.now) e
    ∙ (linked_moved c.args.nodes.now c.args.classes.now c.args.low c.args.high q.well q.order q.within q.low_known q.high_known (ap is_variable l ∙ y.0) (ap is_variable h ∙ y.1)).1

pub returns-in_ok-write-2-clause-well : goal.returns-in_ok-write-2-clause-well
returns-in_ok-write-2-clause-well c =
    let q = c.requires in
    let y : (is_variable c.index-nodes-low.result ≡ true) × (is_variable c.index-nodes-high.result ≡ false) = search rules in
    let a : c.args.low.place < length c.args.classes.now = omega (arith, q.order, q.within) in
    let l = read_at c.args.nodes.now c.args.low.known (node.Constant constant.Unit) c.index-nodes-low.result (known_well c.args.nodes.now c.args.classes.now c.args.low.place c.args.low.known q.well a q.low_known).0 c.index-nodes-low.is in
    let h = read_at c.args.nodes.now c.args.high.known (node.Constant constant.Unit) c.index-nodes-high.result (known_well c.args.nodes.now c.args.classes.now c.args.high.place c.args.high.known q.well q.within q.high_known).0 c.index-nodes-high.is in
    let e = c.in_ok-write-2.ensures.ok ∙ ap (λ xs. slice_set xs c.args.low.place (class.Known c.args.high.known)) c.in_ok-write.ensures.ok in
    subst (GraphWell c.args.nodes.now) (sym e)
    (linked_moved c.args.nodes.now c.args.classes.now c.args.low c.args.high q.well q.order q.within q.low_known q.high_known (ap is_variable l ∙ y.0) (ap is_variable h ∙ y.1)).0

pub returns-else-takes_node-clause-ok : goal.returns-else-takes_node-clause-ok
returns-else-takes_node-clause-ok c =
    let q = c.requires in
    let y : is_variable c.index-nodes-low.result ≡ true → is_variable c.index-nodes-high.result ≡ true = search rules in
    let a : c.args.low.place < length c.args.classes.now = omega (arith, q.order, q.within) in
    let l = read_at c.args.nodes.now c.args.low.known (node.Constant constant.Unit) c.index-nodes-low.result (known_well c.args.nodes.now c.args.classes.now c.args.low.place c.args.low.known q.well a q.low_known).0 c.index-nodes-low.is in
    let h = read_at c.args.nodes.now c.args.high.known (node.Constant constant.Unit) c.index-nodes-high.result (known_well c.args.nodes.now c.args.classes.now c.args.high.place c.args.high.known q.well q.within q.high_known).0 c.index-nodes-high.is in
    ap (slots_of c.args.nodes.now) c.in_ok-write.ensures.ok
    ∙ (linked_kept c.args.nodes.now c.args.classes.now c.args.low c.args.high q.well q.order q.within q.low_known q.high_known (λ x. ap is_variable h ∙ y (sym (ap is_variable l) ∙ x))).1

pub returns-else-takes_node-clause-well : goal.returns-else-takes_node-clause-well
returns-else-takes_node-clause-well c =
    let q = c.requires in
    let y : is_variable c.index-nodes-low.result ≡ true → is_variable c.index-nodes-high.result ≡ true = search rules in
    let a : c.args.low.place < length c.args.classes.now = omega (arith, q.order, q.within) in
    let l = read_at c.args.nodes.now c.args.low.known (node.Constant constant.Unit) c.index-nodes-low.result (known_well c.args.nodes.now c.args.classes.now c.args.low.place c.args.low.known q.well a q.low_known).0 c.index-nodes-low.is in
    let h = read_at c.args.nodes.now c.args.high.known (node.Constant constant.Unit) c.index-nodes-high.result (known_well c.args.nodes.now c.args.classes.now c.args.high.place c.args.high.known q.well q.within q.high_known).0 c.index-nodes-high.is in
    subst (GraphWell c.args.nodes.now) (sym c.in_ok-write.ensures.ok)
    (linked_kept c.args.nodes.now c.args.classes.now c.args.low c.args.high q.well q.order q.within q.low_known q.high_known (λ x. ap is_variable h ∙ y (sym (ap is_variable l) ∙ x))).0
