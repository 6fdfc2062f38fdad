use Rattle.std.proofs.Common.{rules, ◌≡◌, ◌<◌, ◌-◌, ap, sym, ◌∙◌, subst, arith, IfOk}
use Rattle.ae_core.specs.declared.terms.Sort.{Var, Named}
use Rattle.ae_types.specs.declared.graph.Node.TheVariants as node
use Rattle.ae_types.specs.declared.graph.Constant.TheVariants as constant
use Rattle.ae_types.specs.Inner.Graphs.{Link, Plain, Built, slot_of, slots_of, known_slot, unknown, value, variable_of}
use Rattle.ae_types.proofs.GraphLaws.{read_at, slot_at_class, known_well, value_of, value_free, all_mapped}
use Rattle.ae_types.proofs.graph.+resolve.Goals as goal

pub returns-in-Link : goal.returns-in-Link
returns-in-Link t c =
    let h : 0 < c.args.fuel = omega arith in
    let s = slot_at_class c.args.nodes.now c.args.classes.now c.args.at c.requires.within ∙ ap (slot_of c.args.nodes.now) c.in-Link.is in
    subst (λ x. IfOk c.resolve.result (λ r. r ≡ x)) (sym (value_of (unknown c.args.nodes.now) c.args.fuel (slots_of c.args.nodes.now c.args.classes.now) c.args.at (Link c.in-Link.next) h s)) c.resolve.ensures

pub returns-in-Variable : goal.returns-in-Variable
returns-in-Variable t c =
    let w = known_well c.args.nodes.now c.args.classes.now c.args.at c.in-Known.known c.requires.well c.requires.within c.in-Known.is in
    let n = read_at c.args.nodes.now c.in-Known.known (node.Constant constant.Unit) c.index-nodes-known.result w.0 c.index-nodes-known.is ∙ c.in-Variable.is in
    let s = slot_at_class c.args.nodes.now c.args.classes.now c.args.at c.requires.within ∙ ap (slot_of c.args.nodes.now) c.in-Known.is ∙ ap known_slot n in
    let b = read_at c.args.nodes.now c.args.at (node.Constant constant.Unit) c.index-nodes-at-in-Variable.result (omega (arith, c.requires.within, c.requires.well.lengths)) c.index-nodes-at-in-Variable.is in
    ap Var (c.variable_of-in-Variable.ensures ∙ ap variable_of (sym b))
    ∙ sym (value_free (unknown c.args.nodes.now) c.args.fuel (slots_of c.args.nodes.now c.args.classes.now) c.args.at s)

pub returns-in-Constant : goal.returns-in-Constant
returns-in-Constant t c =
    let h : 0 < c.args.fuel = omega arith in
    let w = known_well c.args.nodes.now c.args.classes.now c.args.at c.in-Known.known c.requires.well c.requires.within c.in-Known.is in
    let n = read_at c.args.nodes.now c.in-Known.known (node.Constant constant.Unit) c.index-nodes-known.result w.0 c.index-nodes-known.is ∙ c.in-Constant.is in
    let s = slot_at_class c.args.nodes.now c.args.classes.now c.args.at c.requires.within ∙ ap (slot_of c.args.nodes.now) c.in-Known.is ∙ ap known_slot n in
    c.constant_sort.ensures ∙ sym (value_of (unknown c.args.nodes.now) c.args.fuel (slots_of c.args.nodes.now c.args.classes.now) c.args.at (Plain c.in-Constant.constant) h s)

pub returns-after-loop-arg : goal.returns-after-loop-arg
returns-after-loop-arg t c =
    let h : 0 < c.args.fuel = omega arith in
    let w = known_well c.args.nodes.now c.args.classes.now c.args.at c.in-Known.known c.requires.well c.requires.within c.in-Known.is in
    let n = read_at c.args.nodes.now c.in-Known.known (node.Constant constant.Unit) c.index-nodes-known.result w.0 c.index-nodes-known.is ∙ c.in-Built.is in
    let s = slot_at_class c.args.nodes.now c.args.classes.now c.args.at c.requires.within ∙ ap (slot_of c.args.nodes.now) c.in-Known.is ∙ ap known_slot n in
    ap (Named c.in-Built.head)
    (all_mapped (value (unknown c.args.nodes.now) (c.args.fuel - 1) (slots_of c.args.nodes.now c.args.classes.now)) c.loop-arg.sorts c.loop-arg.arg-index c.as_slice-arg-items.result.now c.in-Built.args c.loop-arg.invariant (search rules) (omega arith))
    ∙ sym (value_of (unknown c.args.nodes.now) c.args.fuel (slots_of c.args.nodes.now c.args.classes.now) c.args.at (Built c.in-Built.head c.in-Built.args) h s)
