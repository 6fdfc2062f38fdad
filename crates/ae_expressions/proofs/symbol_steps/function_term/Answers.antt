use Rattle.std.proofs.Common.{◌≡◌, ◌∙◌, slice_get, ap, subst}
use Rattle.ae_core.specs.declared.problems.Signature.{Signature}
use Rattle.ae_core.specs.declared.terms.Head.TheVariants as head
use Rattle.ae_core.specs.Putting.{put_sort}
use Rattle.ae_elab.specs.Nodes.{a_tree}
use Rattle.ae_elab.specs.Rules.{give, typed}
use Rattle.ae_elab.specs.Trees.{apply}
use Rattle.ae_elab.specs.Typings.{TypesTerm, Puts, nodes_of}
use Rattle.ae_elab.proofs.NodeLaws.{trees_are}
use Rattle.ae_elab.proofs.TypingLaws.{puts_term}
use Rattle.ae_expressions.proofs.symbol_steps.function_term.Goals as goal

pub returns : goal.returns
returns c e r us is value stand =
    let d = c.args.context.now in
    let k = c.args.number in
    let old = c.args.typing.now in
    let new = c.push_node.new.typing in
    let n = c.in_ok-tree.tree in
    let s = c.in_ok-sort.sort in
    let ss = c.args.applied.sorts in
    let t = apply (head.Symbol k) ss us in
    let sorted : s ≡ put_sort ss r = c.in_ok-sort.ensures e r (ap (λ (g : Signature). slice_get g.symbols k) c.signature.ensures ∙ is) value ∙ ap (λ zs. put_sort zs r) c.as_slice.ensures in
    subst (λ z. TypesTerm d (λ sc. give (typed t z)) old new (record { tree = n; sort = s })) sorted
    (puts_term d old new t n s (subst (λ z. Puts old new (a_tree (apply (head.Symbol k) ss z)) n) (trees_are (nodes_of old) c.args.applied.args us stand) c.in_ok-tree.ensures))
