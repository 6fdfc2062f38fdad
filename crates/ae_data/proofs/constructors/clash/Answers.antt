use Rattle.std.specs.Prelude.{not, ◌≡◌}
use Rattle.std.proofs.Common.{sym, ap, ◌∙◌, subst}
use Rattle.ae_base.proofs.Tests.{false_true, not_where}
use Rattle.ae_core.specs.declared.problems.Signature.{Signature}
use Rattle.ae_core.specs.declared.terms.Head.{Head}
use Rattle.ae_rules.specs.Derivations.{IsConstructor}
use Rattle.ae_store.specs.declared.nodes.NodeHead.{NodeHead}
use Rattle.ae_store.specs.declared.nodes.NodeHead.TheVariants.{Of}
use Rattle.ae_data.proofs.ConstructorLaws.{named_by, node_by}
use Rattle.ae_data.proofs.constructors.clash.Goals as goal

one_head : (k : NodeHead) (h i : Head) → k ≡ Of h → k ≡ Of i → h ≡ i
one_head k h i p q = let e : Of h ≡ Of i = sym p ∙ q in cc e

pub returns-in-None : goal.returns-in-None
returns-in-None c = (
  λ t. false_true t,
  λ d. absurd (c.in-None.ensures d.first
      (node_by c.args.store.now.signature c.args.store.now.nodes c.len-len.ensures.store c.args.left c.node.result.now c.node.ensures.node d.first d.left_names)
      (subst (λ (s : Signature). IsConstructor s d.first) (sym c.requires.same) d.left_names.constructor)),
)

pub returns-in-None-constructor : goal.returns-in-None-constructor
returns-in-None-constructor c = (
  λ t. false_true t,
  λ d. absurd (c.in-None-constructor.ensures d.second
      (node_by c.args.store.now.signature c.args.store.now.nodes c.len-len.ensures.store c.args.right c.node-in-Some.result.now c.node-in-Some.ensures.node d.second d.right_names)
      (subst (λ (s : Signature). IsConstructor s d.second) (sym c.requires.same) d.right_names.constructor)),
)

pub returns-in-Some-constructor : goal.returns-in-Some-constructor
returns-in-Some-constructor c =
    let sig = c.args.store.now.signature in
    let nodes = c.args.store.now.nodes in
    let store = c.len-len.ensures.store in
    let first = c.in-Some.first in
    let second = c.in-Some-constructor.second in
    let left = c.in-Some.ensures in
    let right = c.in-Some-constructor.ensures in (
      λ t. record {
        first = first;
        second = second;
        left_names = named_by sig nodes store c.args.left c.node.result.now c.node.ensures.node first left.0 (subst (λ (s : Signature). IsConstructor s first) c.requires.same left.1);
        right_names = named_by sig nodes store c.args.right c.node-in-Some.result.now c.node-in-Some.ensures.node second right.0 (subst (λ (s : Signature). IsConstructor s second) c.requires.same right.1);
        differ = λ e. let yes = c.same_head.ensures.1 e in false_true (sym (ap not yes) ∙ t);
      },
      λ d. not_where c.same_head.result (λ t.
          let p = one_head c.node.result.now.head first d.first left.0 (node_by sig nodes store c.args.left c.node.result.now c.node.ensures.node d.first d.left_names) in
          let q = one_head c.node-in-Some.result.now.head second d.second right.0 (node_by sig nodes store c.args.right c.node-in-Some.result.now c.node-in-Some.ensures.node d.second d.right_names) in
          d.differ (sym p ∙ c.same_head.ensures.0 t ∙ q)),
    )
