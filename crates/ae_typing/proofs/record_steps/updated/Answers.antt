use Rattle.std.proofs.Common.{◌≡◌, ◌∙◌, length, ap}
use Rattle.ae_core.specs.declared.problems.Signature.{Signature}
use Rattle.ae_elab.specs.Terms.{fields_at}
use Rattle.ae_elab.specs.Typings.{nodes_of}
use Rattle.ae_elab.proofs.NodeLaws.{tree_is, trees_are}
use Rattle.ae_typing.proofs.RecordLaws.{updated_whole}
use Rattle.ae_typing.proofs.record_steps.updated.Goals as goal

pub returns : goal.returns
returns c x us is are =
    let d = c.args.context.now in
    let v = c.args.values in
    let counted : c.count_fields-count.result ≡ length (fields_at d.known c.args.of) = c.count_fields-count.ensures ∙ ap (λ (s : Signature). length (fields_at s c.args.of)) c.signature.ensures in
    updated_whole d c.args.of c.args.sorts v.places us c.args.typing.now c.count_fields-count.result c.in_ok-args.args c.in_ok-tree.tree c.args.base x v.trees c.push_node.new.typing
    counted (c.in_ok-args.ensures ∙ c.as_slice.ensures) (tree_is (nodes_of c.args.typing.now) c.args.base x is) (trees_are (nodes_of c.args.typing.now) v.trees us are) c.in_ok-tree.ensures
