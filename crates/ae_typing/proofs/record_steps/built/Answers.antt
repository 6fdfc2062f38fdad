use Rattle.std.proofs.Common.{arith, ◌≡◌, ◌∙◌, length, sym, ap, subst}
use Rattle.ae_core.specs.declared.problems.Signature.{Signature}
use Rattle.ae_elab.specs.declared.faults.TypeFault.{TypeFault}
use Rattle.ae_elab.specs.Terms.{fields_at}
use Rattle.ae_elab.specs.Typings.{Stops, nodes_of}
use Rattle.ae_elab.proofs.NodeLaws.{trees_are}
use Rattle.ae_expressions.specs.FieldParts.{then_built}
use Rattle.ae_typing.proofs.RecordLaws.{built_short, built_whole}
use Rattle.ae_typing.proofs.record_steps.built.Goals as goal

pub returns-then-len-count : goal.returns-then-len-count
returns-then-len-count c us are =
    let d = c.args.context.now in
    let v = c.args.values in
    let counted : c.count_fields-count.result ≡ length (fields_at d.known c.args.of) = c.count_fields-count.ensures ∙ ap (λ (s : Signature). length (fields_at s c.args.of)) c.signature.ensures in
    subst (λ (e : TypeFault). Stops d (λ sc. then_built c.args.own c.args.of c.args.sorts sc (record { places = v.places; terms = us })) c.args.typing.now e) (sym c.missing_field.ensures)
    (built_short d c.args.own c.args.of c.args.sorts v.places us c.args.typing.now (λ z. omega (arith, z, counted, c.len.ensures, c.if-len-count.true)))

pub returns : goal.returns
returns c us are =
    let d = c.args.context.now in
    let v = c.args.values in
    let counted : c.count_fields-count.result ≡ length (fields_at d.known c.args.of) = c.count_fields-count.ensures ∙ ap (λ (s : Signature). length (fields_at s c.args.of)) c.signature.ensures in
    let filled : length v.places ≡ c.count_fields-count.result = omega (arith, c.len.ensures, c.if-len-count.false) in
    built_whole d c.args.own c.args.of c.args.sorts v.places us c.args.typing.now c.count_fields-count.result c.in_ok-args.args c.in_ok-tree.tree v.trees c.push_node.new.typing
    counted filled (c.in_ok-args.ensures ∙ c.as_slice.ensures) (trees_are (nodes_of c.args.typing.now) v.trees us are) c.in_ok-tree.ensures
