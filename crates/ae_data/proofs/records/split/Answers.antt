use Rattle.std.proofs.Common.{sym, ap, ◌∙◌, length}
use Rattle.ae_num.specs.declared.forms.Value.{Fields}
use Rattle.ae_data.proofs.RecordLaws.{fields_are}
use Rattle.ae_data.proofs.records.split.Goals as goal

pub pairs-requires : goal.pairs-requires
pairs-requires c =
    let r = c.requires in
    ap length (c.fields.ensures ∙ fields_are c.args.left.now r.left_fields r.left_is) ∙ r.as_many
    ∙ sym (ap length (c.fields-2.ensures ∙ fields_are c.args.right.now r.right_fields r.right_is))

pub returns-clause-left : goal.returns-clause-left
returns-clause-left c =
    let r = c.requires in
    r.left_is ∙ ap Fields (sym (c.in_ok-equations.ensures.left ∙ c.fields.ensures ∙ fields_are c.args.left.now r.left_fields r.left_is))

pub returns-clause-right : goal.returns-clause-right
returns-clause-right c =
    let r = c.requires in
    r.right_is ∙ ap Fields (sym (c.in_ok-equations.ensures.right ∙ c.fields-2.ensures ∙ fields_are c.args.right.now r.right_fields r.right_is))
