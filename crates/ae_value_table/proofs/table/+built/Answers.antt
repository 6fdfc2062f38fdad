use Rattle.std.specs.Prelude.{List, map}
use Rattle.std.proofs.Common.{sym, ap, ◌∙◌}
use Rattle.std.proofs.lemmas.List.{take_all}
use Rattle.ae_num.specs.declared.forms.Value.{Value}
use Rattle.ae_num.specs.declared.forms.Value as value
use Rattle.ae_value_table.specs.Table.{number_at, leaf_at, value_in}
use Rattle.ae_value_table.proofs.ValueLaws.{by-Fields}
use Rattle.ae_value_table.proofs.table.+built.Goals as goal

pub returns-after-loop-field : goal.returns-after-loop-field
returns-after-loop-field t c =
    let v = c.args.held.now in
    ap (λ (vs : List Value). value.Fields vs)
    (c.loop-field.invariant ∙ ap (map (value_in v)) (take_all c.loop-field.field-index c.as_slice-field-items.result.now c.loop-field-test.false ∙ c.as_slice-field-items.ensures))
    ∙ sym (by-Fields (number_at v) (leaf_at v) c.in-Fields.name c.in-Fields.fields) ∙ ap (value_in v) (sym c.in-Fields.is)
