use Rattle.std.specs.Prelude.{◌≡◌, ◌↔◌, false, IsTrue}
use Rattle.std.proofs.Common.{sym, subst}
use Rattle.ae_num.specs.declared.forms.Value as value
use Rattle.ae_value_table.specs.declared.patterns.Pattern.{Pattern}
use Rattle.ae_value_table.specs.Table.{number_at, leaf_at, value_in}
use Rattle.ae_value_table.proofs.ValueLaws.{number_number, number_not_leaf, number_not_fields}
use Rattle.ae_value_table.proofs.alike.is_number.Goals as goal

pub returns-in-Number : goal.returns-in-Number
returns-in-Number c =
    let v = c.args.values.now in
    subst (λ (q : Pattern). IsTrue c.same_number.result ↔ (value.Number (number_at v c.args.name) ≡ value_in v q)) (sym c.in-Number.is)
    (number_number (number_at v) (leaf_at v) c.args.name c.in-Number.other c.same_number.result c.same_number.ensures)

pub returns-in-Leaf : goal.returns-in-Leaf
returns-in-Leaf c =
    let v = c.args.values.now in
    subst (λ (q : Pattern). IsTrue false ↔ (value.Number (number_at v c.args.name) ≡ value_in v q)) (sym c.in-Leaf.is)
    (number_not_leaf (number_at v) (leaf_at v) c.args.name c.in-Leaf.field-0)

pub returns-in-Fields : goal.returns-in-Fields
returns-in-Fields c =
    let v = c.args.values.now in
    subst (λ (q : Pattern). IsTrue false ↔ (value.Number (number_at v c.args.name) ≡ value_in v q)) (sym c.in-Fields.is)
    (number_not_fields (number_at v) (leaf_at v) c.args.name c.in-Fields.name c.in-Fields.fields)
