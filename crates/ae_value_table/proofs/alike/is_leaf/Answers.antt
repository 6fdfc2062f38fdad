use Rattle.std.specs.Prelude.{◌≡◌, ◌↔◌, false, nat_eq, IsTrue}
use Rattle.std.proofs.Common.{sym, subst, ◌∙◌}
use Rattle.std.proofs.lemmas.Bool.{eqb-true, eq-eqb}
use Rattle.ae_num.specs.declared.forms.Value as value
use Rattle.ae_value_table.specs.declared.patterns.Pattern.{Pattern}
use Rattle.ae_value_table.specs.Table.{number_at, leaf_at, value_in}
use Rattle.ae_value_table.proofs.ValueLaws.{leaf_leaf, leaf_not_number, leaf_not_fields}
use Rattle.ae_value_table.proofs.alike.is_leaf.Goals as goal

pub returns-in-Number : goal.returns-in-Number
returns-in-Number c =
    let v = c.args.values.now in
    subst (λ (q : Pattern). IsTrue false ↔ (value.Leaf (leaf_at v c.args.name) ≡ value_in v q)) (sym c.in-Number.is)
    (leaf_not_number (number_at v) (leaf_at v) c.args.name c.in-Number.field-0)

pub returns-in-Leaf : goal.returns-in-Leaf
returns-in-Leaf c =
    let v = c.args.values.now in
    let a = c.leaf.result in
    let b = c.leaf-in-Leaf.result in
    subst (λ (q : Pattern). IsTrue (nat_eq c.leaf.result c.leaf-in-Leaf.result) ↔ (value.Leaf (leaf_at v c.args.name) ≡ value_in v q)) (sym c.in-Leaf.is)
    (leaf_leaf (number_at v) (leaf_at v) c.args.name c.in-Leaf.other (nat_eq a b) (λ t. sym c.leaf.ensures ∙ eqb-true a b t ∙ c.leaf-in-Leaf.ensures, λ e. eq-eqb a b (c.leaf.ensures ∙ e ∙ sym c.leaf-in-Leaf.ensures)))

pub returns-in-Fields : goal.returns-in-Fields
returns-in-Fields c =
    let v = c.args.values.now in
    subst (λ (q : Pattern). IsTrue false ↔ (value.Leaf (leaf_at v c.args.name) ≡ value_in v q)) (sym c.in-Fields.is)
    (leaf_not_fields (number_at v) (leaf_at v) c.args.name c.in-Fields.name c.in-Fields.fields)
