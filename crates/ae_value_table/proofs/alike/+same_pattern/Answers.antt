use Rattle.std.specs.Prelude.{◌≡◌, ◌↔◌, ◌<◌, false, List, map, length, IsTrue}
use Rattle.std.proofs.Common.{sym, ap, ◌∙◌, subst, rules}
use Rattle.ae_value_table.specs.declared.patterns.Pattern.{Pattern, Fields}
use Rattle.ae_value_table.specs.Table.{number_at, leaf_at, value_in}
use Rattle.ae_value_table.proofs.ValueLaws.{never, of_number, of_leaf, fields_not_number, fields_not_leaf, fields_fields}
use Rattle.ae_value_table.proofs.Places.{same_at}
use Rattle.ae_value_table.proofs.alike.+same_pattern.Goals as goal

pub same_pattern-returns-in-Number : goal.same_pattern-returns-in-Number
same_pattern-returns-in-Number t c =
    let v = c.args.values.now in
    subst (λ (p : Pattern). IsTrue c.is_number.result ↔ (value_in v p ≡ value_in v c.args.right.now)) (sym c.in-Number.is)
    (of_number (number_at v) (leaf_at v) c.in-Number.name c.args.right.now c.is_number.result c.is_number.ensures)

pub same_pattern-returns-in-Leaf : goal.same_pattern-returns-in-Leaf
same_pattern-returns-in-Leaf t c =
    let v = c.args.values.now in
    subst (λ (p : Pattern). IsTrue c.is_leaf.result ↔ (value_in v p ≡ value_in v c.args.right.now)) (sym c.in-Leaf.is)
    (of_leaf (number_at v) (leaf_at v) c.in-Leaf.name c.args.right.now c.is_leaf.result c.is_leaf.ensures)

pub same_pattern-returns-in-Number-right : goal.same_pattern-returns-in-Number-right
same_pattern-returns-in-Number-right t c =
    let v = c.args.values.now in
    subst (λ (p : Pattern). IsTrue false ↔ (value_in v p ≡ value_in v c.args.right.now)) (sym c.in-Fields.is)
    (subst (λ (q : Pattern). IsTrue false ↔ (value_in v (Fields c.in-Fields.name c.in-Fields.fields) ≡ value_in v q)) (sym c.in-Number-right.is)
    (fields_not_number (number_at v) (leaf_at v) c.in-Fields.name c.in-Number-right.field-0 c.in-Fields.fields))

pub same_pattern-returns-in-Leaf-right : goal.same_pattern-returns-in-Leaf-right
same_pattern-returns-in-Leaf-right t c =
    let v = c.args.values.now in
    subst (λ (p : Pattern). IsTrue false ↔ (value_in v p ≡ value_in v c.args.right.now)) (sym c.in-Fields.is)
    (subst (λ (q : Pattern). IsTrue false ↔ (value_in v (Fields c.in-Fields.name c.in-Fields.fields) ≡ value_in v q)) (sym c.in-Leaf-right.is)
    (fields_not_leaf (number_at v) (leaf_at v) c.in-Fields.name c.in-Leaf-right.field-0 c.in-Fields.fields))

pub same_pattern-returns-in-Fields-right : goal.same_pattern-returns-in-Fields-right
same_pattern-returns-in-Fields-right t c =
    let v = value_in c.args.values.now in
    let r = c.same_patterns.result in
    let a = c.as_slice.result.now in
    let parts : IsTrue r ↔ (map v c.in-Fields.fields ≡ map v c.in-Fields-right.others) =
    subst (λ (ps : List Pattern). IsTrue r ↔ (map v ps ≡ map v c.in-Fields-right.others)) c.as_slice.ensures
    (subst (λ (qs : List Pattern). IsTrue r ↔ (map v a ≡ map v qs)) c.as_slice-in-Fields-right.ensures c.same_patterns.ensures) in
    subst (λ (p : Pattern). IsTrue r ↔ (v p ≡ v c.args.right.now)) (sym c.in-Fields.is)
    (subst (λ (q : Pattern). IsTrue r ↔ (v (Fields c.in-Fields.name c.in-Fields.fields) ≡ v q)) (sym c.in-Fields-right.is)
    (fields_fields (number_at c.args.values.now) (leaf_at c.args.values.now) c.in-Fields.name c.in-Fields-right.name c.in-Fields.fields c.in-Fields-right.others r parts))

pub same_patterns-returns-then-not-same_pattern : goal.same_patterns-returns-then-not-same_pattern
same_patterns-returns-then-not-same_pattern t c =
    let v = value_in c.args.values.now in
    let xs = c.args.left.now in
    let ys = c.args.right.now in
    let l : c.loop-i.i < length xs = search rules in
    let m : c.loop-i.i < length ys = search rules in
    let f : IsTrue c.same_pattern.result → ⊥ = search rules in
    never (map v xs ≡ map v ys)
    (λ e. f (c.same_pattern.ensures.1 (ap v c.index-left-i.is ∙ same_at v xs ys c.loop-i.i c.index-left-i.result c.index-right-i.result l m e ∙ sym (ap v c.index-right-i.is))))
