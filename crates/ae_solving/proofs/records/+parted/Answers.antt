use Rattle.std.specs.Prelude.{ℕ, ◌<◌}
use Rattle.std.proofs.Common.{sym, ap, ◌∙◌, subst, arith}
use Rattle.ae_equal_steps.specs.Inner.Parts.{name_of}
use Rattle.ae_equal_steps.proofs.Adding.{held_kept}
use Rattle.ae_equal_steps.proofs.PatternLaws.{name-Number, name-Leaf, number_fields, leaf_fields, fields_fall, part_falls}
use Rattle.ae_state_steps.specs.ValueSteps.{StatesEqual}
use Rattle.ae_store.specs.Shapes.{shapes}
use Rattle.ae_store.specs.Terms.{terms}
use Rattle.ae_value_table.specs.declared.patterns.Pattern.{size-Pattern}
use Rattle.ae_solving.specs.Inner.Apart.{AreFieldsOf, AreToJoin}
use Rattle.ae_solving.proofs.RecordParts.{item_at, to_join, parted_as, lists_apart, fields_of, places_apart}
use Rattle.ae_solving.proofs.records.+parted.Goals as goal

-- ---- names that are no records
pub returns-in-Number-clause-join : goal.returns-in-Number-clause-join
returns-in-Number-clause-join t c =
    let s = c.args.store.now in
    let h = c.requires.held in
    let k = c.in-Number.name in
    let p = c.args.left.now in
    subst (λ (z : ℕ × ℕ). AreToJoin s.signature (terms (shapes s.nodes)) c.args.values.now z.0 z.1) (λ i. ((ap name_of c.in-Number.is ∙ name-Number k) i, sym c.name_of-other.ensures i))
    (to_join s.signature s.nodes c.args.values.now h.store h.patterns h.values p c.args.right.now c.requires.apart (λ ps e. number_fields k (name_of p) ps (sym c.in-Number.is ∙ e)))

pub returns-in-Number-clause-states : goal.returns-in-Number-clause-states
returns-in-Number-clause-states t c =
    subst (λ (z : ℕ × ℕ). StatesEqual c.args.justs.now c.args.step z.0 z.1) (λ i. ((ap name_of c.in-Number.is ∙ name-Number c.in-Number.name) i, sym c.name_of-other.ensures i)) c.requires.states

pub returns-in-Leaf-clause-join : goal.returns-in-Leaf-clause-join
returns-in-Leaf-clause-join t c =
    let s = c.args.store.now in
    let h = c.requires.held in
    let k = c.in-Leaf.name in
    let p = c.args.left.now in
    subst (λ (z : ℕ × ℕ). AreToJoin s.signature (terms (shapes s.nodes)) c.args.values.now z.0 z.1) (λ i. ((ap name_of c.in-Leaf.is ∙ name-Leaf k) i, sym c.name_of-other.ensures i))
    (to_join s.signature s.nodes c.args.values.now h.store h.patterns h.values p c.args.right.now c.requires.apart (λ ps e. leaf_fields k (name_of p) ps (sym c.in-Leaf.is ∙ e)))

pub returns-in-Leaf-clause-states : goal.returns-in-Leaf-clause-states
returns-in-Leaf-clause-states t c =
    subst (λ (z : ℕ × ℕ). StatesEqual c.args.justs.now c.args.step z.0 z.1) (λ i. ((ap name_of c.in-Leaf.is ∙ name-Leaf c.in-Leaf.name) i, sym c.name_of-other.ensures i)) c.requires.states

-- ---- records
pub first_apart-place-requires-clause-lists : goal.first_apart-place-requires-clause-lists
first_apart-place-requires-clause-lists t c =
    let s = c.args.store.now in
    let v = c.args.values.now in
    let h = c.requires.held in
    let p = c.args.left.now in
    let q = c.args.right.now in
    let xs = c.as_slice-parts.result.now in
    let ys = c.parts_of-others.result.now in
    lists_apart s.signature s.nodes v h.store h.patterns h.values (name_of p) (name_of q) xs ys
    (parted_as s.signature s.nodes v h.store h.patterns h.values p q c.in-Fields.name c.in-Fields.fields xs ys c.requires.apart c.in-Fields.is c.as_slice-parts.ensures c.parts_of-others.ensures)

pub state_field-requires-clause-fields : goal.state_field-requires-clause-fields
state_field-requires-clause-fields t c =
    let s = c.args.store.now in
    let v = c.args.values.now in
    let h = c.requires.held in
    let p = c.args.left.now in
    let q = c.args.right.now in
    let xs = c.as_slice-parts.result.now in
    let ys = c.parts_of-others.result.now in
    let r = parted_as s.signature s.nodes v h.store h.patterns h.values p q c.in-Fields.name c.in-Fields.fields xs ys c.requires.apart c.in-Fields.is c.as_slice-parts.ensures c.parts_of-others.ensures in
    let place = c.first_apart-place.result in
    let a = c.index-parts-place.result in
    let b = c.index-others-place.result in
    let at = item_at xs place a c.first_apart-place.ensures.left_within c.index-parts-place.is in
    let there = item_at ys place b c.first_apart-place.ensures.right_within c.index-others-place.is in
    subst (λ (z : ℕ × ℕ). AreFieldsOf s.signature (terms (shapes s.nodes)) c.args.justs.now z.0 z.1 c.args.step) (λ i. (sym c.name_of.ensures i, sym c.name_of-in-Fields.ensures i))
    (fields_of s.signature s.nodes v h.store h.patterns h.values (name_of p) (name_of q) xs ys r c.args.justs.now c.args.step place a b c.requires.states at there)

pub parted-requires : goal.parted-requires
parted-requires t c =
    let s = c.args.store.now in
    let v = c.args.values.now in
    let h = c.requires.held in
    let p = c.args.left.now in
    let q = c.args.right.now in
    let xs = c.as_slice-parts.result.now in
    let ys = c.parts_of-others.result.now in
    let r = parted_as s.signature s.nodes v h.store h.patterns h.values p q c.in-Fields.name c.in-Fields.fields xs ys c.requires.apart c.in-Fields.is c.as_slice-parts.ensures c.parts_of-others.ensures in
    let place = c.first_apart-place.result in
    let a = c.index-parts-place.result in
    let b = c.index-others-place.result in
    let l = c.first_apart-place.ensures.left_within in
    let at = item_at xs place a l c.index-parts-place.is in
    let there = item_at ys place b c.first_apart-place.ensures.right_within c.index-others-place.is in
    let smaller : size-Pattern a < size-Pattern p =
    omega (arith, fields_fall p c.in-Fields.name c.in-Fields.fields xs c.in-Fields.is c.as_slice-parts.ensures, part_falls xs place a l c.index-parts-place.is) in (
      subst (λ k. size-Pattern a < k) c.decreases smaller,
      (
        held_kept s c.args.justs.now c.state_field.new.justs v c.state_field.ensures.front c.state_field.ensures.fits h,
        (
          places_apart s.signature s.nodes v h.store h.patterns h.values (name_of p) (name_of q) xs ys r place a b at there c.first_apart-place.ensures.apart,
          subst (λ (z : ℕ × ℕ). StatesEqual c.state_field.new.justs c.in_ok-field-in-Fields.field z.0 z.1) (λ i. (c.name_of.ensures i, c.name_of-in-Fields.ensures i)) c.in_ok-field-in-Fields.ensures.states,
        ),
      ),
    )
