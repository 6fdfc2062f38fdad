use Rattle.std.specs.Prelude.{ℕ, List, [], ◌∷◌, ◌<◌, ◌≡◌, ◌++◌, ◌+◌, ◌*◌, take, length, get_or}
use Rattle.std.proofs.Common.{sym, ap, ◌∙◌, subst, arith}
use Rattle.std.proofs.lemmas.List.{take_more, take_all}
use denote.Param.Weighed.{most}
use Rattle.ae_store.specs.Shapes.{shapes}
use Rattle.ae_store.specs.Terms.{terms}
use Rattle.ae_store.proofs.EnterLaws.{front_then, front_same}
use Rattle.ae_just.specs.Steps.{IsAllowedStep}
use Rattle.ae_just.specs.declared.steps.Rule.TheVariants as rule
use Rattle.ae_just.specs.declared.steps.Side.TheVariants as side
use Rattle.ae_value_table.specs.declared.patterns.Pattern.{Pattern, size-Pattern}
use Rattle.ae_equal_steps.specs.Inner.Parts.{name_of, parts_of}
use Rattle.ae_equal_steps.specs.Inner.Pairs.{AreSameNumbers, AreSameLeaves, IsPair, ArePairs, IsEqualBy, AreEqualBy}
use Rattle.ae_equal_steps.proofs.Adding.{equal_added, rests_on, rests_sooner, held_kept, states_for}
use Rattle.ae_equal_steps.proofs.FieldSteps.{pairs_length, pair_at, equal_push, equal_longer, equal_rests, fields_step}
use Rattle.ae_equal_steps.proofs.PairLaws.{numbers_pair, leaves_pair, records_pair}
use Rattle.ae_equal_steps.proofs.PatternLaws.{name-Number, name-Leaf, name-Fields, fields_fall, part_falls}
use Rattle.ae_equal_steps.proofs.equal.+equal_patterns.Goals as goal

-- ---- numbers and leaves
pub equal_patterns-equal_numbers-requires-clause-same : goal.equal_patterns-equal_numbers-requires-clause-same
equal_patterns-equal_numbers-requires-clause-same t c =
    let s = c.args.store.now in
    let v = c.args.values.now in
    let h = c.requires.held in
    let k = c.in-Number.name in
    subst (AreSameNumbers s.signature (terms (shapes s.nodes)) v k) (sym c.name_of-other.ensures) (numbers_pair s.signature s.nodes v h.store h.patterns h.values c.args.left.now c.args.right.now k c.requires.pair c.in-Number.is)

pub equal_patterns-returns-in-Number-clause-states : goal.equal_patterns-returns-in-Number-clause-states
equal_patterns-returns-in-Number-clause-states t c =
    let k = c.in-Number.name in
    states_for c.equal_numbers.new.justs c.equal_numbers.result k c.name_of-other.result c.args.left.now c.args.right.now (ap name_of c.in-Number.is ∙ name-Number k) c.name_of-other.ensures c.equal_numbers.ensures.states

pub equal_patterns-equal_leaves-requires-clause-same : goal.equal_patterns-equal_leaves-requires-clause-same
equal_patterns-equal_leaves-requires-clause-same t c =
    let s = c.args.store.now in
    let v = c.args.values.now in
    let h = c.requires.held in
    let k = c.in-Leaf.name in
    subst (AreSameLeaves s.signature (terms (shapes s.nodes)) v k) (sym c.name_of-other.ensures) (leaves_pair s.signature s.nodes v h.store h.patterns h.values c.args.left.now c.args.right.now k c.requires.pair c.in-Leaf.is)

pub equal_patterns-returns-in-Leaf-clause-states : goal.equal_patterns-returns-in-Leaf-clause-states
equal_patterns-returns-in-Leaf-clause-states t c =
    let k = c.in-Leaf.name in
    states_for c.equal_leaves.new.justs c.equal_leaves.result k c.name_of-other.result c.args.left.now c.args.right.now (ap name_of c.in-Leaf.is ∙ name-Leaf k) c.name_of-other.ensures c.equal_leaves.ensures.states

-- ---- records
pub equal_patterns-equal_fields-requires : goal.equal_patterns-equal_fields-requires
equal_patterns-equal_fields-requires t c =
    let s = c.args.store.now in
    let v = c.args.values.now in
    let h = c.requires.held in
    let qs = c.as_slice.result.now in
    let r = records_pair s.signature s.nodes v h.store h.patterns h.values c.args.left.now c.args.right.now c.in-Fields.name c.in-Fields.fields c.requires.pair c.in-Fields.is in
    let pairs = subst (λ (ps : List Pattern). ArePairs s.signature (terms (shapes s.nodes)) v ps c.parts_of-others.result.now) (sym c.as_slice.ensures)
    (subst (ArePairs s.signature (terms (shapes s.nodes)) v c.in-Fields.fields) (sym c.parts_of-others.ensures) r.pairs) in
    (subst (λ k. 2 * most size-Pattern qs + 1 < k) c.decreases (fields_fall c.args.left.now c.in-Fields.name c.in-Fields.fields qs c.in-Fields.is c.as_slice.ensures), (h, pairs))

pub equal_patterns-state_fields-requires-clause-allowed : goal.equal_patterns-state_fields-requires-clause-allowed
equal_patterns-state_fields-requires-clause-allowed t c =
    let s = c.args.store.now in
    let v = c.args.values.now in
    let h = c.requires.held in
    let j0 = c.args.justs.now in
    let j1 = c.equal_fields.new.justs in
    let k = c.in-Fields.name in
    let ps = c.in-Fields.fields in
    let ids = c.in_ok-steps-in-Fields.steps in
    let r = records_pair s.signature s.nodes v h.store h.patterns h.values c.args.left.now c.args.right.now k ps c.requires.pair c.in-Fields.is in
    let e : AreEqualBy j0 j1 v ps (parts_of c.args.right.now) ids = subst (λ (xs : List Pattern). AreEqualBy j0 j1 v xs (parts_of c.args.right.now) ids) c.as_slice.ensures
    (subst (λ (ys : List Pattern). AreEqualBy j0 j1 v c.as_slice.result.now ys ids) c.parts_of-others.ensures c.in_ok-steps-in-Fields.ensures.equal) in
    subst (λ (n : ℕ). IsAllowedStep s.signature (terms (shapes s.nodes)) j1 (record { left = side.Name k; right = side.Name n; rule = rule.Fields ids })) (sym c.name_of-other.ensures)
    (fields_step s.signature s.nodes v h.store h.patterns h.values j0 j1 k (name_of c.args.right.now) ps (parts_of c.args.right.now) ids r e)

pub equal_patterns-returns-in_ok-steps-in-Fields-clause-states : goal.equal_patterns-returns-in_ok-steps-in-Fields-clause-states
equal_patterns-returns-in_ok-steps-in-Fields-clause-states t c =
    let k = c.in-Fields.name in
    states_for c.state_fields.new.justs c.state_fields.result k c.name_of-other.result c.args.left.now c.args.right.now (ap name_of c.in-Fields.is ∙ name-Fields k c.in-Fields.fields) c.name_of-other.ensures
    (equal_added c.equal_fields.new.justs c.state_fields.new.justs k c.name_of-other.result c.in_ok-steps-in-Fields.steps c.state_fields.result c.state_fields.ensures.added)

pub equal_patterns-returns-in_ok-steps-in-Fields-clause-rests : goal.equal_patterns-returns-in_ok-steps-in-Fields-clause-rests
equal_patterns-returns-in_ok-steps-in-Fields-clause-rests t c =
    let s = c.args.store.now in
    let v = c.args.values.now in
    let j0 = c.args.justs.now in
    let j1 = c.equal_fields.new.justs in
    let ids = c.in_ok-steps-in-Fields.steps in
    rests_on j1 c.state_fields.new.justs (side.Name c.in-Fields.name) (side.Name c.name_of-other.result) ids s.signature (terms (shapes s.nodes)) j0 v c.state_fields.result c.state_fields.ensures.added c.state_fields.ensures.fits
    (equal_rests j0 j1 v c.as_slice.result.now c.parts_of-others.result.now ids c.in_ok-steps-in-Fields.ensures.equal)

-- ---- fields
pub equal_fields-loop-i-init : goal.equal_fields-loop-i-init
equal_fields-loop-i-init t c =
    let s = c.args.store.now in
    record {
      fits = c.requires.held.fits;
      front = front_same c.args.justs.now;
      many = pairs_length s.signature (terms (shapes s.nodes)) c.args.values.now c.args.left.now c.args.right.now c.requires.pairs;
      equal = subst (AreEqualBy c.args.justs.now c.args.justs.now c.args.values.now [] []) (sym c.new-steps.ensures) tt;
    }

pub equal_fields-equal_patterns-requires : goal.equal_fields-equal_patterns-requires
equal_fields-equal_patterns-requires t c =
    let s = c.args.store.now in
    let v = c.args.values.now in
    let ps = c.args.left.now in
    let a = c.index-left-i.result in
    let b = c.index-right-i.result in
    let i = c.loop-i.i in
    let l : i < length ps = c.loop-i-test.true in
    let held = held_kept s c.args.justs.now c.loop-i.justs v c.loop-i.invariant.front c.loop-i.invariant.fits c.requires.held in
    let pair = subst (λ (p : Pattern). IsPair s.signature (terms (shapes s.nodes)) v p b) (sym c.index-left-i.is)
    (subst (IsPair s.signature (terms (shapes s.nodes)) v (get_or ps i a)) (sym c.index-right-i.is) (pair_at s.signature (terms (shapes s.nodes)) v ps c.args.right.now i a b l c.requires.pairs)) in
    (subst (λ k. 2 * size-Pattern a + 0 < k) c.decreases (part_falls ps i a l c.index-left-i.is), (held, pair))

pub equal_fields-returns-in_err-step-clause-front : goal.equal_fields-returns-in_err-step-clause-front
equal_fields-returns-in_err-step-clause-front t c = front_then c.args.justs.now c.loop-i.justs c.equal_patterns.new.justs c.loop-i.invariant.front c.equal_patterns.ensures.front

pub equal_fields-returns-in_err-push-clause-front : goal.equal_fields-returns-in_err-push-clause-front
equal_fields-returns-in_err-push-clause-front t c = front_then c.args.justs.now c.loop-i.justs c.equal_patterns.new.justs c.loop-i.invariant.front c.equal_patterns.ensures.front

pub equal_fields-loop-i-preserved : goal.equal_fields-loop-i-preserved
equal_fields-loop-i-preserved t c =
    let s = c.args.store.now in
    let v = c.args.values.now in
    let o = c.loop-i.invariant in
    let j0 = c.args.justs.now in
    let j1 = c.loop-i.justs in
    let j2 = c.equal_patterns.new.justs in
    let ps = c.args.left.now in
    let qs = c.args.right.now in
    let i = c.loop-i.i in
    let a = c.index-left-i.result in
    let b = c.index-right-i.result in
    let ids = c.loop-i.steps in
    let id = c.in_ok-step.step in
    let l : i < length ps = c.loop-i-test.true in
    let m : i < length qs = omega (arith, l, o.many) in
    let left : take (i + 1) ps ≡ take i ps ++ a ∷ [] = take_more ps i a l ∙ ap (λ (p : Pattern). take i ps ++ p ∷ []) (sym c.index-left-i.is) in
    let right : take (i + 1) qs ≡ take i qs ++ b ∷ [] = take_more qs i b m ∙ ap (λ (q : Pattern). take i qs ++ q ∷ []) (sym c.index-right-i.is) in
    let before = equal_longer s.signature (terms (shapes s.nodes)) j0 j1 j2 c.equal_patterns.ensures.front c.equal_patterns.ensures.fits v (take i ps) (take i qs) ids o.equal in
    let one : IsEqualBy j0 j2 v a b id = record {
      states = c.in_ok-step.ensures.states;
      rests = rests_sooner s.signature (terms (shapes s.nodes)) j0 j1 j2 o.front o.fits v c.requires.held.said id c.in_ok-step.ensures.rests;
    } in
    record {
      fits = c.equal_patterns.ensures.fits;
      front = front_then j0 j1 j2 o.front c.equal_patterns.ensures.front;
      many = o.many;
      equal = subst (λ (xs : List Pattern). AreEqualBy j0 j2 v xs (take (i + 1) qs) c.push.new.self) (sym left)
          (subst (λ (ys : List Pattern). AreEqualBy j0 j2 v (take i ps ++ a ∷ []) ys c.push.new.self) (sym right)
          (subst (AreEqualBy j0 j2 v (take i ps ++ a ∷ []) (take i qs ++ b ∷ [])) (sym c.in_ok-push.ensures.ok) (equal_push j0 j2 v (take i ps) (take i qs) ids a b id before one)));
    }

pub equal_fields-returns-clause-equal : goal.equal_fields-returns-clause-equal
equal_fields-returns-clause-equal t c =
    let v = c.args.values.now in
    let o = c.loop-i.invariant in
    let ps = c.args.left.now in
    let qs = c.args.right.now in
    let i = c.loop-i.i in
    let j0 = c.args.justs.now in
    let j1 = c.loop-i.justs in
    let ids = c.loop-i.steps in
    subst (λ (xs : List Pattern). AreEqualBy j0 j1 v xs qs ids) (take_all i ps c.loop-i-test.false)
    (subst (λ (ys : List Pattern). AreEqualBy j0 j1 v (take i ps) ys ids) (take_all i qs (let l = c.loop-i-test.false in omega (arith, l, o.many))) o.equal)
