use Rattle.std.specs.Prelude.{ℕ, List, IfOk}
use Rattle.std.specs.List.Sorted.{IsNonDecreasing}
use Rattle.std.proofs.Common.{sym, subst}
use Rattle.ae_multiset.specs.Multisets.{IsSame, common, minus}
use Rattle.ae_store.specs.Shapes.{shapes}
use Rattle.ae_store.specs.Terms.{terms}
use Rattle.ae_state_steps.specs.ManySteps.{StatesMany}
use Rattle.ae_multiset_steps.specs.Equating.{RestsOnThese}
use Rattle.ae_rule_steps.proofs.Overlaps.{overlapping_rules, overlapping_at, first_rewriting, second_rewriting, one_whole}
use Rattle.ae_rule_steps.proofs.overlapping.overlap_stated.Goals as goal

pub common-requires-clause-left : goal.common-requires-clause-left
common-requires-clause-left c = subst (λ (zs : List ℕ). IsNonDecreasing zs) (sym c.as_slice-left.ensures) c.requires.first_well.left_rises

pub common-requires-clause-right : goal.common-requires-clause-right
common-requires-clause-right c = subst (λ (zs : List ℕ). IsNonDecreasing zs) (sym c.as_slice-other.ensures) c.requires.second_well.left_rises

pub minus-requires-clause-left : goal.minus-requires-clause-left
minus-requires-clause-left c = subst (λ (zs : List ℕ). IsNonDecreasing zs) (sym c.as_slice-other.ensures) c.requires.second_well.left_rises

pub minus-requires-clause-right : goal.minus-requires-clause-right
minus-requires-clause-right c = subst (λ (zs : List ℕ). IsNonDecreasing zs) (sym c.as_slice-shared.ensures.value) c.in_ok-both.ensures.rises

pub minus-requires-2-clause-left : goal.minus-requires-2-clause-left
minus-requires-2-clause-left c = subst (λ (zs : List ℕ). IsNonDecreasing zs) (sym c.as_slice-left.ensures) c.requires.first_well.left_rises

pub minus-requires-2-clause-right : goal.minus-requires-2-clause-right
minus-requires-2-clause-right c = subst (λ (zs : List ℕ). IsNonDecreasing zs) (sym c.as_slice-shared.ensures.value) c.in_ok-both.ensures.rises

pub overlapped-requires-clause-first : goal.overlapped-requires-clause-first
overlapped-requires-clause-first c =
    let sig = c.args.store.now.signature in
    let ts = terms (shapes c.args.store.now.nodes) in
    let steps = c.args.justs.now in
    let p = c.args.first.now in
    let q = c.args.second.now in
    let pair = c.args.pair.now in
    let u = pair.symbol in
    let l1 = c.as_slice-left.result.now in
    let r1 = c.as_slice-first_right.result.now in
    let l2 = c.as_slice-other.result.now in
    let r2 = c.as_slice-second_right.result.now in
    let left = c.as_slice-first_side.result.now in
    let right = c.as_slice-second_side.result.now in
    let shared = c.as_slice-shared.result.now in
    let o = overlapping_at sig ts steps u p.entry.left p.entry.right q.entry.left q.entry.right pair.left pair.right p.just q.just
    (overlapping_rules sig ts steps p q pair c.requires.first_well c.requires.second_well c.requires.first_said c.requires.second_said c.requires.same c.requires.deduced) l1 r1 l2 r2 left right c.as_slice-left.ensures
    c.as_slice-first_right.ensures c.as_slice-other.ensures c.as_slice-second_right.ensures c.as_slice-first_side.ensures c.as_slice-second_side.ensures in
    let s = subst (λ (zs : List ℕ). IsSame zs (common l1 l2)) (sym c.as_slice-shared.ensures.value) c.in_ok-both.ensures.names in
    let beside = c.as_slice-first_beside.result.now in
    let r = subst (λ (zs : List ℕ). IsSame zs (minus l2 shared)) (sym c.as_slice-first_beside.ensures.value) c.in_ok-first_rest.ensures.names in
    first_rewriting sig ts steps u l1 r1 l2 r2 left right p.just q.just o shared s beside r

pub overlapped-requires-clause-second : goal.overlapped-requires-clause-second
overlapped-requires-clause-second c =
    let sig = c.args.store.now.signature in
    let ts = terms (shapes c.args.store.now.nodes) in
    let steps = c.args.justs.now in
    let p = c.args.first.now in
    let q = c.args.second.now in
    let pair = c.args.pair.now in
    let u = pair.symbol in
    let l1 = c.as_slice-left.result.now in
    let r1 = c.as_slice-first_right.result.now in
    let l2 = c.as_slice-other.result.now in
    let r2 = c.as_slice-second_right.result.now in
    let left = c.as_slice-first_side.result.now in
    let right = c.as_slice-second_side.result.now in
    let shared = c.as_slice-shared.result.now in
    let o = overlapping_at sig ts steps u p.entry.left p.entry.right q.entry.left q.entry.right pair.left pair.right p.just q.just
    (overlapping_rules sig ts steps p q pair c.requires.first_well c.requires.second_well c.requires.first_said c.requires.second_said c.requires.same c.requires.deduced) l1 r1 l2 r2 left right c.as_slice-left.ensures
    c.as_slice-first_right.ensures c.as_slice-other.ensures c.as_slice-second_right.ensures c.as_slice-first_side.ensures c.as_slice-second_side.ensures in
    let s = subst (λ (zs : List ℕ). IsSame zs (common l1 l2)) (sym c.as_slice-shared.ensures.value) c.in_ok-both.ensures.names in
    let others = c.as_slice-second_beside.result.now in
    let w = subst (λ (zs : List ℕ). IsSame zs (minus l1 shared)) (sym c.as_slice-second_beside.ensures.value) c.in_ok-second_rest.ensures.names in
    second_rewriting sig ts steps u l1 r1 l2 r2 left right p.just q.just o shared s others w

pub overlapped-requires-clause-whole : goal.overlapped-requires-clause-whole
overlapped-requires-clause-whole c =
    let sig = c.args.store.now.signature in
    let ts = terms (shapes c.args.store.now.nodes) in
    let steps = c.args.justs.now in
    let p = c.args.first.now in
    let q = c.args.second.now in
    let pair = c.args.pair.now in
    let u = pair.symbol in
    let l1 = c.as_slice-left.result.now in
    let r1 = c.as_slice-first_right.result.now in
    let l2 = c.as_slice-other.result.now in
    let r2 = c.as_slice-second_right.result.now in
    let left = c.as_slice-first_side.result.now in
    let right = c.as_slice-second_side.result.now in
    let shared = c.as_slice-shared.result.now in
    let o = overlapping_at sig ts steps u p.entry.left p.entry.right q.entry.left q.entry.right pair.left pair.right p.just q.just
    (overlapping_rules sig ts steps p q pair c.requires.first_well c.requires.second_well c.requires.first_said c.requires.second_said c.requires.same c.requires.deduced) l1 r1 l2 r2 left right c.as_slice-left.ensures
    c.as_slice-first_right.ensures c.as_slice-other.ensures c.as_slice-second_right.ensures c.as_slice-first_side.ensures c.as_slice-second_side.ensures in
    let s = subst (λ (zs : List ℕ). IsSame zs (common l1 l2)) (sym c.as_slice-shared.ensures.value) c.in_ok-both.ensures.names in
    let beside = c.as_slice-first_beside.result.now in
    let r = subst (λ (zs : List ℕ). IsSame zs (minus l2 shared)) (sym c.as_slice-first_beside.ensures.value) c.in_ok-first_rest.ensures.names in
    let others = c.as_slice-second_beside.result.now in
    let w = subst (λ (zs : List ℕ). IsSame zs (minus l1 shared)) (sym c.as_slice-second_beside.ensures.value) c.in_ok-second_rest.ensures.names in
    one_whole sig ts steps u l1 r1 l2 r2 left right p.just q.just o shared s beside others r w

pub returns-clause-states : goal.returns-clause-states
returns-clause-states c =
    let new = c.overlapped.new.justs in
    let u = c.args.pair.now.symbol in
    subst (λ (zs : List ℕ). IfOk c.overlapped.result (λ id. StatesMany new id u c.args.pair.now.left zs)) c.as_slice-second_side.ensures
    (subst (λ (zs : List ℕ). IfOk c.overlapped.result (λ id. StatesMany new id u zs c.as_slice-second_side.result.now)) c.as_slice-first_side.ensures c.overlapped.ensures.states)

pub returns-clause-rests : goal.returns-clause-rests
returns-clause-rests c = subst (λ (js : List ℕ). IfOk c.overlapped.result (λ id. RestsOnThese c.args.justs.now c.overlapped.new.justs id js)) (sym c.requires.deduced.justs) c.overlapped.ensures.rests
