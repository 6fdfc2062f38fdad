use Rattle.std.specs.Prelude.{ℕ, List, ◌++◌}
use Rattle.std.specs.List.Sorted.{IsNonDecreasing}
use Rattle.std.proofs.Common.{sym, ◌∙◌, subst}
use Rattle.ae_multiset.specs.Multisets.{IsSame, minus}
use Rattle.ae_store.specs.Shapes.{shapes}
use Rattle.ae_store.specs.Terms.{terms}
use Rattle.ae_store.proofs.EnterLaws.{front_same}
use Rattle.ae_rule_steps.proofs.Turns.{rewrites_at, parted_at, turn_of, names_of_result}
use Rattle.ae_rule_steps.proofs.turning.turned.Goals as goal

pub minus-requires-clause-right : goal.minus-requires-clause-right
minus-requires-clause-right c = subst (λ (zs : List ℕ). IsNonDecreasing zs) (sym c.as_slice-left.ensures) c.requires.rule.left_rises

pub sum-requires-clause-left : goal.sum-requires-clause-left
sum-requires-clause-left c = subst (λ (zs : List ℕ). IsNonDecreasing zs) (sym c.as_slice-right.ensures) c.requires.rule.right_rises

pub sum-requires-clause-right : goal.sum-requires-clause-right
sum-requires-clause-right c = subst (λ (zs : List ℕ). IsNonDecreasing zs) (sym c.as_slice-beside.ensures.value) c.in_ok-rest.ensures.rises

pub returns-in_err-rest-clause-kept : goal.returns-in_err-rest-clause-kept
returns-in_err-rest-clause-kept c = front_same c.args.justs.now

pub returns-in_err-put-clause-kept : goal.returns-in_err-put-clause-kept
returns-in_err-put-clause-kept c = front_same c.args.justs.now

pub rewritten-requires-clause-by : goal.rewritten-requires-clause-by
rewritten-requires-clause-by c =
    let names = c.args.names.now in
    let left = c.as_slice-left.result.now in
    let right = c.as_slice-right.result.now in
    let beside = c.as_slice-beside.result.now in
    rewrites_at c.args.store.now.signature (terms (shapes c.args.store.now.nodes)) c.args.justs.now c.args.rule.now c.args.symbol.now names left right beside c.as_slice.result.now c.as_slice-left.ensures c.as_slice-right.ensures
    c.requires.rule c.requires.of c.requires.said c.requires.names c.requires.part (subst (λ (zs : List ℕ). IsSame zs (minus names left)) (sym c.as_slice-beside.ensures.value) c.in_ok-rest.ensures.names)
    (subst (λ (zs : List ℕ). IsSame zs (right ++ beside)) (sym (c.as_slice.ensures ∙ c.from_vec-result.ensures)) c.in_ok-put.ensures.names)

pub rewritten-requires-clause-before : goal.rewritten-requires-clause-before
rewritten-requires-clause-before c =
    let names = c.args.names.now in
    let left = c.as_slice-left.result.now in
    let beside = c.as_slice-beside.result.now in
    parted_at c.args.rule.now names left beside c.as_slice-left.ensures c.requires.part (subst (λ (zs : List ℕ). IsSame zs (minus names left)) (sym c.as_slice-beside.ensures.value) c.in_ok-rest.ensures.names)

pub returns-clause-turned : goal.returns-clause-turned
returns-clause-turned c =
    let names = c.args.names.now in
    let left = c.as_slice-left.result.now in
    let right = c.as_slice-right.result.now in
    let beside = c.as_slice-beside.result.now in
    turn_of c.args.rule.now names left right beside c.from_vec-result.result c.as_slice-left.ensures c.as_slice-right.ensures c.requires.part
    (subst (λ (zs : List ℕ). IsSame zs (minus names left)) (sym c.as_slice-beside.ensures.value) c.in_ok-rest.ensures.names) (subst (λ (zs : List ℕ). IsSame zs (right ++ beside)) (sym c.from_vec-result.ensures) c.in_ok-put.ensures.names)

pub returns-clause-names : goal.returns-clause-names
returns-clause-names c =
    let sig = c.args.store.now.signature in
    let ts = terms (shapes c.args.store.now.nodes) in
    let names = c.args.names.now in
    let left = c.as_slice-left.result.now in
    let right = c.as_slice-right.result.now in
    let beside = c.as_slice-beside.result.now in
    names_of_result sig ts c.args.justs.now c.args.symbol.now left right c.args.rule.now.just beside c.from_vec-result.result
    (rewrites_at sig ts c.args.justs.now c.args.rule.now c.args.symbol.now names left right beside c.from_vec-result.result c.as_slice-left.ensures c.as_slice-right.ensures c.requires.rule c.requires.of c.requires.said c.requires.names
    c.requires.part (subst (λ (zs : List ℕ). IsSame zs (minus names left)) (sym c.as_slice-beside.ensures.value) c.in_ok-rest.ensures.names)
    (subst (λ (zs : List ℕ). IsSame zs (right ++ beside)) (sym c.from_vec-result.ensures) c.in_ok-put.ensures.names))

pub returns-clause-rises : goal.returns-clause-rises
returns-clause-rises c = subst (λ (zs : List ℕ). IsNonDecreasing zs) (sym c.from_vec-result.ensures) c.in_ok-put.ensures.rises
