use Rattle.std.specs.Prelude.{ℕ, List}
use Rattle.std.specs.List.Sorted.{IsNonDecreasing}
use Rattle.std.proofs.Common.{sym, ◌∙◌, subst}
use Rattle.std.proofs.lemmas.Option.{none-some}
use Rattle.ae_multiset.specs.Multisets.{IsPart}
use Rattle.ae_multiset.specs.Rewriting.{IsReduced}
use Rattle.ae_store.specs.Shapes.{shapes}
use Rattle.ae_store.specs.Terms.{terms}
use Rattle.ae_state_steps.specs.ManySteps.{StatesMany}
use Rattle.ae_monoid.specs.Rules.{rule_at, IsRuleOf}
use Rattle.ae_rule_steps.proofs.Turns.{fit_rule}
use Rattle.ae_rule_steps.proofs.Reaching.{reaching_none, reaching_more, said_kept, same_spelled, names_spelled, names_twice}
use Rattle.ae_rule_steps.proofs.reducing.reduced.Goals as goal

pub reordered-requires-clause-names : goal.reordered-requires-clause-names
reordered-requires-clause-names c =
    names_twice c.args.store.now.signature (terms (shapes c.args.store.now.nodes)) c.args.symbol.now c.args.names.now c.as_slice.result.now (c.as_slice.ensures ∙ c.from_vec-first.ensures ∙ c.in_ok-order.ensures.spelling) c.requires.names

pub reordered-requires-clause-same : goal.reordered-requires-clause-same
reordered-requires-clause-same c = same_spelled c.args.names.now c.as_slice.result.now (c.as_slice.ensures ∙ c.from_vec-first.ensures ∙ c.in_ok-order.ensures.spelling)

pub turns-init : goal.turns-init
turns-init c =
    let sig = c.args.store.now.signature in
    let ts = terms (shapes c.args.store.now.nodes) in
    let u = c.args.symbol.now in
    let names = c.args.names.now in
    let first = c.from_vec-first.result in
    let j1 = c.reordered.new.justs in
    let e = c.from_vec-first.ensures ∙ c.in_ok-order.ensures.spelling in
    reaching_none sig ts (λ n. rule_at c.args.rules.now n) u names c.args.justs.now j1 first c.in_ok-step.step (names_spelled sig ts u names first e c.requires.names) (same_spelled names first e)
    (subst (λ (zs : List ℕ). IsNonDecreasing zs) (sym c.from_vec-first.ensures) c.in_ok-order.ensures.rises) (subst (λ (zs : List ℕ). StatesMany j1 c.in_ok-step.step u names zs) c.as_slice.ensures c.in_ok-step.ensures.states)
    c.in_ok-step.ensures.rests c.reordered.ensures.kept c.reordered.ensures.fits

pub fitting-requires : goal.fitting-requires
fitting-requires c = record { names = subst (λ (zs : List ℕ). IsNonDecreasing zs) (sym c.as_slice-in-turns.ensures) c.turns.invariant.rises }

pub returns-in_default-clause-reduced : goal.returns-in_default-clause-reduced
returns-in_default-clause-reduced c =
    subst (λ (zs : List ℕ). IsReduced (IsRuleOf (λ n. rule_at c.args.rules.now n) c.args.symbol.now) zs) c.as_slice-in-turns.ensures c.in_default.ensures.none

pub returns-in_default-rule-clause-reduced : goal.returns-in_default-rule-clause-reduced
returns-in_default-rule-clause-reduced c =
    let fit = c.in-Some.ensures.some in
    absurd (none-some fit.rule (c.in_default-rule.ensures.rule ∙ fit.there))

pub advanced-requires-clause-rule : goal.advanced-requires-clause-rule
advanced-requires-clause-rule c = c.in-Some-rule.ensures.rules.well c.in-Some.number c.in-Some-rule.rule.now (sym c.in-Some-rule.ensures.rule)

pub advanced-requires-clause-of : goal.advanced-requires-clause-of
advanced-requires-clause-of c =
    let names = c.as_slice-in-turns.result.now in
    (fit_rule (rule_at c.args.rules.now c.in-Some.number) c.args.symbol.now names c.in-Some-rule.rule.now c.in-Some.ensures.some (sym c.in-Some-rule.ensures.rule)).0

pub advanced-requires-clause-said : goal.advanced-requires-clause-said
advanced-requires-clause-said c =
    let rule = c.in-Some-rule.rule.now in
    said_kept c.args.store.now.signature (terms (shapes c.args.store.now.nodes)) c.args.justs.now c.turns.justs c.turns.invariant.stays rule
    (c.requires.said.each c.in-Some.number rule (sym c.in-Some-rule.ensures.rule))

pub advanced-requires-clause-part : goal.advanced-requires-clause-part
advanced-requires-clause-part c =
    let names = c.as_slice-in-turns.result.now in
    let rule = c.in-Some-rule.rule.now in
    subst (λ (zs : List ℕ). IsPart rule.entry.left zs) c.as_slice-in-turns.ensures
    (fit_rule (rule_at c.args.rules.now c.in-Some.number) c.args.symbol.now names rule c.in-Some.ensures.some (sym c.in-Some-rule.ensures.rule)).1

pub turns-preserved : goal.turns-preserved
turns-preserved c =
    let sig = c.args.store.now.signature in
    let ts = terms (shapes c.args.store.now.nodes) in
    let names = c.as_slice-in-turns.result.now in
    let rule = c.in-Some-rule.rule.now in
    let number = c.in-Some.number in
    let there = sym c.in-Some-rule.ensures.rule in
    let next = c.in_ok-now.now in
    let ok = c.in_ok-now.ensures in
    reaching_more sig ts (λ n. rule_at c.args.rules.now n) c.args.symbol.now c.args.names.now c.args.justs.now c.turns.justs c.advanced.new.justs c.turns.now.names next.names c.turns.now.step next.step number rule
    c.turns.invariant there (fit_rule (rule_at c.args.rules.now number) c.args.symbol.now names rule c.in-Some.ensures.some there).0
    (c.requires.said.each number rule there) ok.turned ok.names ok.rises ok.states ok.rests c.advanced.ensures.kept c.advanced.ensures.fits
