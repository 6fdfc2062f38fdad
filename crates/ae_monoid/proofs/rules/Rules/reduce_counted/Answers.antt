use Rattle.std.specs.Prelude.{◌≡◌, ℕ, List}
use Rattle.std.proofs.Common.{sym, ◌∙◌, subst}
use Rattle.ae_multiset.specs.Rewriting.{IsReduced}
use Rattle.ae_monoid.specs.Rules.{AreRules, Contents, rule_at, IsRuleOf}
use Rattle.ae_monoid.specs.Reductions.{ReducesBy, IsStepBy}
use Rattle.ae_monoid.proofs.Reductions.{only}
use Rattle.ae_monoid.proofs.Turning.{reducing_none, reducing_more, reducing_falls, some_of, none_of}
use Rattle.ae_monoid.proofs.rules.Rules.reduce_counted.Goals as goal

rules_of : (now inside : Contents) → inside ≡ now → AreRules (λ n. rule_at inside n) inside.next → AreRules (λ n. rule_at now n) now.next
rules_of now inside e r = subst (λ (c : Contents). AreRules (λ n. rule_at c n) c.next) e r

pub steps-init : goal.steps-init
steps-init g c =
    reducing_none (λ n. rule_at c.args.self.now n) c.args.self.now.next c.args.symbol.now c.args.names.now c.new-justs.result c.in_ok-now.now.items c.new-justs.ensures c.in_ok-now.ensures.spelling c.in_ok-now.ensures.rises

pub steps-smaller : goal.steps-smaller
steps-smaller g c =
    reducing_falls (λ n. rule_at c.args.self.now n) c.args.self.now.next c.args.symbol.now (rules_of c.args.self.now _ c.self.view_is c.self.invariant.are_rules) c.args.names.now c.steps.justs c.steps.now.items
    c.in-Some.turned.names.items
    c.in-Some.turned.just c.steps.invariant
    (subst (λ (ns : List ℕ). IsStepBy (λ n. rule_at c.args.self.now n) c.args.symbol.now c.in-Some.turned.just ns c.in-Some.turned.names.items) c.deref.ensures.value
    (some_of c.in_ok-turned.field-0 c.in-Some.turned _ c.in-Some.is c.in_ok-turned.ensures.step))

pub steps-preserved : goal.steps-preserved
steps-preserved g c =
    reducing_more (λ n. rule_at c.args.self.now n) c.args.self.now.next c.args.symbol.now (rules_of c.args.self.now _ c.self.view_is c.self.invariant.are_rules) c.args.names.now c.steps.justs c.steps.now.items c.in-Some.turned.names.items
    c.in-Some.turned.just c.steps.invariant
    (subst (λ (ns : List ℕ). IsStepBy (λ n. rule_at c.args.self.now n) c.args.symbol.now c.in-Some.turned.just ns c.in-Some.turned.names.items) c.deref.ensures.value
    (some_of c.in_ok-turned.field-0 c.in-Some.turned _ c.in-Some.is c.in_ok-turned.ensures.step))
    c.push.new.self c.in_ok-push-in-Some.ensures.ok (some_of c.in_ok-turned.field-0 c.in-Some.turned _ c.in-Some.is c.in_ok-turned.ensures.rises)

pub returns-in-None-clause-justs : goal.returns-in-None-clause-justs
returns-in-None-clause-justs g c = subst (λ (ns : List ℕ). ReducesBy (λ n. rule_at c.args.self.now n) c.args.symbol.now c.args.names.now c.steps.justs ns) (sym c.from_vec.ensures) c.steps.invariant.by

pub returns-in-None-clause-reduced : goal.returns-in-None-clause-reduced
returns-in-None-clause-reduced g c =
    subst (λ (ns : List ℕ). IsReduced (IsRuleOf (λ n. rule_at c.args.self.now n) c.args.symbol.now) ns) (sym c.from_vec.ensures)
    (subst (λ (ns : List ℕ). IsReduced (IsRuleOf (λ n. rule_at c.args.self.now n) c.args.symbol.now) ns) c.deref.ensures.value (none_of c.in_ok-turned.field-0 _ c.in-None.is c.in_ok-turned.ensures.none))

pub returns-in-None-clause-only : goal.returns-in-None-clause-only
returns-in-None-clause-only g c = λ join other m r l.
    only (λ n. rule_at c.args.self.now n) c.args.self.now.next c.args.symbol.now (rules_of c.args.self.now _ c.self.view_is c.self.invariant.are_rules) c.args.names.now c.steps.now.items c.steps.invariant.follows
    (subst (λ (ns : List ℕ). IsReduced (IsRuleOf (λ n. rule_at c.args.self.now n) c.args.symbol.now) ns) c.deref.ensures.value (none_of c.in_ok-turned.field-0 _ c.in-None.is c.in_ok-turned.ensures.none))
    c.steps.invariant.rises join other m r l ∙ sym c.from_vec.ensures
