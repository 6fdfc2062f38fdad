use Rattle.std.specs.Prelude.{◌≡◌, ◌+◌, slice_index_or}
use Rattle.std.proofs.Common.{subst, arith, inl, inr}
use Rattle.ae_pmap.specs.Forest.{present}
use Rattle.ae_pmap.specs.Pairs.{found}
use Rattle.ae_monoid.specs.Rules.{Contents, rule_at}
use Rattle.ae_monoid.specs.Inner.Chains.{IsOnOf}
use Rattle.ae_monoid.specs.Inner.Indexes.{hiding, AreIndexed}
use Rattle.ae_monoid.proofs.Chained.{unfit_of, tested_of}
use Rattle.ae_monoid.proofs.Hiding.{left_over}
use Rattle.ae_monoid.proofs.Seeking.{seek_none, seek_skip, seek_more, count_more, at_most, sought}
use Rattle.ae_monoid.proofs.rules.Rules.find_but.Goals.{else-i-gt0-via-then-i-gt0+else-names-i, else-i-gt0-via-else-i-gt0}
use Rattle.ae_monoid.proofs.rules.Rules.find_but.Goals as goal

abbrev Indexed : Contents → Type 0
Indexed c = AreIndexed (λ n. rule_at c n) c.next (λ n. found (present c.largest) n) (λ n. found (present c.elements) n) c.links

index_of : (now inside : Contents) → inside ≡ now → Indexed inside → Indexed now
index_of now inside e i = subst Indexed e i

pub loop-i-init : goal.loop-i-init
loop-i-init g c = seek_none (hiding (λ m. rule_at c.args.self.now m) c.args.but) (λ x n. IsOnOf c.args.self.now.largest c.args.self.now.links x n) c.args.symbol.now c.args.names.now c.args.steps.now

pub loop-i-preserved-then-names-i : goal.loop-i-preserved-then-names-i
loop-i-preserved-then-names-i g c =
    seek_skip (hiding (λ m. rule_at c.args.self.now m) c.args.but) (λ x n. IsOnOf c.args.self.now.largest c.args.self.now.links x n) c.args.symbol.now c.args.names.now c.loop-i.i c.args.steps.now c.loop-i.steps
    c.loop-i-test.true c.requires.names
    c.loop-i.invariant c.if-i-gt0.true c.if-names-i.true

pub first_on-requires-clause-rules : goal.first_on-requires-clause-rules
first_on-requires-clause-rules g c = λ n k e. (c.self.invariant.are_rules.well n k e).left_rises

pub returns-in-Some-clause-bound : goal.returns-in-Some-clause-bound
returns-in-Some-clause-bound g c =
    let now = c.args.self.now in
    let i = index_of now _ c.self.view_is c.self.invariant in
    at_most (hiding (λ m. rule_at now m) c.args.but) (λ x n. IsOnOf now.largest now.links x n) c.args.symbol.now c.args.names.now (c.loop-i.i + 1) c.args.steps.now c.first_on.new.steps (omega (arith, c.loop-i-test.true))
    (λ n x k e o. i.only_largest n x k (left_over (λ m. rule_at now m) c.args.but n k e).1 o)
    (count_more (hiding (λ m. rule_at now m) c.args.but) (λ x n. IsOnOf now.largest now.links x n) c.args.symbol.now c.args.names.now c.loop-i.i c.args.steps.now c.loop-i.steps c.loop-i-test.true c.requires.names c.loop-i.invariant
    (λ n x k e o. i.only_largest n x k (left_over (λ m. rule_at now m) c.args.but n k e).1 o)
    (elim c.else-i-gt0.branch [ else-i-gt0-via-then-i-gt0+else-names-i w ↦ inr w.if-names-i.false | else-i-gt0-via-else-i-gt0 w ↦ inl (omega (arith, w.if-i-gt0.false)) ]) c.first_on.new.steps
    (tested_of now _ c.self.view_is c.deref.result.now c.deref-in-loop-i.result.now c.deref.ensures.value c.deref-in-loop-i.ensures.value (slice_index_or c.args.names.now c.loop-i.i 0) c.head_of-head.result
    c.head_of-head.ensures.all c.head_of-head.ensures.only
    c.args.but c.args.symbol.now c.loop-i.steps c.first_on.new.steps c.first_on.ensures.tested))

pub loop-i-preserved : goal.loop-i-preserved
loop-i-preserved g c =
    let now = c.args.self.now in
    let i = index_of now _ c.self.view_is c.self.invariant in
    seek_more (hiding (λ m. rule_at now m) c.args.but) (λ x n. IsOnOf now.largest now.links x n) c.args.symbol.now c.args.names.now c.loop-i.i c.args.steps.now c.loop-i.steps c.loop-i-test.true c.requires.names c.loop-i.invariant
    (λ n x k e o. i.only_largest n x k (left_over (λ m. rule_at now m) c.args.but n k e).1 o)
    (elim c.else-i-gt0.branch [ else-i-gt0-via-then-i-gt0+else-names-i w ↦ inr w.if-names-i.false | else-i-gt0-via-else-i-gt0 w ↦ inl (omega (arith, w.if-i-gt0.false)) ]) c.first_on.new.steps
    (tested_of now _ c.self.view_is c.deref.result.now c.deref-in-loop-i.result.now c.deref.ensures.value c.deref-in-loop-i.ensures.value (slice_index_or c.args.names.now c.loop-i.i 0) c.head_of-head.result
    c.head_of-head.ensures.all c.head_of-head.ensures.only
    c.args.but c.args.symbol.now c.loop-i.steps c.first_on.new.steps c.first_on.ensures.tested)
    (unfit_of now _ c.self.view_is c.deref.result.now c.deref-in-loop-i.result.now c.deref.ensures.value c.deref-in-loop-i.ensures.value (slice_index_or c.args.names.now c.loop-i.i 0) c.head_of-head.result
    c.head_of-head.ensures.all c.head_of-head.ensures.only
    c.args.but c.args.symbol.now c.args.names.now c.in_default.ensures.none)

pub returns-clause-none : goal.returns-clause-none
returns-clause-none g c =
    let now = c.args.self.now in
    let i = index_of now _ c.self.view_is c.self.invariant in
    sought (hiding (λ m. rule_at now m) c.args.but) (λ x n. IsOnOf now.largest now.links x n) c.args.symbol.now c.args.names.now c.loop-i.i c.args.steps.now c.loop-i.steps (omega (arith, c.loop-i-test.false))
    (λ n x k e o. i.by_largest n x k (left_over (λ m. rule_at now m) c.args.but n k e).1 o)
    (λ n k e. let w = i.are_rules.well n k (left_over (λ m. rule_at now m) c.args.but n k e).1 in (w.left_rises, omega (arith, w.two))) c.loop-i.invariant

pub returns-clause-bound : goal.returns-clause-bound
returns-clause-bound g c =
    let now = c.args.self.now in
    let i = index_of now _ c.self.view_is c.self.invariant in
    at_most (hiding (λ m. rule_at now m) c.args.but) (λ x n. IsOnOf now.largest now.links x n) c.args.symbol.now c.args.names.now c.loop-i.i c.args.steps.now c.loop-i.steps (omega (arith, c.loop-i.auto.i-end))
    (λ n x k e o. i.only_largest n x k (left_over (λ m. rule_at now m) c.args.but n k e).1 o) c.loop-i.invariant.counting
