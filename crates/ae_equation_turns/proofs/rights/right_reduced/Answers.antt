use Rattle.std.specs.Prelude.{ℕ, List, ◌<◌, length}
use Rattle.std.proofs.Common.{refl, sym, subst}
use Rattle.std.proofs.lemmas.Option.{slice_get_within}
use Rattle.ae_multiset.specs.Rewriting.{ReducesTo}
use Rattle.ae_store.specs.Shapes.{shapes}
use Rattle.ae_store.specs.Terms.{terms}
use Rattle.ae_store.proofs.EnterLaws.{front_then}
use Rattle.ae_state_steps.specs.ManySteps.{StatesMany}
use Rattle.ae_multiset_steps.specs.Equating.{AreNamesOf}
use Rattle.ae_multiset_steps.proofs.Fronts.{many_kept}
use Rattle.ae_monoid.specs.Rules.{rule_at, IsRuleOf}
use Rattle.ae_equation_turns.proofs.RestLaws.{ruled_two}
use Rattle.ae_equation_turns.proofs.SideLaws.{names_back}
use Rattle.ae_equation_turns.proofs.rights.right_reduced.Goals as goal

pub reduced-requires-clause-names : goal.reduced-requires-clause-names
reduced-requires-clause-names c =
    let sig = c.args.store.now.signature in
    let ts = terms (shapes c.args.store.now.nodes) in
    let rule = c.args.rule.now in
    let said = c.requires.said.each c.args.number rule c.requires.there in
    subst (λ (zs : List ℕ). AreNamesOf sig ts rule.entry.symbol zs) (sym c.as_slice-right.ensures) (names_back sig ts rule.entry.symbol rule.entry.left rule.entry.right said.names)

pub reduced-requires-clause-some : goal.reduced-requires-clause-some
reduced-requires-clause-some c = subst (λ (zs : List ℕ). 0 < length zs) (sym c.as_slice-right.ensures) c.requires.well.some

pub chained-requires-clause-states : goal.chained-requires-clause-states
chained-requires-clause-states c =
    let j1 = c.reduced.new.justs in
    let rule = c.args.rule.now in
    let u = rule.entry.symbol in
    let now = c.in_ok-reached.reached in
    let said = c.requires.said.each c.args.number rule c.requires.there in (
      rule.entry.right,
      subst (λ (zs : List ℕ). StatesMany j1 rule.just u zs rule.entry.right) (sym c.as_slice-left.ensures)
          (many_kept c.args.justs.now j1 c.reduced.ensures.kept rule.just u rule.entry.left rule.entry.right said.states),
      subst (λ (zs : List ℕ). StatesMany j1 now.step u zs c.as_slice-to.result.now) c.as_slice-right.ensures
          (subst (λ (zs : List ℕ). StatesMany j1 now.step u c.as_slice-right.result.now zs) (sym c.as_slice-to.ensures) c.in_ok-reached.ensures.states),
    )

pub returns-clause-follows : goal.returns-clause-follows
returns-clause-follows c =
    subst (λ (zs : List ℕ). ReducesTo (IsRuleOf (λ n. rule_at c.args.rules.now n) c.args.rule.now.entry.symbol) zs c.in_ok-reached.reached.names) c.as_slice-right.ensures c.in_ok-reached.ensures.follows

pub returns-clause-states : goal.returns-clause-states
returns-clause-states c =
    let j2 = c.chained.new.justs in
    let u = c.args.rule.now.entry.symbol in
    let id = c.in_ok-step.step in
    subst (λ (zs : List ℕ). StatesMany j2 id u zs c.in_ok-reached.reached.names) c.as_slice-left.ensures
    (subst (λ (zs : List ℕ). StatesMany j2 id u c.as_slice-left.result.now zs) c.as_slice-to.ensures c.in_ok-step.ensures.states)

pub returns-clause-rests : goal.returns-clause-rests
returns-clause-rests c =
    let j0 = c.args.justs.now in
    let rule = c.args.rule.now in
    let said = c.requires.said.each c.args.number rule c.requires.there in
    ruled_two c.args.store.now.signature (terms (shapes c.args.store.now.nodes)) (λ n. rule_at c.args.rules.now n) rule.entry.symbol c.args.number rule c.requires.there refl j0 c.reduced.new.justs c.chained.new.justs
    c.reduced.ensures.kept c.reduced.ensures.fits (slice_get_within j0 rule.just _ said.states.there) c.in_ok-step.step c.in_ok-reached.reached.step c.in_ok-reached.ensures.rests c.in_ok-step.ensures.rests

pub returns-clause-kept : goal.returns-clause-kept
returns-clause-kept c = front_then c.args.justs.now c.reduced.new.justs c.chained.new.justs c.reduced.ensures.kept c.chained.ensures.kept
