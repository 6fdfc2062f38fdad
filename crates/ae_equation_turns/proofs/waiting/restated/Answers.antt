use Rattle.std.specs.Prelude.{ℕ, List}
use Rattle.std.proofs.Common.{sym, subst}
use Rattle.std.proofs.lemmas.Option.{slice_get_within}
use Rattle.ae_store.specs.Shapes.{shapes}
use Rattle.ae_store.specs.Terms.{terms}
use Rattle.ae_store.proofs.EnterLaws.{front_then}
use Rattle.ae_state_steps.specs.ManySteps.{StatesMany}
use Rattle.ae_multiset_steps.proofs.Fronts.{many_kept}
use Rattle.ae_equation_turns.proofs.RestLaws.{rests_across, states_as}
use Rattle.ae_equation_turns.proofs.waiting.restated.Goals as goal

pub turned-requires-clause-states : goal.turned-requires-clause-states
turned-requires-clause-states c =
    let u = c.args.waiting.now.symbol in
    let left = c.args.left.now in
    subst (λ (zs : List ℕ). StatesMany c.args.justs.now left.step u zs c.as_slice-from.result.now) (sym c.as_slice-before.ensures)
    (subst (λ (zs : List ℕ). StatesMany c.args.justs.now left.step u c.args.waiting.now.left zs) (sym c.as_slice-from.ensures) c.requires.left)

pub chained-requires-clause-states : goal.chained-requires-clause-states
chained-requires-clause-states c =
    let j1 = c.turned.new.justs in
    let w = c.args.waiting.now in (
      c.as_slice-before.result.now,
      c.in_ok-back.ensures.states,
      subst (λ (zs : List ℕ). StatesMany j1 w.step w.symbol zs c.as_slice-after.result.now) (sym c.as_slice-before.ensures)
          (subst (λ (zs : List ℕ). StatesMany j1 w.step w.symbol w.left zs) (sym c.as_slice-after.ensures) (many_kept c.args.justs.now j1 c.turned.ensures.kept w.step w.symbol w.left w.right c.requires.states)),
    )

pub chained-requires-2-clause-states : goal.chained-requires-2-clause-states
chained-requires-2-clause-states c =
    let j0 = c.args.justs.now in
    let j2 = c.chained.new.justs in
    let w = c.args.waiting.now in
    let right = c.args.right.now in (
      c.as_slice-after.result.now,
      c.in_ok-across.ensures.states,
      subst (λ (zs : List ℕ). StatesMany j2 right.step w.symbol zs c.as_slice-to.result.now) (sym c.as_slice-after.ensures)
          (subst (λ (zs : List ℕ). StatesMany j2 right.step w.symbol w.right zs) (sym c.as_slice-to.ensures)
          (many_kept j0 j2 (front_then j0 c.turned.new.justs j2 c.turned.ensures.kept c.chained.ensures.kept) right.step w.symbol w.right right.names c.requires.right)),
    )

pub returns-clause-states : goal.returns-clause-states
returns-clause-states c =
    let new = c.chained-2.new.justs in
    let u = c.args.waiting.now.symbol in
    states_as new u c.as_slice-from.result.now c.as_slice-to.result.now c.args.left.now.names c.args.right.now.names c.as_slice-from.ensures c.as_slice-to.ensures c.chained-2.result c.chained-2.ensures.states

pub returns-clause-rests : goal.returns-clause-rests
returns-clause-rests c =
    let j0 = c.args.justs.now in
    rests_across c.args.store.now.signature (terms (shapes c.args.store.now.nodes)) j0 c.turned.new.justs c.chained.new.justs c.chained-2.new.justs c.turned.ensures.kept c.chained.ensures.kept c.turned.ensures.fits c.chained.ensures.fits
    c.args.left.now.step c.args.waiting.now.step c.args.right.now.step c.in_ok-back.back c.in_ok-across.across
    (slice_get_within j0 c.args.waiting.now.step _ c.requires.states.there) (slice_get_within j0 c.args.right.now.step _ c.requires.right.there)
    (slice_get_within c.turned.new.justs c.in_ok-back.back _ c.in_ok-back.ensures.states.there) (slice_get_within c.chained.new.justs c.in_ok-across.across _ c.in_ok-across.ensures.states.there)
    c.in_ok-back.ensures.rests c.in_ok-across.ensures.rests c.chained-2.result c.chained-2.ensures.rests

pub returns-clause-kept : goal.returns-clause-kept
returns-clause-kept c =
    let j0 = c.args.justs.now in
    front_then j0 c.chained.new.justs c.chained-2.new.justs (front_then j0 c.turned.new.justs c.chained.new.justs c.turned.ensures.kept c.chained.ensures.kept) c.chained-2.ensures.kept
