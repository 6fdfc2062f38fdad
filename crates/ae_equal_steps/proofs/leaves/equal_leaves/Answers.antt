use Rattle.std.specs.Prelude.{[], ◌∷◌}
use Rattle.std.proofs.Common.{sym, ap, ◌∙◌, subst}
use Rattle.std.proofs.lemmas.Option.{slice_get_within}
use Rattle.ae_base.specs.Options.{known}
use Rattle.ae_store.specs.Shapes.{shapes}
use Rattle.ae_store.specs.Terms.{terms}
use Rattle.ae_store.proofs.EnterLaws.{front_then}
use Rattle.ae_just.specs.declared.steps.Side.TheVariants as side
use Rattle.ae_state_steps.specs.ValueSteps.{StatesEqual}
use Rattle.ae_value_steps.proofs.Added.{equal_kept, states_equal}
use Rattle.ae_equal_steps.proofs.Adding.{said_kept, equal_added, rests_on, front_added, two_rest, turned_rests}
use Rattle.ae_equal_steps.proofs.leaves.equal_leaves.Goals as goal

pub leaf_step-requires-clause-fits : goal.leaf_step-requires-clause-fits
leaf_step-requires-clause-fits c = c.requires.held.fits

pub leaf_step-requires-clause-said : goal.leaf_step-requires-clause-said
leaf_step-requires-clause-said c = c.requires.held.said

pub leaf_step-requires-clause-sorted : goal.leaf_step-requires-clause-sorted
leaf_step-requires-clause-sorted c = ap known c.requires.same.left

pub leaf_step-requires-2-clause-said : goal.leaf_step-requires-2-clause-said
leaf_step-requires-2-clause-said c = said_kept c.args.store.now.signature (terms (shapes c.args.store.now.nodes)) c.args.justs.now c.leaf_step.new.justs c.leaf_step.ensures.front c.args.values.now c.requires.held.said

pub leaf_step-requires-2-clause-sorted : goal.leaf_step-requires-2-clause-sorted
leaf_step-requires-2-clause-sorted c = ap known c.requires.same.right

pub state_turned-requires-clause-equal : goal.state_turned-requires-clause-equal
state_turned-requires-clause-equal c = subst (StatesEqual c.leaf_step-2.new.justs c.in_ok-second.second c.args.right) (sym c.leaf-leaf.ensures) c.in_ok-second.ensures.states

pub state_chained-requires-clause-equal : goal.state_chained-requires-clause-equal
state_chained-requires-clause-equal c =
    let first = c.in_ok-first.first in
    let leaf = c.leaf-leaf.result in
    let j1 = c.leaf_step.new.justs in
    let j2 = c.leaf_step-2.new.justs in
    let j3 = c.state_turned.new.justs in
    let turned = front_added j2 j3 (side.Name leaf) (side.Name c.args.right) (c.in_ok-second.second ∷ []) c.state_turned.result c.state_turned.ensures.added c.state_turned.ensures.err in (
      leaf,
      subst (StatesEqual j3 first c.args.left) (c.requires.same.same ∙ sym c.leaf-leaf.ensures) (equal_kept j1 j3 (front_then j1 j2 j3 c.leaf_step-2.ensures.front turned) first c.args.left _ c.in_ok-first.ensures.states),
      states_equal j2 j3 c.in_ok-back.back leaf c.args.right (c.in_ok-second.second ∷ []) c.in_ok-back.ensures.added,
    )

pub returns-in_err-second-clause-front : goal.returns-in_err-second-clause-front
returns-in_err-second-clause-front c = front_then c.args.justs.now c.leaf_step.new.justs c.leaf_step-2.new.justs c.leaf_step.ensures.front c.leaf_step-2.ensures.front

pub returns-in_err-back-clause-front : goal.returns-in_err-back-clause-front
returns-in_err-back-clause-front c =
    let j2 = c.leaf_step-2.new.justs in
    let j3 = c.state_turned.new.justs in
    front_then c.args.justs.now j2 j3 (front_then c.args.justs.now c.leaf_step.new.justs j2 c.leaf_step.ensures.front c.leaf_step-2.ensures.front)
    (front_added j2 j3 (side.Name c.leaf-leaf.result) (side.Name c.args.right) (c.in_ok-second.second ∷ []) c.state_turned.result c.state_turned.ensures.added c.state_turned.ensures.err)

pub returns-clause-states : goal.returns-clause-states
returns-clause-states c =
    equal_added c.state_turned.new.justs c.state_chained.new.justs c.args.left c.args.right (c.in_ok-first.first ∷ c.in_ok-back.back ∷ []) c.state_chained.result c.state_chained.ensures.added

pub returns-clause-rests : goal.returns-clause-rests
returns-clause-rests c =
    let first = c.in_ok-first.first in
    let back = c.in_ok-back.back in
    let j0 = c.args.justs.now in
    let j1 = c.leaf_step.new.justs in
    let j2 = c.leaf_step-2.new.justs in
    let j3 = c.state_turned.new.justs in
    let leaf = c.leaf-leaf.result in
    let turned = front_added j2 j3 (side.Name leaf) (side.Name c.args.right) (c.in_ok-second.second ∷ []) c.state_turned.result c.state_turned.ensures.added c.state_turned.ensures.err in
    rests_on j3 c.state_chained.new.justs (side.Name c.args.left) (side.Name c.args.right) (first ∷ back ∷ []) c.args.store.now.signature (terms (shapes c.args.store.now.nodes)) j0 c.args.values.now c.state_chained.result c.state_chained.ensures.added c.state_chained.ensures.fits
    (two_rest c.args.store.now.signature (terms (shapes c.args.store.now.nodes)) j0 j1 j3 c.leaf_step.ensures.front (front_then j1 j2 j3 c.leaf_step-2.ensures.front turned) c.leaf_step.ensures.fits c.state_turned.ensures.fits c.args.values.now c.requires.held.said first back
    (slice_get_within j1 first _ c.in_ok-first.ensures.states.there) c.in_ok-first.ensures.rests
    (turned_rests c.args.store.now.signature (terms (shapes c.args.store.now.nodes)) j1 j2 j3 c.args.values.now c.in_ok-second.second back (side.Name leaf) (side.Name c.args.right) c.in_ok-back.ensures.added c.state_turned.ensures.fits c.in_ok-second.ensures.rests))

pub returns-clause-front : goal.returns-clause-front
returns-clause-front c =
    let j0 = c.args.justs.now in
    let j2 = c.leaf_step-2.new.justs in
    let j3 = c.state_turned.new.justs in
    let j4 = c.state_chained.new.justs in
    front_then j0 j3 j4
    (front_then j0 j2 j3 (front_then j0 c.leaf_step.new.justs j2 c.leaf_step.ensures.front c.leaf_step-2.ensures.front)
    (front_added j2 j3 (side.Name c.leaf-leaf.result) (side.Name c.args.right) (c.in_ok-second.second ∷ []) c.state_turned.result c.state_turned.ensures.added c.state_turned.ensures.err))
    (front_added j3 j4 (side.Name c.args.left) (side.Name c.args.right) (c.in_ok-first.first ∷ c.in_ok-back.back ∷ []) c.state_chained.result c.state_chained.ensures.added c.state_chained.ensures.err)
