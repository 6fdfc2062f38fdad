use Rattle.std.specs.Prelude.{ℕ, List, [], ◌∷◌, IfOk}
use Rattle.std.proofs.Common.{sym, subst}
use Rattle.std.proofs.lemmas.Option.{slice_get_within}
use Rattle.std.proofs.lemmas.Result.{IfOk-weaker}
use Rattle.ae_conflicts.specs.Saying.{RestsOnAssumed}
use Rattle.ae_conflicts.specs.declared.assumed.Assumed.{Assumed}
use Rattle.ae_equal_steps.proofs.Adding.{equal_added, front_added, said_kept}
use Rattle.ae_just.specs.declared.steps.Side.TheVariants as side
use Rattle.ae_state_steps.specs.ValueSteps.{StatesEqual}
use Rattle.ae_store.specs.Shapes.{shapes}
use Rattle.ae_store.specs.Terms.{terms}
use Rattle.ae_store.proofs.EnterLaws.{front_then}
use Rattle.ae_store.proofs.PartLaws.{in_none}
use Rattle.ae_strips.proofs.Freedom.{each_two}
use Rattle.ae_value_steps.specs.Stating.{AddsStep}
use Rattle.ae_value_steps.proofs.Added.{equal_kept, states_equal}
use Rattle.ae_value_turns.specs.Renewed.{AreGrounded}
use Rattle.ae_value_turns.proofs.GroundedSteps.{IsGrounded, added_ground, still_grounded, all_still, values_ground}
use Rattle.ae_solving.proofs.leaves.state_leaves.Goals as goal

pub leaf_step-requires-clause-said : goal.leaf_step-requires-clause-said
leaf_step-requires-clause-said c =
    said_kept c.args.store.now.signature (terms (shapes c.args.store.now.nodes)) c.args.justs.now c.state_from_leaf.new.justs c.state_from_leaf.ensures.front c.args.values.now c.requires.said

pub state_chained-requires-clause-equal : goal.state_chained-requires-clause-equal
state_chained-requires-clause-equal c =
    let j0 = c.args.justs.now in
    let j1 = c.state_from_leaf.new.justs in
    let j2 = c.leaf_step.new.justs in (
      c.args.left,
      subst (λ (n : ℕ). StatesEqual j2 c.in_ok-first.first n c.args.left) (sym c.leaf-leaf.ensures) (equal_kept j1 j2 c.leaf_step.ensures.front c.in_ok-first.first _ c.args.left c.in_ok-first.ensures.states),
      equal_kept j0 j2 (front_then j0 j1 j2 c.state_from_leaf.ensures.front c.leaf_step.ensures.front) c.args.step c.args.left c.args.right c.requires.states,
    )

pub state_chained-requires-2-clause-equal : goal.state_chained-requires-2-clause-equal
state_chained-requires-2-clause-equal c =
    let j2 = c.leaf_step.new.justs in
    let j3 = c.state_chained.new.justs in
    let given = c.in_ok-first.first ∷ c.args.step ∷ [] in
    let chained = front_added j2 j3 (side.Name c.leaf-leaf.result) (side.Name c.args.right) given c.state_chained.result c.state_chained.ensures.added c.state_chained.ensures.err in (
      c.args.right,
      states_equal j2 j3 c.in_ok-between.between c.leaf-leaf.result c.args.right given c.in_ok-between.ensures.added,
      subst (λ (n : ℕ). StatesEqual j3 c.in_ok-second.second c.args.right n) (sym c.leaf-other.ensures) (equal_kept j2 j3 chained c.in_ok-second.second c.args.right _ c.in_ok-second.ensures.states),
    )

pub returns-in_err-second-clause-front : goal.returns-in_err-second-clause-front
returns-in_err-second-clause-front c = front_then c.args.justs.now c.state_from_leaf.new.justs c.leaf_step.new.justs c.state_from_leaf.ensures.front c.leaf_step.ensures.front

pub returns-in_err-between-clause-front : goal.returns-in_err-between-clause-front
returns-in_err-between-clause-front c =
    let j0 = c.args.justs.now in
    let j2 = c.leaf_step.new.justs in
    let j3 = c.state_chained.new.justs in
    front_then j0 j2 j3 (front_then j0 c.state_from_leaf.new.justs j2 c.state_from_leaf.ensures.front c.leaf_step.ensures.front)
    (front_added j2 j3 (side.Name c.leaf-leaf.result) (side.Name c.args.right) (c.in_ok-first.first ∷ c.args.step ∷ []) c.state_chained.result c.state_chained.ensures.added c.state_chained.ensures.err)

pub returns-clause-states : goal.returns-clause-states
returns-clause-states c =
    let j3 = c.state_chained.new.justs in
    let j4 = c.state_chained-2.new.justs in
    subst (λ (z : ℕ × ℕ). IfOk c.state_chained-2.result (λ id. StatesEqual j4 id z.0 z.1)) (λ i. (c.leaf-leaf.ensures i, c.leaf-other.ensures i))
    (equal_added j3 j4 c.leaf-leaf.result c.leaf-other.result (c.in_ok-between.between ∷ c.in_ok-second.second ∷ []) c.state_chained-2.result c.state_chained-2.ensures.added)

pub returns-clause-rests : goal.returns-clause-rests
returns-clause-rests c =
    let s = c.args.store.now in
    let ts = terms (shapes s.nodes) in
    let v = c.args.values.now in
    let j0 = c.args.justs.now in
    let j1 = c.state_from_leaf.new.justs in
    let j2 = c.leaf_step.new.justs in
    let j3 = c.state_chained.new.justs in
    let j4 = c.state_chained-2.new.justs in
    let first = c.in_ok-first.first in
    let second = c.in_ok-second.second in
    let between = c.in_ok-between.between in
    let leaf = side.Name c.leaf-leaf.result in
    let middle = side.Name c.args.right in
    let other = side.Name c.leaf-other.result in
    let f01 = c.state_from_leaf.ensures.front in
    let f12 = c.leaf_step.ensures.front in
    let f23 = front_added j2 j3 leaf middle (first ∷ c.args.step ∷ []) c.state_chained.result c.state_chained.ensures.added c.state_chained.ensures.err in
    IfOk-weaker c.state_chained-2.result (λ id. AddsStep j3 j4 id leaf other (between ∷ second ∷ []))
    (λ id. (held : List (ℕ × Assumed)) → AreGrounded ts held j0 v → RestsOnAssumed ts j0 held c.args.step → RestsOnAssumed ts j4 held id)
    (λ id a held all given.
    let g1 : IsGrounded ts held j1 first = c.in_ok-first.ensures.rests held all in
    let g2 : IsGrounded ts held j2 second =
    values_ground ts held j1 j2 v [] second (λ q k. absurd (in_none q k)) (all_still ts held s.signature j0 j1 f01 c.state_from_leaf.ensures.fits v c.requires.said all) c.in_ok-second.ensures.rests in
    let first_still : IsGrounded ts held j2 first = still_grounded ts held s.signature j1 j2 f12 c.leaf_step.ensures.fits first (slice_get_within j1 first _ c.in_ok-first.ensures.states.there) g1 in
    let step_still : IsGrounded ts held j2 c.args.step =
    still_grounded ts held s.signature j0 j2 (front_then j0 j1 j2 f01 f12) c.leaf_step.ensures.fits c.args.step (slice_get_within j0 c.args.step _ c.requires.states.there) given in
    let g3 : IsGrounded ts held j3 between =
    added_ground ts held s.signature j2 j3 between leaf middle (first ∷ c.args.step ∷ []) c.in_ok-between.ensures.added c.state_chained.ensures.fits (λ p m. each_two (IsGrounded ts held j2) first c.args.step p first_still step_still m) in
    let second_still : IsGrounded ts held j3 second = still_grounded ts held s.signature j2 j3 f23 c.state_chained.ensures.fits second (slice_get_within j2 second _ c.in_ok-second.ensures.states.there) g2 in
    added_ground ts held s.signature j3 j4 id leaf other (between ∷ second ∷ []) a c.state_chained-2.ensures.fits (λ p m. each_two (IsGrounded ts held j3) between second p g3 second_still m))
    c.state_chained-2.ensures.added

pub returns-clause-front : goal.returns-clause-front
returns-clause-front c =
    let j0 = c.args.justs.now in
    let j1 = c.state_from_leaf.new.justs in
    let j2 = c.leaf_step.new.justs in
    let j3 = c.state_chained.new.justs in
    let j4 = c.state_chained-2.new.justs in
    front_then j0 j3 j4
    (front_then j0 j2 j3 (front_then j0 j1 j2 c.state_from_leaf.ensures.front c.leaf_step.ensures.front)
    (front_added j2 j3 (side.Name c.leaf-leaf.result) (side.Name c.args.right) (c.in_ok-first.first ∷ c.args.step ∷ []) c.state_chained.result c.state_chained.ensures.added c.state_chained.ensures.err))
    (front_added j3 j4 (side.Name c.leaf-leaf.result) (side.Name c.leaf-other.result) (c.in_ok-between.between ∷ c.in_ok-second.second ∷ []) c.state_chained-2.result c.state_chained-2.ensures.added c.state_chained-2.ensures.err)
