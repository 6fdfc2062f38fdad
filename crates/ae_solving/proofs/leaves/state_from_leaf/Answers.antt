use Rattle.std.specs.Prelude.{ℕ, List, [], ◌∷◌, IfOk}
use Rattle.std.proofs.Common.{sym, subst}
use Rattle.std.proofs.lemmas.Result.{IfOk-weaker}
use Rattle.ae_conflicts.specs.Saying.{RestsOnAssumed}
use Rattle.ae_conflicts.specs.declared.assumed.Assumed.{Assumed}
use Rattle.ae_equal_steps.proofs.Adding.{equal_added, front_added}
use Rattle.ae_just.specs.declared.steps.Side.TheVariants as side
use Rattle.ae_state_steps.specs.ValueSteps.{StatesEqual}
use Rattle.ae_store.specs.Shapes.{shapes}
use Rattle.ae_store.specs.Terms.{terms}
use Rattle.ae_store.proofs.EnterLaws.{front_then}
use Rattle.ae_store.proofs.PartLaws.{in_none}
use Rattle.ae_strips.proofs.Freedom.{each_one}
use Rattle.ae_value_steps.specs.Stating.{AddsStep}
use Rattle.ae_value_turns.specs.Renewed.{AreGrounded}
use Rattle.ae_value_turns.proofs.GroundedSteps.{IsGrounded, added_ground, values_ground}
use Rattle.ae_solving.proofs.leaves.state_from_leaf.Goals as goal

pub state_turned-requires-clause-equal : goal.state_turned-requires-clause-equal
state_turned-requires-clause-equal c = subst (StatesEqual c.leaf_step.new.justs c.in_ok-step.step c.args.name) (sym c.leaf-leaf.ensures) c.in_ok-step.ensures.states

pub returns-clause-states : goal.returns-clause-states
returns-clause-states c =
    subst (λ (m : ℕ). IfOk c.state_turned.result (λ id. StatesEqual c.state_turned.new.justs id m c.args.name)) c.leaf-leaf.ensures
    (equal_added c.leaf_step.new.justs c.state_turned.new.justs c.leaf-leaf.result c.args.name (c.in_ok-step.step ∷ []) c.state_turned.result c.state_turned.ensures.added)

pub returns-clause-rests : goal.returns-clause-rests
returns-clause-rests c =
    let s = c.args.store.now in
    let ts = terms (shapes s.nodes) in
    let v = c.args.values.now in
    let j0 = c.args.justs.now in
    let j1 = c.leaf_step.new.justs in
    let j2 = c.state_turned.new.justs in
    let step = c.in_ok-step.step in
    let l = side.Name c.leaf-leaf.result in
    let r = side.Name c.args.name in
    IfOk-weaker c.state_turned.result (λ id. AddsStep j1 j2 id l r (step ∷ [])) (λ id. (held : List (ℕ × Assumed)) → AreGrounded ts held j0 v → RestsOnAssumed ts j2 held id)
    (λ id a held all.
    added_ground ts held s.signature j1 j2 id l r (step ∷ []) a c.state_turned.ensures.fits
    (λ p m. each_one (IsGrounded ts held j1) step p (values_ground ts held j0 j1 v [] step (λ q k. absurd (in_none q k)) all c.in_ok-step.ensures.rests) m))
    c.state_turned.ensures.added

pub returns-clause-front : goal.returns-clause-front
returns-clause-front c =
    let j1 = c.leaf_step.new.justs in
    front_then c.args.justs.now j1 c.state_turned.new.justs c.leaf_step.ensures.front
    (front_added j1 c.state_turned.new.justs (side.Name c.leaf-leaf.result) (side.Name c.args.name) (c.in_ok-step.step ∷ []) c.state_turned.result c.state_turned.ensures.added c.state_turned.ensures.err)
