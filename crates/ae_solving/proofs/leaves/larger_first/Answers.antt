use Rattle.std.specs.Prelude.{[], ◌∷◌}
use Rattle.std.proofs.Common.{refl, arith, inl, inr}
use Rattle.std.proofs.lemmas.Bool.{cases_lt}
use Rattle.ae_equal_steps.proofs.Adding.{front_added}
use Rattle.ae_just.specs.declared.steps.Side.TheVariants as side
use Rattle.ae_store.specs.Shapes.{shapes}
use Rattle.ae_store.specs.Terms.{terms}
use Rattle.ae_store.proofs.EnterLaws.{front_same}
use Rattle.ae_strips.proofs.Freedom.{each_one}
use Rattle.ae_value_steps.proofs.Added.{states_equal}
use Rattle.ae_value_turns.proofs.GroundedSteps.{IsGrounded, added_ground}
use Rattle.ae_solving.proofs.leaves.larger_first.Goals as goal

pub returns-then-right-left-clause-both : goal.returns-then-right-left-clause-both
returns-then-right-left-clause-both c = inl (refl, refl)

pub returns-then-right-left-clause-rests : goal.returns-then-right-left-clause-rests
returns-then-right-left-clause-rests c = λ held given. given

pub returns-then-right-left-clause-front : goal.returns-then-right-left-clause-front
returns-then-right-left-clause-front c = front_same c.args.justs.now

pub returns-in_err-turned-clause-front : goal.returns-in_err-turned-clause-front
returns-in_err-turned-clause-front c =
    front_added c.args.justs.now c.state_turned.new.justs (side.Name c.args.right) (side.Name c.args.left) (c.args.step ∷ []) c.state_turned.result c.state_turned.ensures.added c.state_turned.ensures.err

pub returns-clause-order : goal.returns-clause-order
returns-clause-order c =
    let l = c.if-right-left.false in
    elim (cases_lt c.args.left c.args.right) [ inl below ↦ below | inr above ↦ absurd (c.requires.differ (omega (arith, l, above))) ]

pub returns-clause-both : goal.returns-clause-both
returns-clause-both c = inr (refl, refl)

pub returns-clause-states : goal.returns-clause-states
returns-clause-states c = states_equal c.args.justs.now c.state_turned.new.justs c.in_ok-turned.turned c.args.right c.args.left (c.args.step ∷ []) c.in_ok-turned.ensures.added

pub returns-clause-rests : goal.returns-clause-rests
returns-clause-rests c = λ held given.
    let s = c.args.store.now in
    added_ground (terms (shapes s.nodes)) held s.signature c.args.justs.now c.state_turned.new.justs c.in_ok-turned.turned (side.Name c.args.right) (side.Name c.args.left) (c.args.step ∷ []) c.in_ok-turned.ensures.added
    c.state_turned.ensures.fits (λ p m. each_one (IsGrounded (terms (shapes s.nodes)) held c.args.justs.now) c.args.step p given m)

pub returns-clause-front : goal.returns-clause-front
returns-clause-front c =
    front_added c.args.justs.now c.state_turned.new.justs (side.Name c.args.right) (side.Name c.args.left) (c.args.step ∷ []) c.state_turned.result c.state_turned.ensures.added c.state_turned.ensures.err
