use Rattle.std.specs.Prelude.{ℕ, List}
use Rattle.std.proofs.Common.{sym, ap, subst}
use Rattle.std.proofs.lemmas.Result.{IfOk-weaker}
use Rattle.ae_base.specs.Options.{known}
use Rattle.ae_conflicts.specs.Saying.{RestsOnAssumed}
use Rattle.ae_conflicts.specs.declared.assumed.Assumed.{Assumed}
use Rattle.ae_congruent_steps.specs.Congruent.{AreCongruent}
use Rattle.ae_equal_steps.proofs.Adding.{equal_added, front_added}
use Rattle.ae_just.specs.declared.steps.Side.TheVariants as side
use Rattle.ae_store.specs.Parts.{IsIn}
use Rattle.ae_store.specs.Shapes.{shapes}
use Rattle.ae_store.specs.Terms.{terms}
use Rattle.ae_store.proofs.EnterLaws.{front_same}
use Rattle.ae_strips.proofs.Freedom.{each_one}
use Rattle.ae_value_steps.specs.Stating.{AddsStep}
use Rattle.ae_value_turns.proofs.GroundedSteps.{IsGrounded, added_ground}
use Rattle.ae_solving.proofs.RecordParts.{fields_congruent}
use Rattle.ae_solving.proofs.records.state_field.Goals as goal

pub state_congruent-requires-clause-congruent : goal.state_congruent-requires-clause-congruent
state_congruent-requires-clause-congruent c =
    let s = c.args.store.now in
    subst (AreCongruent (terms (shapes s.nodes)) c.args.justs.now c.args.left c.args.right) (sym c.in_ok-steps.ensures)
    (fields_congruent s.signature (terms (shapes s.nodes)) c.args.justs.now c.args.left c.args.right c.args.step c.requires.fields)

pub state_congruent-requires-clause-sorted : goal.state_congruent-requires-clause-sorted
state_congruent-requires-clause-sorted c = ap known c.requires.fields.sorted

pub returns-in_err-steps-clause-front : goal.returns-in_err-steps-clause-front
returns-in_err-steps-clause-front c = front_same c.args.justs.now

pub returns-clause-states : goal.returns-clause-states
returns-clause-states c = equal_added c.args.justs.now c.state_congruent.new.justs c.args.left c.args.right c.in_ok-steps.steps c.state_congruent.result c.state_congruent.ensures.added

pub returns-clause-rests : goal.returns-clause-rests
returns-clause-rests c =
    let s = c.args.store.now in
    let ts = terms (shapes s.nodes) in
    let j0 = c.args.justs.now in
    let j1 = c.state_congruent.new.justs in
    let l = side.Name c.args.left in
    let r = side.Name c.args.right in
    IfOk-weaker c.state_congruent.result (λ id. AddsStep j0 j1 id l r c.in_ok-steps.steps) (λ id. (held : List (ℕ × Assumed)) → RestsOnAssumed ts j0 held c.args.step → RestsOnAssumed ts j1 held id)
    (λ id a held given.
    added_ground ts held s.signature j0 j1 id l r c.in_ok-steps.steps a c.state_congruent.ensures.fits (λ p m. each_one (IsGrounded ts held j0) c.args.step p given (subst (IsIn p) c.in_ok-steps.ensures m)))
    c.state_congruent.ensures.added

pub returns-clause-front : goal.returns-clause-front
returns-clause-front c =
    front_added c.args.justs.now c.state_congruent.new.justs (side.Name c.args.left) (side.Name c.args.right) c.in_ok-steps.steps c.state_congruent.result c.state_congruent.ensures.added c.state_congruent.ensures.err
