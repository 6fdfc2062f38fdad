use Rattle.std.specs.Prelude.{[]}
use Rattle.std.proofs.lemmas.Option.{slice_get_within}
use Rattle.std.proofs.lemmas.Result.{IfOk-weaker}
use Rattle.ae_equal_steps.proofs.Adding.{front_added}
use Rattle.ae_just.specs.declared.steps.Side.TheVariants as side
use Rattle.ae_state_steps.specs.ValueSteps.{StatesEqual}
use Rattle.ae_store.specs.Shapes.{shapes}
use Rattle.ae_store.specs.Terms.{terms}
use Rattle.ae_store.proofs.EnterLaws.{front_then}
use Rattle.ae_value_fitting.specs.Sources.{RestsOnValues}
use Rattle.ae_value_fitting.proofs.Resting.{rests_on_named, rests_by}
use Rattle.ae_value_steps.specs.Stating.{AddsStep}
use Rattle.ae_value_steps.proofs.Added.{states_equal}
use Rattle.ae_gaps.proofs.ArgumentSteps.{same_read, congruent_read}
use Rattle.ae_gaps.proofs.congruences.congruent_step.Goals as goal

pub node-requires : goal.node-requires
node-requires c = slice_get_within c.args.store.now.nodes c.args.left c.requires.congruent.first c.requires.congruent.first_there

pub node-requires-2 : goal.node-requires-2
node-requires-2 c = slice_get_within c.args.store.now.nodes c.args.right c.requires.congruent.second c.requires.congruent.second_there

pub equal_each-requires-clause-same : goal.equal_each-requires-clause-same
equal_each-requires-clause-same c =
    let s = c.args.store.now in
    same_read s.signature s.nodes c.requires.held.store c.args.values.now c.args.left c.args.right c.requires.congruent c.node.result.now c.node-2.result.now c.as_slice-first.result.now c.as_slice-second.result.now
    c.node.ensures.node c.node-2.ensures.node c.as_slice-first.ensures c.as_slice-second.ensures

pub state_congruent-requires-clause-congruent : goal.state_congruent-requires-clause-congruent
state_congruent-requires-clause-congruent c =
    let s = c.args.store.now in
    congruent_read s.signature s.nodes c.requires.held.store c.args.values.now c.args.left c.args.right c.requires.congruent c.equal_each.new.justs c.in_ok-steps.steps c.node.result.now c.node-2.result.now
    c.as_slice-first.result.now c.as_slice-second.result.now c.node.ensures.node c.node-2.ensures.node c.as_slice-first.ensures c.as_slice-second.ensures c.in_ok-steps.ensures.equal

pub state_congruent-requires-clause-sorted : goal.state_congruent-requires-clause-sorted
state_congruent-requires-clause-sorted c = c.requires.congruent.sorted

pub returns-clause-states : goal.returns-clause-states
returns-clause-states c =
    let l = c.args.left in
    let r = c.args.right in
    let ids = c.in_ok-steps.steps in
    let old = c.equal_each.new.justs in
    let new = c.state_congruent.new.justs in
    IfOk-weaker c.state_congruent.result (λ id. AddsStep old new id (side.Name l) (side.Name r) ids) (λ id. StatesEqual new id l r) (λ id a. states_equal old new id l r ids a) c.state_congruent.ensures.added

pub returns-clause-rests : goal.returns-clause-rests
returns-clause-rests c =
    let s = c.args.store.now in
    let ts = terms (shapes s.nodes) in
    let l = c.args.left in
    let r = c.args.right in
    let v = c.args.values.now in
    let ids = c.in_ok-steps.steps in
    let first = c.args.justs.now in
    let old = c.equal_each.new.justs in
    let new = c.state_congruent.new.justs in
    IfOk-weaker c.state_congruent.result (λ id. AddsStep old new id (side.Name l) (side.Name r) ids) (λ id. RestsOnValues first new v [] id)
    (λ id a. rests_by s.signature ts first old new v [] ids id (rests_on_named s.signature ts old new id (side.Name l) (side.Name r) ids a c.state_congruent.ensures.fits) c.in_ok-steps.ensures.rests)
    c.state_congruent.ensures.added

pub returns-clause-front : goal.returns-clause-front
returns-clause-front c =
    front_then c.args.justs.now c.equal_each.new.justs c.state_congruent.new.justs c.equal_each.ensures.front
    (front_added c.equal_each.new.justs c.state_congruent.new.justs (side.Name c.args.left) (side.Name c.args.right) c.in_ok-steps.steps c.state_congruent.result c.state_congruent.ensures.added c.state_congruent.ensures.err)
