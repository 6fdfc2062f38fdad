use Rattle.std.specs.Prelude.{List, []}
use Rattle.std.proofs.Common.{sym, ◌∙◌, subst}
use Rattle.ae_store.specs.Growing.{IsFront}
use Rattle.ae_store.specs.Shapes.{shapes}
use Rattle.ae_store.specs.Terms.{terms}
use Rattle.ae_store.proofs.EnterLaws.{front_same}
use Rattle.ae_just.specs.declared.steps.Step.{Step}
use Rattle.ae_state_steps.specs.ValueSteps.{name_side, value_side}
use Rattle.ae_value_steps.proofs.Added.{front}
use Rattle.ae_take_in.proofs.Resting.{rests_none}
use Rattle.ae_take_in.proofs.Steps.{own_meaning, own_written, stated_by, row_stated, row_rests, own_number}
use Rattle.ae_take_in.proofs.given.given.Goals as goal

-- ---- the number of a row
pub returns-in_ok-value-in-Some-clause-stated : goal.returns-in_ok-value-in-Some-clause-stated
returns-in_ok-value-in-Some-clause-stated c =
    let s = c.args.store.now in
    let w = c.in-Some.ensures.some in
    row_stated s.signature (terms (shapes s.nodes)) c.args.justs.now c.args.values.now c.requires.said c.args.real c.args.name c.requires.name w.0 c.in-Some.step w.1 w.2 c.in_ok-value-in-Some.value c.in_ok-value-in-Some.ensures.number

pub returns-in_ok-value-in-Some-clause-rests : goal.returns-in_ok-value-in-Some-clause-rests
returns-in_ok-value-in-Some-clause-rests c =
    let s = c.args.store.now in
    let w = c.in-Some.ensures.some in
    row_rests s.signature (terms (shapes s.nodes)) c.args.justs.now c.args.values.now c.requires.said c.args.real c.args.name c.requires.fits w.0 c.in-Some.step w.1 w.2

pub returns-in_ok-value-in-Some-clause-front : goal.returns-in_ok-value-in-Some-clause-front
returns-in_ok-value-in-Some-clause-front c = front_same c.args.justs.now

pub returns-in_err-value-in-Some-clause-front : goal.returns-in_err-value-in-Some-clause-front
returns-in_err-value-in-Some-clause-front c = front_same c.args.justs.now

-- ---- its own number
pub state_own-requires-clause-written : goal.state_own-requires-clause-written
state_own-requires-clause-written c =
    let s = c.args.store.now in own_written s.signature (terms (shapes s.nodes)) c.args.real c.args.name c.requires.name c.in_ok-value-in-None.value c.in_ok-value-in-None.ensures.form

pub state_own-requires-clause-own : goal.state_own-requires-clause-own
state_own-requires-clause-own c = own_meaning c.args.name c.in_ok-value-in-None.value c.in_ok-value-in-None.ensures.form

pub returns-in_ok-step-in-None-clause-number : goal.returns-in_ok-step-in-None-clause-number
returns-in_ok-step-in-None-clause-number c =
    let s = c.args.store.now in
    c.in_ok-value-in-None.ensures.form ∙ own_number s.signature (terms (shapes s.nodes)) c.args.justs.now c.args.values.now c.requires.said c.args.real c.args.name c.in-None.ensures.none

pub returns-in_ok-step-in-None-clause-stated : goal.returns-in_ok-step-in-None-clause-stated
returns-in_ok-step-in-None-clause-stated c =
    let s = c.args.store.now in
    let v = c.in_ok-value-in-None.value in
    stated_by s.signature (terms (shapes s.nodes)) c.args.justs.now c.state_own.new.justs c.args.real c.args.name v c.in_ok-step-in-None.step []
    (own_written s.signature (terms (shapes s.nodes)) c.args.real c.args.name c.requires.name v c.in_ok-value-in-None.ensures.form) c.in_ok-step-in-None.ensures.added

pub returns-in_ok-step-in-None-clause-rests : goal.returns-in_ok-step-in-None-clause-rests
returns-in_ok-step-in-None-clause-rests c =
    let s = c.args.store.now in
    let v = c.in_ok-value-in-None.value in
    rests_none s.signature (terms (shapes s.nodes)) c.args.justs.now c.state_own.new.justs c.in_ok-step-in-None.step (name_side c.args.real c.args.name v) (value_side c.args.real v) c.in_ok-step-in-None.ensures.added
    c.state_own.ensures.fits c.args.values.now

pub returns-in_ok-step-in-None-clause-front : goal.returns-in_ok-step-in-None-clause-front
returns-in_ok-step-in-None-clause-front c =
    let v = c.in_ok-value-in-None.value in
    front c.args.justs.now c.state_own.new.justs c.in_ok-step-in-None.step (name_side c.args.real c.args.name v) (value_side c.args.real v) [] c.in_ok-step-in-None.ensures.added

pub returns-in_err-value-in-None-clause-front : goal.returns-in_err-value-in-None-clause-front
returns-in_err-value-in-None-clause-front c = front_same c.args.justs.now

pub returns-in_err-step-in-None-clause-front : goal.returns-in_err-step-in-None-clause-front
returns-in_err-step-in-None-clause-front c = subst (λ (js : List Step). IsFront c.args.justs.now js) (sym c.in_err-step-in-None.ensures.err) (front_same c.args.justs.now)
