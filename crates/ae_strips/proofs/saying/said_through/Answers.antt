use Rattle.std.specs.Prelude.{List, [], ◌∷◌}
use Rattle.std.proofs.Common.{sym, subst}
use Rattle.ae_store.specs.Growing.{IsFront}
use Rattle.ae_store.specs.Shapes.{shapes}
use Rattle.ae_store.specs.Terms.{terms}
use Rattle.ae_store.proofs.EnterLaws.{front_same}
use Rattle.ae_just.specs.declared.steps.Side.TheVariants as side
use Rattle.ae_just.specs.declared.steps.Step.{Step}
use Rattle.ae_value_steps.proofs.Added.{front}
use Rattle.ae_strips.specs.Stripping.{RestsOnNothing}
use Rattle.ae_strips.proofs.Freedom.{said_first, said_second, said_some, equating_added, each_two}
use Rattle.ae_strips.proofs.saying.said_through.Goals as goal

pub returns-in-None-clause-said : goal.returns-in-None-clause-said
returns-in-None-clause-said c = said_first c.args.justs.now c.args.left c.args.between c.args.right c.args.first c.args.second c.in-None.is c.requires.first c.requires.second

pub returns-in-None-clause-front : goal.returns-in-None-clause-front
returns-in-None-clause-front c = front_same c.args.justs.now

pub returns-in-None-second-clause-said : goal.returns-in-None-second-clause-said
returns-in-None-second-clause-said c = said_second c.args.justs.now c.args.left c.args.between c.args.right c.in-Some.one c.args.first c.args.second c.in-Some.is c.in-None-second.is c.requires.first c.requires.second

pub returns-in-None-second-clause-front : goal.returns-in-None-second-clause-front
returns-in-None-second-clause-front c = front_same c.args.justs.now

pub state_chained-requires-clause-equal : goal.state_chained-requires-clause-equal
state_chained-requires-clause-equal c =
    let one = said_some c.args.justs.now c.args.left c.args.between c.in-Some.one c.args.first c.in-Some.is c.requires.first in
    let other = said_some c.args.justs.now c.args.between c.args.right c.in-Some-second.other c.args.second c.in-Some-second.is c.requires.second in
    (c.args.between, one.equal, other.equal)

pub returns-in_ok-step-in-Some-second-clause-said : goal.returns-in_ok-step-in-Some-second-clause-said
returns-in_ok-step-in-Some-second-clause-said c =
    let s = c.args.store.now in
    let one = said_some c.args.justs.now c.args.left c.args.between c.in-Some.one c.args.first c.in-Some.is c.requires.first in
    let other = said_some c.args.justs.now c.args.between c.args.right c.in-Some-second.other c.args.second c.in-Some-second.is c.requires.second in
    equating_added s.signature (terms (shapes s.nodes)) c.args.justs.now c.state_chained.new.justs c.state_chained.ensures.fits c.args.left c.args.right c.in_ok-step-in-Some-second.step (c.in-Some.one ∷ c.in-Some-second.other ∷ []) c.in_ok-step-in-Some-second.ensures.added
    (λ p m. each_two (RestsOnNothing c.args.justs.now) c.in-Some.one c.in-Some-second.other p one.free other.free m)

pub returns-in_ok-step-in-Some-second-clause-front : goal.returns-in_ok-step-in-Some-second-clause-front
returns-in_ok-step-in-Some-second-clause-front c =
    front c.args.justs.now c.state_chained.new.justs c.in_ok-step-in-Some-second.step (side.Name c.args.left) (side.Name c.args.right) (c.in-Some.one ∷ c.in-Some-second.other ∷ []) c.in_ok-step-in-Some-second.ensures.added

pub returns-in_err-step-in-Some-second-clause-front : goal.returns-in_err-step-in-Some-second-clause-front
returns-in_err-step-in-Some-second-clause-front c = subst (λ (js : List Step). IsFront c.args.justs.now js) (sym c.in_err-step-in-Some-second.ensures.err) (front_same c.args.justs.now)
