use Rattle.std.specs.Prelude.{Bool, [], ◌∷◌}
use Rattle.std.proofs.Common.{sym, ◌∙◌, subst}
use Rattle.std.proofs.lemmas.Option.{slice_get_within}
use Rattle.ae_base.proofs.ListFacts.{get_front}
use Rattle.ae_num.specs.declared.forms.Lin.{Lin}
use Rattle.ae_store.specs.Shapes.{shapes}
use Rattle.ae_store.specs.Terms.{terms}
use Rattle.ae_store.proofs.EnterLaws.{front_then}
use Rattle.ae_just.specs.declared.steps.Side.TheVariants as side
use Rattle.ae_state_steps.specs.ValueSteps.{IsWritten}
use Rattle.ae_value_steps.proofs.Added.{stated_kept}
use Rattle.ae_value_table.specs.Table.{number_at}
use Rattle.ae_value_fitting.proofs.Written.{written}
use Rattle.ae_equal_steps.proofs.Adding.{kind_of, said_kept, equal_added, rests_on, front_added, two_rest}
use Rattle.ae_equal_steps.proofs.numbers.equal_numbers.Goals as goal

pub is_real-real-requires : goal.is_real-real-requires
is_real-real-requires c =
    let v = c.args.values.now in
    let s = c.requires.same in
    slice_get_within v.entries c.args.left s.entry (get_front v.entries v.taken c.args.left s.entry s.there).0

pub number_step-requires-clause-fits : goal.number_step-requires-clause-fits
number_step-requires-clause-fits c = c.requires.held.fits

pub number_step-requires-clause-said : goal.number_step-requires-clause-said
number_step-requires-clause-said c = c.requires.held.said

pub number_step-requires-clause-written : goal.number_step-requires-clause-written
number_step-requires-clause-written c =
    let v = c.args.values.now in
    let h = c.requires.held in
    let s = c.requires.same in
    let kind = kind_of c.args.store.now.signature (terms (shapes c.args.store.now.nodes)) v c.args.left c.args.right s c.is_real-real.result c.is_real-real.ensures in
    subst (λ (f : Lin). IsWritten c.args.store.now.signature (terms (shapes c.args.store.now.nodes)) c.is_real-real.result c.args.left f) (sym c.in_ok-first_number.ensures.number)
    (subst (λ (r : Bool). IsWritten c.args.store.now.signature (terms (shapes c.args.store.now.nodes)) r c.args.left (number_at v c.args.left)) (sym kind) (written c.args.store.now.signature (terms (shapes c.args.store.now.nodes)) v h.patterns h.values s.real c.args.left s.left_within s.left))

pub number_step-requires-clause-number : goal.number_step-requires-clause-number
number_step-requires-clause-number c = c.in_ok-first_number.ensures.number

pub number_step-requires-2-clause-said : goal.number_step-requires-2-clause-said
number_step-requires-2-clause-said c = said_kept c.args.store.now.signature (terms (shapes c.args.store.now.nodes)) c.args.justs.now c.number_step.new.justs c.number_step.ensures.front c.args.values.now c.requires.held.said

pub number_step-requires-2-clause-written : goal.number_step-requires-2-clause-written
number_step-requires-2-clause-written c =
    let v = c.args.values.now in
    let h = c.requires.held in
    let s = c.requires.same in
    let kind = kind_of c.args.store.now.signature (terms (shapes c.args.store.now.nodes)) v c.args.left c.args.right s c.is_real-real.result c.is_real-real.ensures in
    subst (λ (f : Lin). IsWritten c.args.store.now.signature (terms (shapes c.args.store.now.nodes)) c.is_real-real.result c.args.right f) (sym c.in_ok-second_number.ensures.number)
    (subst (λ (r : Bool). IsWritten c.args.store.now.signature (terms (shapes c.args.store.now.nodes)) r c.args.right (number_at v c.args.right)) (sym kind) (written c.args.store.now.signature (terms (shapes c.args.store.now.nodes)) v h.patterns h.values s.real c.args.right s.right_within s.right))

pub number_step-requires-2-clause-number : goal.number_step-requires-2-clause-number
number_step-requires-2-clause-number c = c.in_ok-second_number.ensures.number

pub returns-in_err-second-clause-front : goal.returns-in_err-second-clause-front
returns-in_err-second-clause-front c = front_then c.args.justs.now c.number_step.new.justs c.number_step-2.new.justs c.number_step.ensures.front c.number_step-2.ensures.front

pub state_equal-requires-clause-left : goal.state_equal-requires-clause-left
state_equal-requires-clause-left c = stated_kept c.args.store.now.signature (terms (shapes c.args.store.now.nodes)) c.number_step.new.justs c.number_step-2.new.justs c.number_step-2.ensures.front c.is_real-real.result c.args.left c.in_ok-first_number.first_number c.in_ok-first.first c.in_ok-first.ensures.stated

pub state_equal-requires-clause-right : goal.state_equal-requires-clause-right
state_equal-requires-clause-right c = c.in_ok-second.ensures.stated

pub state_equal-requires-clause-same : goal.state_equal-requires-clause-same
state_equal-requires-clause-same c = c.in_ok-first_number.ensures.number ∙ c.requires.same.same ∙ sym c.in_ok-second_number.ensures.number

pub returns-clause-states : goal.returns-clause-states
returns-clause-states c =
    equal_added c.number_step-2.new.justs c.state_equal.new.justs c.args.left c.args.right (c.in_ok-first.first ∷ c.in_ok-second.second ∷ []) c.state_equal.result c.state_equal.ensures.added

pub returns-clause-rests : goal.returns-clause-rests
returns-clause-rests c =
    let first = c.in_ok-first.first in
    let second = c.in_ok-second.second in
    rests_on c.number_step-2.new.justs c.state_equal.new.justs (side.Name c.args.left) (side.Name c.args.right) (first ∷ second ∷ []) c.args.store.now.signature (terms (shapes c.args.store.now.nodes)) c.args.justs.now c.args.values.now c.state_equal.result
    c.state_equal.ensures.added c.state_equal.ensures.fits
    (two_rest c.args.store.now.signature (terms (shapes c.args.store.now.nodes)) c.args.justs.now c.number_step.new.justs c.number_step-2.new.justs c.number_step.ensures.front c.number_step-2.ensures.front c.number_step.ensures.fits c.number_step-2.ensures.fits c.args.values.now c.requires.held.said first
    second (slice_get_within c.number_step.new.justs first _ c.in_ok-first.ensures.stated.stated.there) c.in_ok-first.ensures.rests c.in_ok-second.ensures.rests)

pub returns-clause-front : goal.returns-clause-front
returns-clause-front c =
    front_then c.args.justs.now c.number_step-2.new.justs c.state_equal.new.justs (front_then c.args.justs.now c.number_step.new.justs c.number_step-2.new.justs c.number_step.ensures.front c.number_step-2.ensures.front)
    (front_added c.number_step-2.new.justs c.state_equal.new.justs (side.Name c.args.left) (side.Name c.args.right) (c.in_ok-first.first ∷ c.in_ok-second.second ∷ []) c.state_equal.result c.state_equal.ensures.added
    c.state_equal.ensures.err)
