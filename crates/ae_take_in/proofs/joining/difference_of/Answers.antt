use Rattle.std.specs.Prelude.{pos, negsuc, List, [], ◌∷◌, ◌≡◌}
use Rattle.std.proofs.Common.{sym, ap, subst}
use Rattle.ae_math.specs.Forms.{Form, minus as minus_form}
use Rattle.ae_num.specs.Forms.{meaning, SameMeaning, multiple_of}
use Rattle.ae_store.specs.Growing.{IsFront}
use Rattle.ae_store.specs.Shapes.{shapes}
use Rattle.ae_store.specs.Terms.{terms}
use Rattle.ae_store.proofs.EnterLaws.{front_then}
use Rattle.ae_just.specs.declared.steps.Step.{Step}
use Rattle.ae_journal.specs.declared.answers.NumStep.TheVariants as num
use Rattle.ae_state_steps.specs.ValueSteps.{name_side, value_side}
use Rattle.ae_value_steps.proofs.Added.{front, stated_kept}
use Rattle.ae_value_table.specs.Table.{number_at}
use Rattle.ae_take_in.proofs.Resting.{said_longer}
use Rattle.ae_take_in.proofs.Steps.{by_two}
use Rattle.ae_take_in.proofs.Widths.{wide_same}
use Rattle.ae_take_in.proofs.joining.difference_of.Goals as goal

pub given-requires-clause-name : goal.given-requires-clause-name
given-requires-clause-name c = c.requires.on.left

pub given-requires-2-clause-name : goal.given-requires-2-clause-name
given-requires-2-clause-name c = c.requires.on.right

pub given-requires-2-clause-said : goal.given-requires-2-clause-said
given-requires-2-clause-said c =
    let s = c.args.store.now in said_longer s.signature (terms (shapes s.nodes)) c.args.justs.now c.given.new.justs c.given.ensures.front c.args.values.now c.requires.said

pub returns-in_err-second-clause-front : goal.returns-in_err-second-clause-front
returns-in_err-second-clause-front c = front_then c.args.justs.now c.given.new.justs c.given-2.new.justs c.given.ensures.front c.given-2.ensures.front

pub difference-requires-clause-left : goal.difference-requires-clause-left
difference-requires-clause-left c =
    let s = c.args.store.now in
    stated_kept s.signature (terms (shapes s.nodes)) c.given.new.justs c.given-2.new.justs c.given-2.ensures.front c.args.real c.args.left c.in_ok-first.first.value c.in_ok-first.first.step c.in_ok-first.ensures.stated

pub difference-requires-clause-is : goal.difference-requires-clause-is
difference-requires-clause-is c = c.requires.on.is

pub returns-in-Ok-clause-given : goal.returns-in-Ok-clause-given
returns-in-Ok-clause-given c =
    let s = c.args.store.now in
    let left = c.in_ok-first.ensures.number in
    let right = c.in_ok-second.ensures.number in
    let v = c.args.values.now in
    let same : ◌≡◌ {A = Form _} (minus_form (meaning c.in_ok-first.first.value) (meaning c.in_ok-second.second.value)) (minus_form (meaning (number_at v c.args.left)) (meaning (number_at v c.args.right))) =
    λ i. minus_form (meaning (left i)) (meaning (right i)) in
    by_two s.signature (terms (shapes s.nodes)) v c.args.real c.args.name (minus_form (meaning (number_at v c.args.left)) (meaning (number_at v c.args.right))) c.in-Ok.given
    (subst (SameMeaning (meaning c.in-Ok.given.value)) same c.in-Ok.ensures.difference) c.in-Ok.ensures.written
    c.args.justs.now c.given.new.justs c.given-2.new.justs c.difference.new.justs c.requires.said c.given.ensures.front c.given.ensures.fits c.given-2.ensures.front c.given-2.ensures.fits c.difference.ensures.fits
    c.in_ok-first.first c.in_ok-second.second c.args.left c.in_ok-first.ensures.stated c.in_ok-first.ensures.rests c.in_ok-second.ensures.rests c.in-Ok.ensures.added

pub returns-in-Ok-clause-front : goal.returns-in-Ok-clause-front
returns-in-Ok-clause-front c =
    let g = c.in-Ok.given in
    front_then c.args.justs.now c.given-2.new.justs c.difference.new.justs (front_then c.args.justs.now c.given.new.justs c.given-2.new.justs c.given.ensures.front c.given-2.ensures.front)
    (front c.given-2.new.justs c.difference.new.justs g.step (name_side c.args.real c.args.name g.value) (value_side c.args.real g.value) (c.in_ok-first.first.step ∷ c.in_ok-second.second.step ∷ []) c.in-Ok.ensures.added)

pub returns-in-Err-clause-front : goal.returns-in-Err-clause-front
returns-in-Err-clause-front c = subst (λ (js : List Step). IsFront c.args.justs.now js) (sym c.in-Err.ensures.err) (front_then c.args.justs.now c.given.new.justs c.given-2.new.justs c.given.ensures.front c.given-2.ensures.front)

pub difference_refused-requires-clause-left : goal.difference_refused-requires-clause-left
difference_refused-requires-clause-left c = c.in_ok-first.ensures.stated.written.normal

pub difference_refused-requires-clause-right : goal.difference_refused-requires-clause-right
difference_refused-requires-clause-right c = c.in_ok-second.ensures.stated.written.normal

pub difference_refused-requires-clause-wide : goal.difference_refused-requires-clause-wide
difference_refused-requires-clause-wide c = c.in-Err.ensures.wide

pub returns-in-Err-clause-wide : goal.returns-in-Err-clause-wide
returns-in-Err-clause-wide c =
    let v = c.args.values.now in
    wide_same c.difference_refused.result num.Plus c.in_ok-first.first.value (number_at v c.args.left) (multiple_of (negsuc 0) (pos 1) c.in_ok-second.second.value) (multiple_of (negsuc 0) (pos 1) (number_at v c.args.right))
    c.in_ok-first.ensures.number (ap (multiple_of (negsuc 0) (pos 1)) c.in_ok-second.ensures.number) c.difference_refused.ensures
