use Rattle.std.specs.Prelude.{pos, List, [], ◌∷◌}
use Rattle.std.proofs.Common.{sym, subst}
use Rattle.std.proofs.lemmas.Option.{slice_get_within}
use Rattle.ae_math.specs.Forms.{minus}
use Rattle.ae_num.specs.Forms.{meaning, SameMeaning}
use Rattle.ae_num.specs.declared.forms.Lin.{Lin}
use Rattle.ae_store.specs.Growing.{IsFront}
use Rattle.ae_store.proofs.EnterLaws.{front_then}
use Rattle.ae_just.specs.declared.steps.Side.TheVariants as side
use Rattle.ae_just.specs.declared.steps.Step.{Step}
use Rattle.ae_state_steps.specs.ValueSteps.{IsWritten, value_side}
use Rattle.ae_theory.specs.Names.{terms_in}
use Rattle.ae_value_steps.proofs.Added.{there, front, stated_kept, equal_kept}
use Rattle.ae_value_table.specs.Table.{number_at}
use Rattle.ae_equal_steps.proofs.Adding.{said_kept}
use Rattle.ae_number_solving.proofs.Resting.{three_rest}
use Rattle.ae_number_solving.proofs.OwnNumbers.{form_over}
use Rattle.ae_number_solving.proofs.SumWidths.{number_passed, same_difference_wide}
use Rattle.ae_number_solving.proofs.differences.zero_difference.Goals as goal

pub returns-in_err-form-clause-wide : goal.returns-in_err-form-clause-wide
returns-in_err-form-clause-wide c =
    let v = c.args.values.now in
    number_passed c.from_residual-in_err-form.result c.in_err-form.field-0.0 c.from_residual-in_err-form.ensures.1
    (λ w h. same_difference_wide c.in_ok-first.first c.in_ok-second.second (number_at v c.args.left) (number_at v c.args.right) w c.in_ok-first.ensures.number c.in_ok-second.ensures.number h) c.in_err-form.ensures.wide

-- ---- the steps of the two numbers
pub number_step-requires-clause-written : goal.number_step-requires-clause-written
number_step-requires-clause-written c =
    subst (IsWritten c.args.store.now.signature (terms_in c.args.store.now) c.args.real c.args.left) (sym c.in_ok-first.ensures.number) c.requires.left

pub number_step-requires-2-clause-said : goal.number_step-requires-2-clause-said
number_step-requires-2-clause-said c =
    said_kept c.args.store.now.signature (terms_in c.args.store.now) c.args.justs.now c.number_step.new.justs c.number_step.ensures.front c.args.values.now c.requires.said

pub number_step-requires-2-clause-written : goal.number_step-requires-2-clause-written
number_step-requires-2-clause-written c =
    subst (IsWritten c.args.store.now.signature (terms_in c.args.store.now) c.args.real c.args.right) (sym c.in_ok-second.ensures.number) c.requires.right

pub returns-in_err-of_right-clause-front : goal.returns-in_err-of_right-clause-front
returns-in_err-of_right-clause-front c = front_then c.args.justs.now c.number_step.new.justs c.number_step-2.new.justs c.number_step.ensures.front c.number_step-2.ensures.front

-- ---- the step of their difference
pub state_apart-requires-clause-form : goal.state_apart-requires-clause-form
state_apart-requires-clause-form c =
    let s = c.args.store.now in
    let first = subst (IsWritten s.signature (terms_in s) c.args.real c.args.left) (sym c.in_ok-first.ensures.number) c.requires.left in
    let second = subst (IsWritten s.signature (terms_in s) c.args.real c.args.right) (sym c.in_ok-second.ensures.number) c.requires.right in
    form_over s.signature (terms_in s) c.args.real c.args.left c.args.right c.in_ok-first.first c.in_ok-second.second c.in_ok-form.form first second c.in_ok-form.ensures.normal c.in_ok-form.ensures.means

pub state_apart-requires-clause-left : goal.state_apart-requires-clause-left
state_apart-requires-clause-left c =
    stated_kept c.args.store.now.signature (terms_in c.args.store.now) c.number_step.new.justs c.number_step-2.new.justs c.number_step-2.ensures.front c.args.real c.args.left c.in_ok-first.first c.in_ok-of_left.of_left
    c.in_ok-of_left.ensures.stated

pub state_apart-requires-clause-equal : goal.state_apart-requires-clause-equal
state_apart-requires-clause-equal c =
    let j = c.args.justs.now in
    let last = c.number_step-2.new.justs in
    equal_kept j last (front_then j c.number_step.new.justs last c.number_step.ensures.front c.number_step-2.ensures.front) c.args.equal c.args.left c.args.right c.requires.equal

pub returns-in_err-zero-clause-front : goal.returns-in_err-zero-clause-front
returns-in_err-zero-clause-front c =
    let j = c.args.justs.now in
    let last = c.number_step-2.new.justs in
    subst (λ (steps : List Step). IsFront j steps) (sym c.in_err-zero.ensures.err) (front_then j c.number_step.new.justs last c.number_step.ensures.front c.number_step-2.ensures.front)

-- ---- the answer
pub returns-clause-means : goal.returns-clause-means
returns-clause-means c =
    let a = c.in_ok-first.ensures.number in
    let b = c.in_ok-second.ensures.number in
    subst (λ (x : Lin × Lin). SameMeaning (meaning c.in_ok-form.form) (minus (meaning x.0) (meaning x.1))) (λ i. (a i, b i)) c.in_ok-form.ensures.means

pub returns-clause-over : goal.returns-clause-over
returns-clause-over c =
    let s = c.args.store.now in
    let first = subst (IsWritten s.signature (terms_in s) c.args.real c.args.left) (sym c.in_ok-first.ensures.number) c.requires.left in
    let second = subst (IsWritten s.signature (terms_in s) c.args.real c.args.right) (sym c.in_ok-second.ensures.number) c.requires.right in
    form_over s.signature (terms_in s) c.args.real c.args.left c.args.right c.in_ok-first.first c.in_ok-second.second c.in_ok-form.form first second c.in_ok-form.ensures.normal c.in_ok-form.ensures.means

pub returns-clause-zero : goal.returns-clause-zero
returns-clause-zero c =
    let a = c.in_ok-zero.ensures.added in
    record {
      by = a.by;
      there =
          there c.number_step-2.new.justs c.state_apart.new.justs c.in_ok-zero.zero (value_side c.args.real c.in_ok-form.form) (side.Sum [] (pos 0) c.args.real) (c.args.equal ∷ c.in_ok-of_left.of_left ∷ c.in_ok-of_right.of_right ∷ []) a;
    }

pub returns-clause-rests : goal.returns-clause-rests
returns-clause-rests c =
    let s = c.args.store.now in
    let j = c.args.justs.now in
    let mid = c.number_step.new.justs in
    let last = c.number_step-2.new.justs in
    three_rest s.signature (terms_in s) c.args.values.now j mid last c.number_step.ensures.front c.number_step.ensures.fits c.number_step-2.ensures.front c.number_step-2.ensures.fits c.requires.said c.state_apart.new.justs
    c.args.equal c.in_ok-of_left.of_left c.in_ok-of_right.of_right c.in_ok-zero.zero (value_side c.args.real c.in_ok-form.form) (side.Sum [] (pos 0) c.args.real) (slice_get_within j c.args.equal _ c.requires.equal.there)
    (slice_get_within mid c.in_ok-of_left.of_left _ c.in_ok-of_left.ensures.stated.stated.there) c.in_ok-of_left.ensures.rests c.in_ok-of_right.ensures.rests c.in_ok-zero.ensures.added c.state_apart.ensures.fits

pub returns-clause-front : goal.returns-clause-front
returns-clause-front c =
    let j = c.args.justs.now in
    let last = c.number_step-2.new.justs in
    front_then j last c.state_apart.new.justs (front_then j c.number_step.new.justs last c.number_step.ensures.front c.number_step-2.ensures.front)
    (front last c.state_apart.new.justs c.in_ok-zero.zero (value_side c.args.real c.in_ok-form.form) (side.Sum [] (pos 0) c.args.real) (c.args.equal ∷ c.in_ok-of_left.of_left ∷ c.in_ok-of_right.of_right ∷ []) c.in_ok-zero.ensures.added)
