use Rattle.std.specs.Prelude.{ℕ, ◌≡◌, List, [], ◌∷◌}
use Rattle.std.proofs.Common.{sym, ap, ◌∙◌, subst}
use Rattle.ae_math.specs.Fractions.{ℚ, ratio}
use Rattle.ae_math.specs.Forms.{Form, scale as scale_form}
use Rattle.ae_num.specs.Forms.{meaning, SameMeaning}
use Rattle.ae_num.specs.declared.forms.Lin.{Lin}
use Rattle.ae_rules.specs.Linear.{form, IsSame}
use Rattle.ae_store.specs.Growing.{IsFront}
use Rattle.ae_store.specs.Shapes.{shapes}
use Rattle.ae_store.specs.Terms.{terms, named}
use Rattle.ae_store.proofs.EnterLaws.{front_then}
use Rattle.ae_just.specs.declared.steps.Step.{Step}
use Rattle.ae_journal.specs.declared.answers.NumStep.TheVariants as num
use Rattle.ae_state_steps.specs.ValueSteps.{name_side, value_side}
use Rattle.ae_value_steps.proofs.Added.{front}
use Rattle.ae_value_table.specs.Table.{number_at}
use Rattle.ae_take_in.proofs.Steps.{by_one}
use Rattle.ae_take_in.proofs.Widths.{wide_same}
use Rattle.ae_take_in.proofs.products.scaled.Goals as goal

pub given-requires-clause-name : goal.given-requires-clause-name
given-requires-clause-name c = c.requires.of

pub multiple-requires-clause-is : goal.multiple-requires-clause-is
multiple-requires-clause-is c =
    let ts = terms (shapes c.args.store.now.nodes) in
    let by = c.in_ok-factor.factor in
    let e : ratio by.constant by.den ≡ (form (named ts c.args.by)).constant = ap (λ (l : Lin). ratio l.constant l.den) c.in_ok-factor.ensures.number ∙ c.requires.constant.constants in
    subst (λ (y : ℚ). IsSame (form (named ts c.args.name)) (scale_form y (form (named ts c.args.of)))) (sym e) c.requires.is

pub returns-in-Ok-clause-given : goal.returns-in-Ok-clause-given
returns-in-Ok-clause-given c =
    let s = c.args.store.now in
    let ts = terms (shapes s.nodes) in
    let v = c.args.values.now in
    let by = c.in_ok-factor.factor in
    let e : ratio by.constant by.den ≡ (form (named ts c.args.by)).constant = ap (λ (l : Lin). ratio l.constant l.den) c.in_ok-factor.ensures.number ∙ c.requires.constant.constants in
    let number = c.in_ok-whole.ensures.number in
    let same : ◌≡◌ {A = Form ℕ} (scale_form (ratio by.constant by.den) (meaning c.in_ok-whole.whole.value)) (scale_form ((form (named ts c.args.by)).constant) (meaning (number_at v c.args.of))) = λ i. scale_form (e i) (meaning (number i)) in
    by_one s.signature ts v c.args.real c.args.name (scale_form ((form (named ts c.args.by)).constant) (meaning (number_at v c.args.of))) c.in-Ok.given (subst (SameMeaning (meaning c.in-Ok.given.value)) same c.in-Ok.ensures.multiple)
    c.in-Ok.ensures.written c.args.justs.now c.given.new.justs c.multiple.new.justs c.multiple.ensures.fits c.in_ok-whole.whole c.in_ok-whole.ensures.rests c.in-Ok.ensures.added

pub returns-in-Ok-clause-front : goal.returns-in-Ok-clause-front
returns-in-Ok-clause-front c =
    let g = c.in-Ok.given in
    front_then c.args.justs.now c.given.new.justs c.multiple.new.justs c.given.ensures.front
    (front c.given.new.justs c.multiple.new.justs g.step (name_side c.args.real c.args.name g.value) (value_side c.args.real g.value) (c.in_ok-whole.whole.step ∷ []) c.in-Ok.ensures.added)

pub returns-in-Err-clause-front : goal.returns-in-Err-clause-front
returns-in-Err-clause-front c = subst (λ (js : List Step). IsFront c.args.justs.now js) (sym c.in-Err.ensures.err) c.given.ensures.front

pub refused-requires-clause-left : goal.refused-requires-clause-left
refused-requires-clause-left c = c.in_ok-whole.ensures.stated.written.normal

pub refused-requires-clause-wide : goal.refused-requires-clause-wide
refused-requires-clause-wide c = c.in-Err.ensures.wide

pub returns-in-Err-clause-wide : goal.returns-in-Err-clause-wide
returns-in-Err-clause-wide c =
    let v = c.args.values.now in
    let by = c.in_ok-factor.factor in
    wide_same c.refused.result num.Scale c.in_ok-whole.whole.value (number_at v c.args.of) by (number_at v c.args.by) c.in_ok-whole.ensures.number c.in_ok-factor.ensures.number c.refused.ensures
