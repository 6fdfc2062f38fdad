use Rattle.std.specs.Prelude.{List, [], ◌∷◌, ◌≡◌, Some}
use Rattle.std.proofs.Common.{sym, subst}
use Rattle.ae_math.specs.Fractions.{ratio, neg_ℚ, one_ℚ}
use Rattle.ae_math.specs.Forms.{Form, scale as scale_form}
use Rattle.ae_num.specs.Forms.{meaning, SameMeaning, IfWide, first_wide, scale_steps}
use Rattle.ae_num.specs.declared.numbers.NumFail.{NumFail}
use Rattle.ae_store.specs.Growing.{IsFront}
use Rattle.ae_store.specs.Shapes.{shapes}
use Rattle.ae_store.specs.Terms.{terms, named}
use Rattle.ae_store.proofs.EnterLaws.{front_then}
use Rattle.ae_just.specs.declared.steps.Step.{Step}
use Rattle.ae_state_steps.specs.ValueSteps.{name_side, value_side}
use Rattle.ae_value_steps.proofs.Added.{front}
use Rattle.ae_value_table.specs.Table.{number_at}
use Rattle.ae_take_in.proofs.Numbers.{minus_normal, minus_ratio, minus_fits, negation_is}
use Rattle.ae_take_in.proofs.Steps.{by_one}
use Rattle.ae_take_in.proofs.joining.negation_of.Goals as goal

pub given-requires-clause-name : goal.given-requires-clause-name
given-requires-clause-name c = c.requires.on.of

pub multiple-requires-clause-by : goal.multiple-requires-clause-by
multiple-requires-clause-by c = minus_normal c.minus_one-by.result c.minus_one-by.ensures.form

pub multiple-requires-clause-is : goal.multiple-requires-clause-is
multiple-requires-clause-is c =
    let ts = terms (shapes c.args.store.now.nodes) in
    let by = c.minus_one-by.result in
    negation_is (named ts c.args.name) (named ts c.args.of) c.args.real (ratio by.constant by.den) c.requires.on.is (minus_ratio by c.minus_one-by.ensures.form)

pub returns-in-Ok-clause-given : goal.returns-in-Ok-clause-given
returns-in-Ok-clause-given c =
    let s = c.args.store.now in
    let v = c.args.values.now in
    let by = c.minus_one-by.result in
    let q : ratio by.constant by.den ≡ neg_ℚ one_ℚ = minus_ratio by c.minus_one-by.ensures.form in
    let number = c.in_ok-whole.ensures.number in
    let same : ◌≡◌ {A = Form _} (scale_form (ratio by.constant by.den) (meaning c.in_ok-whole.whole.value)) (scale_form (neg_ℚ one_ℚ) (meaning (number_at v c.args.of))) = λ i. scale_form (q i) (meaning (number i)) in
    by_one s.signature (terms (shapes s.nodes)) v c.args.real c.args.name (scale_form (neg_ℚ one_ℚ) (meaning (number_at v c.args.of))) c.in-Ok.given (subst (SameMeaning (meaning c.in-Ok.given.value)) same c.in-Ok.ensures.multiple)
    c.in-Ok.ensures.written c.args.justs.now c.given.new.justs c.multiple.new.justs c.multiple.ensures.fits c.in_ok-whole.whole c.in_ok-whole.ensures.rests c.in-Ok.ensures.added

pub returns-in-Ok-clause-front : goal.returns-in-Ok-clause-front
returns-in-Ok-clause-front c =
    let g = c.in-Ok.given in
    front_then c.args.justs.now c.given.new.justs c.multiple.new.justs c.given.ensures.front
    (front c.given.new.justs c.multiple.new.justs g.step (name_side c.args.real c.args.name g.value) (value_side c.args.real g.value) (c.in_ok-whole.whole.step ∷ []) c.in-Ok.ensures.added)

pub returns-in-Memory-clause-front : goal.returns-in-Memory-clause-front
returns-in-Memory-clause-front c = subst (λ (js : List Step). IsFront c.args.justs.now js) (sym c.in-Err.ensures.err) c.given.ensures.front

pub unreachable-requires : goal.unreachable-requires
unreachable-requires c =
    let by = c.minus_one-by.result in
    let wide = subst (λ (x : NumFail). IfWide x (λ w. first_wide (scale_steps by.constant by.den c.in_ok-whole.whole.value) ≡ Some w)) c.in-Wide.is c.in-Err.ensures.wide in
    absurd (minus_fits by c.in_ok-whole.whole.value c.in-Wide._wide c.minus_one-by.ensures.form c.in_ok-whole.ensures.stated.written.normal wide)
