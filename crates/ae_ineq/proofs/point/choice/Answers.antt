use Rattle.std.proofs.Common.{◌≡◌, refl, sym, ap, ◌∙◌, subst, pos, Some, None}
use Rattle.std.specs.Prelude.{Option}
use Rattle.std.proofs.lemmas.Result.{IfOk-weaker}
use Rattle.ae_math.specs.Fractions.{one_ℚ, neg_ℚ, ◌+ℚ◌}
use Rattle.ae_num.specs.declared.forms.Lin.{Lin}
use Rattle.ae_num.proofs.MeaningLaws.{ratio_zero}
use Rattle.ae_journal.specs.declared.answers.NumStep.TheVariants.{Plus}
use Rattle.ae_ineq.specs.Widths.{IsWideAt}
use Rattle.ae_ineq.specs.Inner.Points.{IsNumber, IsNumberOrNone, amount, IsChosen}
use Rattle.ae_ineq.specs.Inner.Steps.{IsChoiceStep}
use Rattle.ae_ineq.specs.Inner.Steps.IsChoiceStep.{above, beneath}
use Rattle.ae_ineq.proofs.Bests.{one_amount}
use Rattle.ae_ineq.proofs.StepLaws.{wide_from, amount_is}
use Rattle.ae_ineq.proofs.point.choice.Goals as goal

pub returns-in-None-upper-clause-chosen : goal.returns-in-None-upper-clause-chosen
returns-in-None-upper-clause-chosen c =
    let low = c.in-Some.low in
    IfOk-weaker c.added.result (λ (v : Lin). amount v ≡ amount low +ℚ amount c.one.result) (λ (v : Lin). IsChosen c.args.lower c.args.upper (amount v))
    (λ (v : Lin) s. subst (λ (o : Option Lin). IsChosen o c.args.upper (amount v)) (sym c.in-Some.is) (subst (λ (o : Option Lin). IsChosen (Some low) o (amount v)) (sym c.in-None-upper.is)
    (s ∙ ap (λ t. amount low +ℚ t) (ap amount c.one.ensures.form ∙ one_amount)))) c.added.ensures.value

pub returns-in-None-upper-clause-wide : goal.returns-in-None-upper-clause-wide
returns-in-None-upper-clause-wide c =
    let low = c.in-Some.low in
    let r = c.one.result in
    let number : IsNumber low = subst IsNumberOrNone c.in-Some.is c.requires.lower in
    λ w e. subst (λ (o : Option Lin). IsWideAt (IsChoiceStep o c.args.upper) w) (sym c.in-Some.is) (subst (λ (o : Option Lin). IsWideAt (IsChoiceStep (Some low) o) w) (sym c.in-None-upper.is)
    (wide_from (IsChoiceStep (Some low) None) Plus low None r w (c.added.ensures.wide w e)
    (above low low r (amount_is low (amount low) number refl)
    (amount_is r one_ℚ (record { normal = c.one.ensures.normal; bare = ap (λ (f : Lin). f.parts) c.one.ensures.form }) (ap amount c.one.ensures.form ∙ one_amount)))))

pub returns-in-Some-upper-2-clause-chosen : goal.returns-in-Some-upper-2-clause-chosen
returns-in-Some-upper-2-clause-chosen c =
    let high = c.in-Some-upper-2.high in
    IfOk-weaker c.added-in-Some-upper-2.result (λ (v : Lin). amount v ≡ amount high +ℚ amount c.opposite.result) (λ (v : Lin). IsChosen c.args.lower c.args.upper (amount v))
    (λ (v : Lin) s. subst (λ (o : Option Lin). IsChosen o c.args.upper (amount v)) (sym c.in-None.is) (subst (λ (o : Option Lin). IsChosen None o (amount v)) (sym c.in-Some-upper-2.is)
    (s ∙ ap (λ t. amount high +ℚ t) (c.opposite.ensures.value ∙ ap neg_ℚ (ap amount c.one-in-Some-upper-2.ensures.form ∙ one_amount))))) c.added-in-Some-upper-2.ensures.value

pub returns-in-Some-upper-2-clause-wide : goal.returns-in-Some-upper-2-clause-wide
returns-in-Some-upper-2-clause-wide c =
    let high = c.in-Some-upper-2.high in
    let r = c.opposite.result in
    let number : IsNumber high = subst IsNumberOrNone c.in-Some-upper-2.is c.requires.upper in
    λ w e. subst (λ (o : Option Lin). IsWideAt (IsChoiceStep o c.args.upper) w) (sym c.in-None.is) (subst (λ (o : Option Lin). IsWideAt (IsChoiceStep None o) w) (sym c.in-Some-upper-2.is)
    (wide_from (IsChoiceStep None (Some high)) Plus high None r w (c.added-in-Some-upper-2.ensures.wide w e)
    (beneath high high r (amount_is high (amount high) number refl)
    (amount_is r (neg_ℚ one_ℚ) c.opposite.ensures.number (c.opposite.ensures.value ∙ ap neg_ℚ (ap amount c.one-in-Some-upper-2.ensures.form ∙ one_amount))))))

pub returns-in-None-upper-2-clause-chosen : goal.returns-in-None-upper-2-clause-chosen
returns-in-None-upper-2-clause-chosen c =
    subst (λ (o : Option Lin). IsChosen o c.args.upper (amount c.zero.result)) (sym c.in-None.is)
    (subst (λ (o : Option Lin). IsChosen None o (amount c.zero.result)) (sym c.in-None-upper-2.is) (ap amount c.zero.ensures.form ∙ ratio_zero (pos 1)))
