use Rattle.std.proofs.Common.{ℕ, ◌≡◌, rules, sym, ap, ◌∙◌, subst, to_z, of_z, Some, None}
use Rattle.std.proofs.lemmas.Int.{to_z-of_z}
use mir.Syntax.{w128}
use Rattle.ae_math.specs.Fractions.{ℚ, ratio, inverse_ℚ, neg_ℚ, ◌*ℚ◌}
use Rattle.ae_num.specs.declared.forms.Lin.{Lin}
use Rattle.ae_num.specs.Forms.{meaning}
use Rattle.ae_num.specs.Limits.{FitsLimits}
use Rattle.std.proofs.lemmas.Result.{IfOk-weaker}
use Rattle.ae_rows.specs.Rows.{bound_at}
use Rattle.ae_ineq.specs.Inner.Sets.{last_part}
use Rattle.ae_ineq.specs.Inner.Points.{Agrees}
use Rattle.ae_ineq.proofs.LastLaws.{last_nonzero, last_within}
use Rattle.ae_ineq.proofs.Bounding.{bound_is, never_none, last_is_name}
use Rattle.ae_ineq.proofs.StepLaws.{divide_wide, same_fail}
use Rattle.ae_ineq.proofs.point.bound.Goals as goal

pub quotient-requires-clause-factor : goal.quotient-requires-clause-factor
quotient-requires-clause-factor c =
    let e : last_part c.in_ok-form.form.parts ≡ Some c.in-Some.part = ap last_part (sym c.as_slice.ensures) ∙ sym c.last.ensures ∙ c.in-Some.is in
    λ h. last_nonzero c.in_ok-form.form c.in-Some.part c.in_ok-form.ensures.normal e (sym (to_z-of_z w128 c.in-Some.part.factor (search rules)) ∙ h)

pub quotient-requires-clause-within : goal.quotient-requires-clause-within
quotient-requires-clause-within c =
    let e : last_part c.in_ok-form.form.parts ≡ Some c.in-Some.part = ap last_part (sym c.as_slice.ensures) ∙ sym c.last.ensures ∙ c.in-Some.is in
    subst FitsLimits (sym (to_z-of_z w128 c.in-Some.part.factor (search rules))) (last_within c.in_ok-form.form c.in-Some.part c.in_ok-form.ensures.normal e)

pub unreachable-requires : goal.unreachable-requires
unreachable-requires c =
    let e : last_part c.in_ok-form.form.parts ≡ None = ap last_part (sym c.as_slice.ensures) ∙ sym c.last.ensures ∙ c.in-None.is in
    never_none c.in_ok-form.form c.args.name e (λ h. c.requires.factor (sym c.in_ok-form.ensures.factor ∙ h))

pub returns-clause-value : goal.returns-clause-value
returns-clause-value c =
    let a = c.in_ok-form.ensures in
    let f = c.in_ok-form.form in
    let p = c.in-Some.part in
    let e : last_part f.parts ≡ Some p = ap last_part (sym c.as_slice.ensures) ∙ sym c.last.ensures ∙ c.in-Some.is in
    IfOk-weaker c.quotient.result (λ (b : Lin). ratio b.constant b.den ≡ neg_ℚ (ratio f.constant f.den) *ℚ inverse_ℚ (ratio (to_z w128 (of_z w128 p.factor)) f.den))
    (λ (b : Lin). (e : ℕ → ℚ) → Agrees c.args.name c.args.point.now e → ratio b.constant b.den ≡ bound_at e c.args.name (meaning c.args.row.now))
    (λ (b : Lin) h. λ v g. bound_is c.args.row.now f p b c.args.name v a.normal e (a.values v g) a.others a.factor (h ∙ (λ i. neg_ℚ (ratio f.constant f.den) *ℚ inverse_ℚ (ratio (to_z-of_z w128 p.factor (search rules) i) f.den))))
    c.quotient.ensures.value

pub returns-in_err-form-clause-wide : goal.returns-in_err-form-clause-wide
returns-in_err-form-clause-wide c = λ w e. c.in_err-form.ensures.wide w (same_fail c.from_residual.result c.in_err-form.field-0.0 w c.from_residual.ensures.1 e)

pub returns-clause-wide : goal.returns-clause-wide
returns-clause-wide c =
    let a = c.in_ok-form.ensures in
    let f = c.in_ok-form.form in
    let p = c.in-Some.part in
    let e : last_part f.parts ≡ Some p = ap last_part (sym c.as_slice.ensures) ∙ sym c.last.ensures ∙ c.in-Some.is in
    λ w h. λ v g.
    divide_wide v c.args.name c.args.row.now f (ratio (to_z w128 (of_z w128 p.factor)) f.den) w (a.placed v g) a.others
    ((λ i. ratio (to_z-of_z w128 p.factor (search rules) i) f.den) ∙ last_is_name f p c.args.name a.normal e a.others) (c.quotient.ensures.wide w h)
